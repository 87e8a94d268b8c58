use Rattle.std.proofs.Common.{◌≡◌, ◌∙◌, ◌<◌, ◌++◌, ◌∷◌, [], ℕ, List, length, map, ap, sym, subst, arith}
use Rattle.std.proofs.lemmas.Bool.{OnTrue_at}
use Rattle.hash_tables.specs.RowPlaces.{LeadsTo, Found}
use Rattle.service_index.specs.Labels.{label_value}
use Rattle.service_index.specs.Probes.{Table, IsLabelTable, hash_of, hashes_of, row_of}
use Rattle.service_index.proofs.LinkedOperations.{number_known}
use Rattle.service_index.proofs.LabelProbes.{is_label, same_hash, row_in, row_is, found_of, numbers_in, numbers_are, named_more}
use Rattle.service_index.proofs.label_table.LabelTable.add.Goals as goal

pub returns-then-has_row-clause-row : goal.returns-then-has_row-clause-row
returns-then-has_row-clause-row g c =
    let labels = g.L.Labels.labels c.args.labels.now in
    let t = c.args.self.now in
    let held = OnTrue_at c.if-has_row.true c.has_row.ensures in
    held.1 ∙ ap (row_of labels t.numbers) c.label_at-label.ensures

pub returns-then-has_row-clause-numbers : goal.returns-then-has_row-clause-numbers
returns-then-has_row-clause-numbers g c =
    let labels = g.L.Labels.labels c.args.labels.now in
    let t = c.args.self.now in
    let held = OnTrue_at c.if-has_row.true c.has_row.ensures in
    let is = held.1 ∙ ap (row_of labels t.numbers) c.label_at-label.ensures in
    sym (number_known labels t.numbers c.args.n (subst (λ k. k < length t.numbers) is held.0))

pub find-requires-clause-hash : goal.find-requires-clause-hash
find-requires-clause-hash g c row =
    same_hash (g.L.Labels.labels c.args.labels.now) c.self.inside.keys c.deref.result.now (label_value c.label_at-label.result)
    c.label_hash-hash.result row c.label_hash-hash.ensures

pub returns-in-Some-clause-row : goal.returns-in-Some-clause-row
returns-in-Some-clause-row g c =
    let labels = g.L.Labels.labels c.args.labels.now in
    let t = c.args.self.now in
    let numbers : c.deref.result.now ≡ t.numbers = c.deref.ensures.value ∙ ap (λ (w : Table). w.numbers) c.self.view_is in
    let f = found_of labels c.self.inside.keys c.deref.result.now t.numbers _ (labels.at c.args.n)
    c.find.result numbers c.label_at-label.ensures c.find.ensures in
    ap (row_in t.numbers) (sym c.in-Some.is) ∙ row_is labels t (labels.at c.args.n) c.requires.leads c.find.result f

pub returns-in-Some-clause-numbers : goal.returns-in-Some-clause-numbers
returns-in-Some-clause-numbers g c =
    let labels = g.L.Labels.labels c.args.labels.now in
    let t = c.args.self.now in
    let numbers : c.deref.result.now ≡ t.numbers = c.deref.ensures.value ∙ ap (λ (w : Table). w.numbers) c.self.view_is in
    let f = found_of labels c.self.inside.keys c.deref.result.now t.numbers _ (labels.at c.args.n)
    c.find.result numbers c.label_at-label.ensures c.find.ensures in
    ap (λ (w : Table). w.numbers) c.self.view_is ∙ ap (numbers_in t.numbers c.args.n) (sym c.in-Some.is)
    ∙ numbers_are labels t c.args.n c.requires.leads c.find.result f

pub returns-clause-row : goal.returns-clause-row
returns-clause-row g c =
    let labels = g.L.Labels.labels c.args.labels.now in
    let t = c.args.self.now in
    let numbers : c.deref.result.now ≡ t.numbers = c.deref.ensures.value ∙ ap (λ (w : Table). w.numbers) c.self.view_is in
    let f = found_of labels c.self.inside.keys c.deref.result.now t.numbers _ (labels.at c.args.n)
    c.find.result numbers c.label_at-label.ensures c.find.ensures in
    let rows : c.len-row.result ≡ length t.numbers = (omega arith) ∙ ap (λ (w : Table). length w.numbers) c.self.view_is in
    rows ∙ ap (row_in t.numbers) (sym c.in-None.is) ∙ row_is labels t (labels.at c.args.n) c.requires.leads c.find.result f

pub returns-clause-numbers : goal.returns-clause-numbers
returns-clause-numbers g c =
    let labels = g.L.Labels.labels c.args.labels.now in
    let t = c.args.self.now in
    let numbers : c.deref.result.now ≡ t.numbers = c.deref.ensures.value ∙ ap (λ (w : Table). w.numbers) c.self.view_is in
    let f = found_of labels c.self.inside.keys c.deref.result.now t.numbers _ (labels.at c.args.n)
    c.find.result numbers c.label_at-label.ensures c.find.ensures in
    c.push_reserved.ensures.items ∙ ap (λ (w : Table). w.numbers ++ c.args.n ∷ []) c.self.view_is
    ∙ ap (numbers_in t.numbers c.args.n) (sym c.in-None.is) ∙ numbers_are labels t c.args.n c.requires.leads c.find.result f

pub returns-clause-leads : goal.returns-clause-leads
returns-clause-leads g c =
    let labels = g.L.Labels.labels c.args.labels.now in
    let inside = c.self.inside in
    let t : Table = record { numbers = inside.numbers.items; room = inside.places.room; keys = inside.keys; slots = inside.places.slots } in
    let leads : IsLabelTable labels t = subst (IsLabelTable labels) (sym c.self.view_is) c.requires.leads in
    let more = subst (λ (w : Table). length w.numbers < w.room) (sym c.self.view_is) c.requires.room in
    let f = found_of labels t.keys c.deref.result.now t.numbers _ (labels.at c.args.n)
    c.find.result c.deref.ensures.value c.label_at-label.ensures c.find.ensures in
    let none = subst (Found (length t.numbers) (is_label labels t.numbers (labels.at c.args.n))) c.in-None.is f in
    let slots = c.mark.new.self.slots in
    let hash : c.label_hash-hash.result ≡ hash_of t.keys (labels.at c.args.n) = c.label_hash-hash.ensures ∙ ap (hash_of t.keys) c.label_at-label.ensures in
    let marked = subst (λ (x : ℕ). LeadsTo (hashes_of t.keys (map labels.at t.numbers) ++ x ∷ []) slots) hash
    (subst (λ (xs : List ℕ). LeadsTo (hashes_of t.keys (map labels.at xs) ++ c.label_hash-hash.result ∷ []) slots)
    c.deref.ensures.value c.mark.ensures.leads) in
    subst (λ (xs : List ℕ). IsLabelTable labels (record { numbers = xs; room = c.mark.new.self.room; keys = t.keys; slots = slots }))
    (sym c.push_reserved.ensures.items)
    (subst (λ (n : ℕ). IsLabelTable labels (record { numbers = t.numbers ++ c.args.n ∷ []; room = n; keys = t.keys; slots = slots })) (sym c.mark.ensures.room)
    (named_more labels t c.args.n slots leads c.requires.held more none marked))
