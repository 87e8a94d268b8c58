use Rattle.std.proofs.Common.{◌≡◌, ◌∙◌, length, refl, ap, sym, arith}
use Rattle.service_index.specs.Labels.{label_value}
use Rattle.service_index.specs.Probes.{Table}
use Rattle.service_index.proofs.LabelProbes.{same_hash, row_in, row_is, found_of}
use Rattle.service_index.proofs.label_table.LabelTable.row_of.Goals as goal

pub find-requires-clause-hash : goal.find-requires-clause-hash
find-requires-clause-hash g c row =
    same_hash (g.L.Labels.labels c.args.labels.now) c.self.inside.keys c.deref.result.now (label_value c.args.label)
    c.label_hash.result row c.label_hash.ensures

pub returns-in-Some : goal.returns-in-Some
returns-in-Some g c =
    let labels = g.L.Labels.labels c.args.labels.now in
    let t = c.args.self.now in
    let numbers : c.deref.result.now ≡ t.numbers = c.deref.ensures.value ∙ ap (λ (w : Table). w.numbers) c.self.view_is in
    let f = found_of labels c.self.inside.keys c.deref.result.now t.numbers _ (label_value c.args.label) c.find.result numbers refl c.find.ensures in
    ap (row_in t.numbers) (sym c.in-Some.is) ∙ row_is labels t (label_value c.args.label) c.requires c.find.result f

pub returns-in-None : goal.returns-in-None
returns-in-None g c =
    let labels = g.L.Labels.labels c.args.labels.now in
    let t = c.args.self.now in
    let numbers : c.deref.result.now ≡ t.numbers = c.deref.ensures.value ∙ ap (λ (w : Table). w.numbers) c.self.view_is in
    let f = found_of labels c.self.inside.keys c.deref.result.now t.numbers _ (label_value c.args.label) c.find.result numbers refl c.find.ensures in
    let rows : c.len.result ≡ length t.numbers = (omega arith) ∙ ap (λ (w : Table). length w.numbers) c.self.view_is in
    rows ∙ ap (row_in t.numbers) (sym c.in-None.is) ∙ row_is labels t (label_value c.args.label) c.requires c.find.result f
