use Rattle.std.proofs.Common.{◌≡◌, ◌∙◌, Bool, ℕ, List, length, ap, sym, subst}
use Rattle.std.specs.Prelude.{position}
use Rattle.std.proofs.lemmas.List.{length-map}
use Rattle.jaeger_model.specs.declared.ids.TraceId.{TraceId}
use Rattle.jaeger_model.specs.Parents.{same_trace}
use Rattle.hash_tables.specs.RowPlaces.{Found}
use Rattle.hash_tables.specs.IdRows.{Rows, id_at}
use Rattle.hash_tables.specs.IdProbes.{hash_of}
use Rattle.hash_tables.proofs.IdProbes.{found_at}
use Rattle.hash_tables.proofs.id_table.IdTable.find.Goals as goal

pub returns : goal.returns
returns c =
    let t = c.self.inside in
    let id = c.args.id in
    let found = subst (λ (xs : List TraceId). Found (length xs) (λ row. same_trace (id_at xs row) id) c.find.result) c.deref.ensures.value
    (subst (λ (n : ℕ). Found n (λ row. same_trace (id_at c.deref.result.now row) id) c.find.result) (length-map c.deref.result.now (hash_of t.keys))
    c.find.ensures) in
    found_at t.ids.items id c.self.invariant.once c.find.result found ∙ ap (λ (w : Rows). position (same_trace id) w.ids) c.self.view_is
