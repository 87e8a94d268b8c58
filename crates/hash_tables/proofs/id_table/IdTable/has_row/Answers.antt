use Rattle.std.proofs.Common.{◌≡◌, ◌∙◌, ◌<◌, length, sym, ap, arith, Some}
use Rattle.std.specs.Prelude.{position}
use Rattle.std.proofs.lemmas.Bool.{OnTrue_from}
use Rattle.std.proofs.lemmas.List.{get_or_read}
use Rattle.jaeger_model.specs.Parents.{same_trace}
use Rattle.hash_tables.specs.IdRows.{Rows, no_id}
use Rattle.hash_tables.proofs.IdProbes.{same_is, position_some}
use Rattle.hash_tables.proofs.id_table.IdTable.has_row.Goals as goal

pub returns-then-row-len : goal.returns-then-row-len
returns-then-row-len c =
    let ids = c.self.inside.ids.items in
    let id = c.args.id in
    let below : c.args.row < length ids = omega arith in
    OnTrue_from c.eq.result (position (same_trace id) c.args.self.now.ids ≡ Some c.args.row)
    (λ yes. ap (λ (w : Rows). position (same_trace id) w.ids) (sym c.self.view_is)
    ∙ sym (position_some id ids c.args.row below
    (sym (get_or_read ids c.args.row c.index.result.now below c.index.ensures no_id) ∙ same_is c.index.result.now id (sym c.eq.ensures ∙ yes))
    c.self.invariant.once))
