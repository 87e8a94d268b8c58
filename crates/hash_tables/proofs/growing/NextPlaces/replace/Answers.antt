use Rattle.std.proofs.Common.{List, ℕ, take, sym, subst, arith}
use Rattle.hash_tables.specs.RowPlaces.{LeadsIn}
use Rattle.hash_tables.proofs.MarkedRows.{leads_filled}
use Rattle.hash_tables.proofs.growing.NextPlaces.replace.Goals as goal

pub move_rows-requires-clause-leads : goal.move_rows-requires-clause-leads
move_rows-requires-clause-leads g c =
    let hashes = g.S.Sought.hashes c.args.rows.now in
    let next = c.args.self.now in
    subst (λ (slots : List ℕ). LeadsIn (take next.moved hashes) slots) (sym {A = List ℕ} c.add_free.ensures.items)
    (leads_filled hashes c.args.places next.slots.items next.moved c.requires.prepared (omega (arith, c.requires.half)))
