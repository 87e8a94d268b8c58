use Rattle.std.proofs.Common.{◌≡◌, take, subst, arith}
use Rattle.hash_tables.specs.RowPlaces.{LeadsIn}
use Rattle.hash_tables.proofs.growing.NextPlaces.move_rows.Goals as goal

pub returns-clause-leads : goal.returns-clause-leads
returns-clause-leads g c =
    let all : c.loop-row.row ≡ c.args.end = omega (arith, c.loop-row.auto.row, c.loop-row.auto.row-end, c.loop-row-test.false, c.requires.end) in
    subst (λ row. LeadsIn (take row (g.S.Sought.hashes c.args.rows.now)) c.loop-row.self.slots.items) all c.loop-row.invariant.leads
