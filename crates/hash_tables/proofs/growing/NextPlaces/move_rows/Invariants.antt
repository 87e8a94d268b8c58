use Rattle.std.proofs.Common.{◌≡◌, length, take}
use Rattle.std.specs.Prelude.{vec_capacity}
use Rattle.hash_tables.specs.RowPlaces.{LeadsIn}
use Rattle.hash_tables.proofs.growing.NextPlaces.move_rows.Given as goal

abbrev pub invariant-loop-row : goal.invariant-loop-row
invariant-loop-row g l = record {
  places : length l.self.slots.items ≡ length l.fn.self.slots.items;
  leads : LeadsIn (take l.row (g.S.Sought.hashes l.rows)) l.self.slots.items;
  capacity : vec_capacity l.self.slots ≡ vec_capacity l.fn.self.slots;
}
