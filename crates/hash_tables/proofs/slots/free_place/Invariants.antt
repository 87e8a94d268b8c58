use Rattle.std.proofs.Common.{◌≡◌, ◌<◌, length}
use Rattle.hash_tables.specs.RowPlaces.{steps, AreTaken}
use Rattle.hash_tables.proofs.slots.free_place.Given as goal

abbrev pub invariant-loop-passed : goal.invariant-loop-passed
invariant-loop-passed l = record {
  within : l.at < length l.slots;
  steps : l._passed < length l.slots → steps (length l.slots) l.start l.at ≡ l._passed;
  taken : AreTaken l.slots l.start l._passed;
}
