use Rattle.std.proofs.Common.{◌≡◌, ◌<◌, length}
use Rattle.hash_tables.specs.RowPlaces.{steps, EachBefore}
use Rattle.hash_tables.proofs.PlaceWalks.{IsPassed}
use Rattle.hash_tables.proofs.slots.walk.Given as goal

abbrev pub invariant-loop-passed : goal.invariant-loop-passed
invariant-loop-passed g l = record {
  within : l.at < length l.slots;
  steps : l._passed < length l.slots → steps (length l.slots) l.start l.at ≡ l._passed;
  passed : EachBefore (IsPassed (g.S.Sought.is_sought l.sought)) l.slots l.start l._passed;
}
