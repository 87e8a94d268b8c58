use Rattle.std.proofs.Common.{◌<◌}
use Rattle.hash_tables.specs.Sizes.{places_before}
use Rattle.hash_tables.proofs.growing.growths_for.Given as goal

abbrev pub invariant-loop-growths : goal.invariant-loop-growths
invariant-loop-growths l = 0 < places_before l.room l.growths
