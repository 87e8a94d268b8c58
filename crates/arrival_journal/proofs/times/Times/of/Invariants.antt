use Rattle.std.proofs.Common.{◌≡◌, take}
use Rattle.arrival_journal.specs.Times.{times_of}
use Rattle.arrival_journal.proofs.times.Times.of.Given as goal

abbrev pub invariant-loop-span : goal.invariant-loop-span
invariant-loop-span l = l.times ≡ times_of (take l.span-index l.spans)
