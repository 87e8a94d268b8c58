use Rattle.std.proofs.Common.{◌≡◌, take}
use Rattle.std.specs.List.{fold}
use Rattle.arrival_journal.specs.TagBits.{with_tag, fields_of}
use Rattle.arrival_journal.proofs.tagging.add_logs.Given as goal

abbrev pub invariant-loop-log : goal.invariant-loop-log
invariant-loop-log l = l.bits ≡ fold with_tag l.initial.bits (fields_of (take l.log-index l.logs))
