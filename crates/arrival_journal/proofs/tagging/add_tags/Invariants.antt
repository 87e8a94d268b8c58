use Rattle.std.proofs.Common.{◌≡◌, take}
use Rattle.std.specs.List.{fold}
use Rattle.arrival_journal.specs.TagBits.{with_tag}
use Rattle.arrival_journal.proofs.tagging.add_tags.Given as goal

abbrev pub invariant-loop-tag : goal.invariant-loop-tag
invariant-loop-tag l = l.bits ≡ fold with_tag l.initial.bits (take l.tag-index l.tags)
