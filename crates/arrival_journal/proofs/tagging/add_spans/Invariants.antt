use Rattle.std.proofs.Common.{◌≡◌, take, flat_map}
use Rattle.std.specs.List.{fold}
use Rattle.arrival_journal.specs.TagBits.{with_tag, own_tags}
use Rattle.arrival_journal.proofs.tagging.add_spans.Given as goal

abbrev pub invariant-loop-span : goal.invariant-loop-span
invariant-loop-span l = l.bits ≡ fold with_tag l.initial.bits (flat_map own_tags (take l.span-index l.spans))
