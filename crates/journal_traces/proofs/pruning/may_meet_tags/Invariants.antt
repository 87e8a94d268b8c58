use Rattle.std.proofs.Common.{◌≡◌, ◌<◌, ℕ, get_or, bit_or}
use Rattle.journal_traces.proofs.pruning.may_meet_tags.Given as goal

abbrev pub invariant-loop-word : goal.invariant-loop-word
invariant-loop-word l = (k : ℕ) → k < l.word → bit_or (get_or l.bits k 0) (get_or l.mask k 0) ≡ get_or l.bits k 0
