use Rattle.std.proofs.Common.{◌≡◌, ◌||◌, ◌&&◌, ℕ, List, take}
use Rattle.find_traces.specs.RequestedPairs.{is_in, wants, has_pair, pairs_lent}
use Rattle.find_traces.proofs.judged_process.add_pairs.Given as goal

abbrev pub invariant-loop-tag : goal.invariant-loop-tag
invariant-loop-tag l =
    (a : List ℕ × List ℕ) → is_in (pairs_lent l.pairs.keys) a
    ≡ (is_in (pairs_lent l.fn.pairs.keys) a || (wants l.prepared (pairs_lent l.others.keys) a && has_pair (take l.tag-index l.tags) a))
