use Rattle.std.proofs.Common.{◌≡◌, ◌||◌, ◌&&◌, ℕ, List, take}
use Rattle.find_traces.specs.RequestedPairs.{is_in, wants, has_pair, pairs_lent}
use Rattle.find_traces.proofs.RequestedPairs.{fields_of}
use Rattle.find_traces.proofs.judged_process.add_fields.Given as goal

abbrev pub invariant-loop-log : goal.invariant-loop-log
invariant-loop-log l =
    (a : List ℕ × List ℕ) → is_in (pairs_lent l.pairs.keys) a
    ≡ (is_in (pairs_lent l.fn.pairs.keys) a || (wants l.prepared (pairs_lent l.others.keys) a && has_pair (fields_of (take l.log-index l.logs)) a))
