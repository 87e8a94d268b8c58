use Rattle.std.proofs.Common.{◌≡◌, ℕ, List, length, take}
use Rattle.std.specs.List.{list_any}
use Rattle.std.specs.Ordering.{eq_by_cmp, nat_cmp}
use Rattle.find_traces.proofs.prepared.lengths_of.Given as goal

abbrev pub invariant-loop-pair : goal.invariant-loop-pair
invariant-loop-pair l =
    (n : ℕ) → list_any (eq_by_cmp nat_cmp n) l.lengths.keys
    ≡ list_any (λ (a : List ℕ × List ℕ). eq_by_cmp nat_cmp n (length a.1)) (take l.pair-index l.requested)
