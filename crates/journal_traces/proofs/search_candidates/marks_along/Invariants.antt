use Rattle.std.proofs.Common.{◌≡◌, ℕ, ◌++◌, List, map}
use Rattle.journal_traces.specs.MatchingSpans.{any_of, near_along}
use Rattle.journal_traces.proofs.search_candidates.marks_along.Given as goal

abbrev pub invariant-loop-place : goal.invariant-loop-place
invariant-loop-place l =
    (done : List ℕ) × (l.fn.places ≡ done ++ l.place-iterator)
    × (l.marks.items ≡ map (any_of (near_along l.filter l.store.journal.now.held.entries done)) l.ring.ids)
