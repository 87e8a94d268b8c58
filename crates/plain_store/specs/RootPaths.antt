-- The path from a span up to its root, by the places of parents.
use Rattle.std.specs.Prelude.{ℕ, zero, suc, pos, List, [], ◌∷◌, map, get_or, reverse, fold, Option, Some, None, option_map}
use Rattle.jaeger_model.specs.declared.placed.Placed.{Placed}
use Rattle.jaeger_model.specs.Parents.{parent}
use Rattle.trace_model.specs.declared.clock.Clock.{Clock}
use Rattle.trace_model.specs.Adjusting.{host_of, clock_at, clock_below}

-- a place, followed by those that lead up from its parent, if it has one
abbrev pub path_through : ℕ → (ℕ → Option (List ℕ)) → Option ℕ → Option (List ℕ)
path_through k up None = Some (k ∷ [])
path_through k up (Some j) = option_map (λ above. k ∷ above) (up j)

-- the places from one up to its root; None if there are more than n
unfoldable pub path : ℕ → List (Option ℕ) → ℕ → Option (List ℕ)
path zero parents k = None
path (suc n) parents k = path_through k (λ j. path n parents j) (get_or parents k None)

-- the clock of a span below the one with this clock, or of a root
abbrev pub next_clock : ℕ → Option Clock → Placed → Option Clock
next_clock max_skew None p = Some (clock_at max_skew (host_of p) (pos 0) p.span)
next_clock max_skew (Some above) p = Some (clock_below max_skew above p)

-- the spans at the places, the last one first
abbrev pub downward : List Placed → List ℕ → Placed → List Placed
downward trace places d = reverse (map (λ k. get_or trace k d) places)

-- the clock of the first of the places, each of which is followed by its parent's
abbrev pub clock_down : ℕ → List Placed → List ℕ → Placed → Option Clock
clock_down max_skew trace places d = fold (next_clock max_skew) None (downward trace places d)
