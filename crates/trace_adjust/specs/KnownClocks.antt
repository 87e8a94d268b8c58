-- Clocks of the spans of a trace by their places, as far as they are known.
use Rattle.std.specs.Prelude.{◌≡◌, ℕ, suc, pos, ◌<◌, ◌⊎◌, Bool, not, List, [], ◌∷◌, length, get_or, count_by, Option, Some, None, option_map}
use Rattle.std.specs.Prelude.{is_some, IfSome, ℤ, ◌+ℤ◌, ◌==◌, ◌&&◌, cond, if◌then◌else◌}
use Rattle.std.specs.Ordering.{int_eq}
use Rattle.jaeger_model.specs.declared.placed.Placed.{Placed}
use Rattle.jaeger_model.specs.declared.span.Span.{Span}
use Rattle.jaeger_model.specs.Parents.{parent}
use Rattle.trace_model.specs.declared.clock.Clock.{Clock}
use Rattle.trace_model.specs.Adjusting.{host_of, clock_at, clock_below, clock_of, is_applied}
use Rattle.trace_adjust.specs.declared.known_deltas.KnownDelta.{KnownDelta}

-- the place of the first item that passes
abbrev pub first_place : {X : Type 0} → (X → Bool) → List X → Option ℕ
first_place test [] = None
first_place test (x ∷ xs) = cond (test x) (Some 0) (option_map suc (first_place test xs))

-- the place of the first span with the id
abbrev pub first_at : ℕ → List Placed → Option ℕ
first_at id ps = first_place (λ (p : Placed). p.span.id.0 == id) ps

-- the place of the parent
abbrev pub place_in : List Placed → Placed → Option ℕ
place_in trace p = if (parent p.span).0 == 0 then None else first_at (parent p.span).0 trace

-- the clock of a span by that of the span at the place, if that is known
abbrev pub clock_near : ℕ → List (Option Clock) → Placed → Option ℕ → Option Clock
clock_near max_skew cs p None = Some (clock_at max_skew (host_of p) (pos 0) p.span)
clock_near max_skew cs p (Some j) = option_map (λ (above : Clock). clock_below max_skew above p) (get_or cs j None)

-- the clock of a span with this delta
abbrev pub clock_with : ℕ → Placed → ℤ → Clock
clock_with max_skew p delta = clock_at max_skew (host_of p) delta p.span

-- the clocks of the spans with these deltas
abbrev pub clocks_with : ℕ → List Placed → List (Option ℤ) → List (Option Clock)
clocks_with max_skew [] ds = []
clocks_with max_skew (p ∷ ps) [] = []
clocks_with max_skew (p ∷ ps) (o ∷ ds) = option_map (clock_with max_skew p) o ∷ clocks_with max_skew ps ds

abbrev pub is_unset : {X : Type 0} → Option X → Bool
is_unset o = not (is_some o)

-- each clock that is set is the span's
abbrev pub AreRight : ℕ → List Placed → List (Option Clock) → Type 0
AreRight max_skew trace cs =
    (length cs ≡ length trace) × ((k : ℕ) (d : Placed) → k < length trace → (get_or cs k None ≡ None)
    ⊎ (get_or cs k None ≡ clock_of max_skew trace (get_or trace k d)))

-- the span at the place has a clock, or none can be set there
abbrev pub IsClosed : ℕ → List Placed → ℕ → List (Option Clock) → Type 0
IsClosed max_skew trace k cs = (d : Placed) → get_or cs k None ≡ None → clock_near max_skew cs (get_or trace k d) (place_in trace (get_or trace k d)) ≡ None

-- each of the first n spans has a clock, or none can be set there
abbrev pub AreClosed : ℕ → List Placed → ℕ → List (Option Clock) → Type 0
AreClosed max_skew trace n cs = (k : ℕ) → k < n → IsClosed max_skew trace k cs

-- each span has its clock, or None if it has none
abbrev pub AreClocks : ℕ → List Placed → List (Option Clock) → Type 0
AreClocks max_skew trace cs =
    (length cs ≡ length trace) × ((k : ℕ) (d : Placed) → k < length trace → get_or cs k None ≡ clock_of max_skew trace (get_or trace k d))

abbrev pub unset_count : {X : Type 0} → List (Option X) → ℕ
unset_count cs = count_by is_unset cs

-- the place of the parent by a table of first places
abbrev pub parent_at : (ℕ → Option ℕ) → Placed → Option ℕ
parent_at first p = if (parent p.span).0 == 0 then None else first (parent p.span).0

-- each delta that is known is that of the span's clock
abbrev pub AreSet : ℕ → List Placed → List (Option ℤ) → Type 0
AreSet max_skew trace ds = (length ds ≡ length trace) × AreRight max_skew trace (clocks_with max_skew trace ds)

-- each span's clock has the delta, or there is none
abbrev pub AreAllSet : ℕ → List Placed → List (Option ℤ) → Type 0
AreAllSet max_skew trace ds = (length ds ≡ length trace) × AreClocks max_skew trace (clocks_with max_skew trace ds)

-- whether the delta moves the span: one of 0 moves none
abbrev pub is_moved : ℕ → ℤ → Span → Bool
is_moved max_skew delta s = not (int_eq delta (pos 0)) && is_applied max_skew delta s

-- the mark says whether the delta moves the span
abbrev pub IsMarked : ℕ → Span → KnownDelta → Type 0
IsMarked max_skew s k = k.moves ≡ is_moved max_skew k.delta s

-- so does that of each delta that is known
abbrev pub AreMarked : ℕ → List Placed → List (Option KnownDelta) → Type 0
AreMarked max_skew trace ks = (k : ℕ) (d : Placed) → k < length trace → IfSome (get_or ks k None) (IsMarked max_skew (get_or trace k d).span)

-- the shown start of a span by its delta and the mark
abbrev pub start_with : KnownDelta → Span → ℤ
start_with k s = if k.moves then s.start +ℤ k.delta else s.start
