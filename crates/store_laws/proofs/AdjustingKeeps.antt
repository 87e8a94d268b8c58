-- What adjusting leaves unchanged.
use Rattle.std.proofs.Common.{◌≡◌, ℕ, zero, suc, ℤ, pos, ◌+ℤ◌, ◌≤ℤ◌, Bool, true, false, List, [], ◌∷◌, ◌++◌, map, length, refl, sym, ap, ◌∙◌, subst, arith}
use Rattle.std.specs.Prelude.{Option, Some, None, option_map, is_some, if◌then◌else◌, IsSomeAnd, IfSome, slice_get}
use Rattle.std.specs.Ordering.{int_eq}
use Rattle.std.specs.List.{list_any, AllByRecursion}
use Rattle.std.proofs.lemmas.Bool.{false≢true}
use Rattle.std.proofs.lemmas.Int.{ints}
use Rattle.jaeger_model.specs.declared.span.Span.{Span}
use Rattle.jaeger_model.specs.declared.placed.Placed.{Placed}
use Rattle.trace_model.specs.declared.clock.Clock.{Clock}
use Rattle.trace_model.specs.ServiceLinks.{has_id, parent_in}
use Rattle.trace_model.specs.Adjusting.{unadjusted, is_applied, start_at, shifted, shifted_by, shown_after, skew_adjusted_after, skew_adjusted, clock_of}
use Rattle.trace_model.specs.Adjusting.{clock_within, clock_at, clock_below, is_elsewhere, host_of, new_delta, delta_between}
use Rattle.trace_model.specs.AdjustingTerms.{clock_by, IsInTime}
use Rattle.trace_model.proofs.ParentChains.{within_none, within_step, parent_has}
use Rattle.trace_model.proofs.StillSpans.{shifted_cases}

-- ---- the start that is shown
plus_none : (z d : ℤ) → int_eq d (pos 0) ≡ true → z +ℤ d ≡ z
plus_none z d e = grind (arith, ints)

pub shown_start : (m : ℕ) (d : ℤ) (p : Placed) → (shifted m d p).placed.span.start ≡ start_at m d p.span
shown_start m d p =
    shifted_cases (λ s. s.placed.span.start ≡ start_at m d p.span) m d p
    (λ z. elim (is_applied m d p.span) as (λ b. p.span.start ≡ (if b then p.span.start +ℤ d else p.span.start)) [
      | true ↦ sym (plus_none p.span.start d z)
      | false ↦ refl
    ])
    (λ _ e. sym (ap (λ b. if b then p.span.start +ℤ d else p.span.start) e)) (λ e. sym (ap (λ b. if b then p.span.start +ℤ d else p.span.start) e))

-- ---- spans that reach no root
module _ (m : ℕ) (trace : List Placed) (among : Placed → Bool)
    (inside : (p : Placed) → among p ≡ true → IsSomeAnd (parent_in trace p) (λ q. among q ≡ true)) where
  none_by : (p : Placed) (above : Placed → Option Clock) → ((q : Placed) → among q ≡ true → above q ≡ None) → (o : Option Placed)
      → IsSomeAnd o (λ q. among q ≡ true) → clock_by m above p o ≡ None
  none_by p above h None s = absurd s
  none_by p above h (Some q) s = ap (option_map _) (h q s)

  none_at : (n : ℕ) (p : Placed) → among p ≡ true → clock_within m n trace p ≡ None
  none_at zero p a = within_none m trace p
  none_at (suc n) p a = within_step m n trace p ∙ none_by p (clock_within m n trace) (none_at n) (parent_in trace p) (inside p a)

pub no_way_to_a_root : (m : ℕ) (trace : List Placed) (among : Placed → Bool)
    → ((p : Placed) → among p ≡ true → IsSomeAnd (parent_in trace p) (λ q. among q ≡ true)) → (p : Placed) → among p ≡ true → clock_of m trace p ≡ None
no_way_to_a_root m trace among inside p a = none_at m trace among inside (length trace) p a

-- ---- spans that reach no root are shown as reported
left_alone : (m : ℕ) (trace before : List Placed) (p : Placed) → clock_of m trace p ≡ None → shown_after m trace before p ≡ unadjusted p
left_alone m trace before p none =
    elim (list_any (has_id p.span.id) before) as (λ b. (if b then unadjusted p else shifted_by m p (clock_of m trace p)) ≡ unadjusted p) [
      | true ↦ refl
      | false ↦
          ap (shifted_by m p) none
    ]

shown_at : (m : ℕ) (trace before rest : List Placed) (k : ℕ) (p : Placed) → slice_get rest k ≡ Some p → clock_of m trace p ≡ None
    → slice_get (skew_adjusted_after m trace before rest) k ≡ Some (unadjusted p)
shown_at m trace before [] k p e none = absurd (false≢true (ap is_some e))
shown_at m trace before (q ∷ rest) zero p e none =
    let same : q ≡ p = cc in
    ap (λ r. Some (shown_after m trace before r)) same ∙ ap (λ s. Some s) (left_alone m trace before p none)
shown_at m trace before (q ∷ rest) (suc k) p e none = shown_at m trace (before ++ q ∷ []) rest k p e none

pub shown_as_it_came : (m : ℕ) (trace : List Placed) (among : Placed → Bool)
    → ((p : Placed) → among p ≡ true → IsSomeAnd (parent_in trace p) (λ q. among q ≡ true))
    → (k : ℕ) (p : Placed) → slice_get trace k ≡ Some p → among p ≡ true → slice_get (skew_adjusted m trace) k ≡ Some (unadjusted p)
shown_as_it_came m trace among inside k p e a = shown_at m trace [] trace k p e (no_way_to_a_root m trace among inside p a)

-- ---- a trace whose clocks agree
moved_by_nothing : (z : ℤ) → z +ℤ pos 0 ≡ z
moved_by_nothing z = omega (arith, ints)

start_stays : (m : ℕ) (d : ℤ) (s : Span) → d ≡ pos 0 → start_at m d s ≡ s.start
start_stays m d s e =
    elim (is_applied m d s) as (λ b. (if b then s.start +ℤ d else s.start) ≡ s.start) [
      | true ↦ ap (λ z. s.start +ℤ z) e ∙ moved_by_nothing s.start
      | false ↦
          refl
    ]

-- a clock that moves nothing, of a span and with its times
abbrev MovesNothing : Placed → Option Clock → Type 0
MovesNothing p None = Unit {0}
MovesNothing p (Some c) = (c.delta ≡ pos 0) × (c.start ≡ p.span.start) × (c.duration ≡ p.span.duration)

clock_moves_nothing : (m : ℕ) (host : List ℕ) (d : ℤ) (p : Placed) → d ≡ pos 0 → MovesNothing p (Some (clock_at m host d p.span))
clock_moves_nothing m host d p e = (e, start_stays m d p.span e, refl)

none_between : (start long s d : ℤ) → start ≤ℤ s → (d ≤ℤ long → (s +ℤ d) ≤ℤ (start +ℤ long)) → delta_between start long s d ≡ pos 0
none_between start long s d first last = grind (arith, ints)

below_moves_nothing : (m : ℕ) (p q : Placed) (c : Clock) → IsInTime p q → MovesNothing q (Some c) → MovesNothing p (Some (clock_below m c p))
below_moves_nothing m p q c inside still =
    elim (is_elsewhere c p) as (λ b.
    MovesNothing p (Some (if b then clock_at m (host_of p) (new_delta c p.span) p.span else clock_at m c.host c.delta p.span))) [
      | true ↦ clock_moves_nothing m (host_of p) (new_delta c p.span) p
          ((λ i. delta_between (still.1 i) (still.2 i) p.span.start p.span.duration)
          ∙ none_between q.span.start q.span.duration p.span.start p.span.duration inside.begins inside.ends)
      | false ↦ clock_moves_nothing m c.host c.delta p still.0
    ]

module _ (m : ℕ) (trace : List Placed) (agree : AllByRecursion (λ (p : Placed). IfSome (parent_in trace p) (λ q. IsInTime p q)) trace) where
  abbrev InTime : Placed → Type 0
  InTime p = IfSome (parent_in trace p) (λ q. IsInTime p q)

  through : (p q : Placed) → IsInTime p q → (o : Option Clock) → MovesNothing q o → MovesNothing p (option_map (λ c. clock_below m c p) o)
  through p q h None s = tt
  through p q h (Some c) s = below_moves_nothing m p q c h s

  by_parent : (n : ℕ) (p : Placed) → ((q : Placed) → InTime q → MovesNothing q (clock_within m n trace q)) → (o : Option Placed) → parent_in trace p ≡ o
      → IfSome o (λ q. IsInTime p q)
      → MovesNothing p (clock_by m (clock_within m n trace) p o)
  by_parent n p up None e h = clock_moves_nothing m (host_of p) (pos 0) p refl
  by_parent n p up (Some q) e h = through p q h (clock_within m n trace q) (up q (parent_has InTime trace p q e agree))

  nothing_within : (n : ℕ) (p : Placed) → InTime p → MovesNothing p (clock_within m n trace p)
  nothing_within zero p h = subst (MovesNothing p) (sym (within_none m trace p)) tt
  nothing_within (suc n) p h = subst (MovesNothing p) (sym (within_step m n trace p)) (by_parent n p (nothing_within n) (parent_in trace p) refl h)

  unmoved_by : (p : Placed) (o : Option Clock) → MovesNothing p o → shifted_by m p o ≡ unadjusted p
  unmoved_by p None h = refl
  unmoved_by p (Some c) h = ap (λ d. shifted m d p) h.0

  unmoved : (before : List Placed) (p : Placed) → InTime p → shown_after m trace before p ≡ unadjusted p
  unmoved before p h = elim (list_any (has_id p.span.id) before) as (λ b. (if b then unadjusted p else shifted_by m p (clock_of m trace p)) ≡ unadjusted p) [
    | true ↦ refl
    | false ↦ unmoved_by p (clock_of m trace p) (nothing_within (length trace) p h)
  ]

  all_unmoved : (before rest : List Placed) → AllByRecursion InTime rest → skew_adjusted_after m trace before rest ≡ map unadjusted rest
  all_unmoved before [] h = refl
  all_unmoved before (p ∷ rest) h = λ i. unmoved before p h.0 i ∷ all_unmoved (before ++ p ∷ []) rest h.1 i

pub agreeing_clocks : (m : ℕ) (trace : List Placed) → AllByRecursion (λ (p : Placed). IfSome (parent_in trace p) (λ q. IsInTime p q)) trace
    → skew_adjusted m trace ≡ map unadjusted trace
agreeing_clocks m trace agree = all_unmoved m trace agree [] trace agree
