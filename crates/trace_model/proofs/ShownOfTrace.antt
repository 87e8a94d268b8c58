-- The shown spans of one trace, as they change with one more event.
use Rattle.std.proofs.Common.{◌≡◌, ℕ, suc, zero, ◌+◌, ◌-◌, ◌<◌, ◌≤◌, Bool, true, false, ◌&&◌, ◌||◌, cond, List, [], ◌∷◌, ◌++◌, length, drop, refl, sym, ap}
use Rattle.std.proofs.Common.{subst, ◌∙◌, arith, eqb-true, length-append, append_assoc}
use Rattle.std.specs.Prelude.{filter, if◌then◌else◌}
use Rattle.std.specs.List.{list_any, list_all}
use Rattle.std.proofs.lemmas.Bool.{false≢true, false_from_ne_true}
use Rattle.std.proofs.lemmas.List.{drop-append-le, append-nil, length-drop}
use Rattle.std.proofs.lemmas.List.Elements.{filter-append}
use Rattle.std.proofs.lemmas.List.Folds.{list_any-append}
use Rattle.std.proofs.Math.Bool.{or-true}
use Rattle.jaeger_model.specs.declared.ids.TraceId.{TraceId}
use Rattle.jaeger_model.specs.declared.placed.Placed.{Placed}
use Rattle.jaeger_model.specs.Parents.{same_trace}
use Rattle.jaeger_model.specs.SameLaws.{same_trace-decides}
use Rattle.trace_model.specs.Events.{Event, came, limited, without_limits}
use Rattle.trace_model.specs.LimitTerms.{limits_none, comes_for}
use Rattle.trace_model.specs.Rings.{holds, newest, arrive}
use Rattle.trace_model.specs.ShownSpans.{trace_of, ring, limit_after, shown, of_trace, spans_of_trace}
use Rattle.trace_model.proofs.ShownByEvents.{by_pushes, all_push, in_ring, ring_came, ring_limited}
use Rattle.trace_model.proofs.ShownByEvents.{limit_came, limit_limited, without_limits-append, shown_push}
use Rattle.trace_model.proofs.ShownByEvents.{shown_in_ring}

-- the test decides equality
pub same_is : (a b : TraceId) → same_trace a b ≡ true → a ≡ b
same_is a b = (same_trace-decides a b).0

pub same_self : (a : TraceId) → same_trace a a ≡ true
same_self a = (same_trace-decides a a).1 refl

-- the second test has one result for all that pass the first
pub filter_within : {X : Type 0} (f g : X → Bool) (b : Bool) → ((x : X) → f x ≡ true → g x ≡ b) → (xs : List X)
    → filter f (filter g xs) ≡ (if b then filter f xs else [])
filter_within f g b h [] = elim b as (λ c. filter f (filter g []) ≡ (if c then filter f [] else [])) [ true ↦ refl | false ↦ refl ]
filter_within {X} f g b h (x ∷ xs) =
    let rest : filter f (filter g xs) ≡ (if b then filter f xs else []) = filter_within f g b h xs in
    elim (f x) as (λ s. f x ≡ s → filter f (cond (g x) (x ∷ filter g xs) (filter g xs)) ≡ (if b then cond s (x ∷ filter f xs) (filter f xs) else [])) [
      | true ↦ λ e. ap (λ c. filter f (cond c (x ∷ filter g xs) (filter g xs))) (h x e) ∙ own b rest e
      | false ↦ λ e. elim (g x) as (λ c. filter f (cond c (x ∷ filter g xs) (filter g xs)) ≡ (if b then filter f xs else [])) [
        | true ↦ ap (λ s. cond s (x ∷ filter f (filter g xs)) (filter f (filter g xs))) e ∙ rest
        | false ↦ rest
      ]
    ] refl
  where
    own : (c : Bool) → filter f (filter g xs) ≡ (if c then filter f xs else []) → f x ≡ true
        → filter f (cond c (x ∷ filter g xs) (filter g xs)) ≡ (if c then x ∷ filter f xs else [])
    own true rest e = ap (λ s. cond s (x ∷ filter f (filter g xs)) (filter f (filter g xs))) e ∙ ap (λ l. x ∷ l) rest
    own false rest e = rest

-- the spans of a trace that are left in a ring: all, or none
pub of_trace-in_ring : (t : TraceId) (r : List TraceId) (ps : List Placed) → of_trace t (in_ring r ps) ≡ (if holds r t then of_trace t ps else [])
of_trace-in_ring t r ps =
    filter_within (λ p. same_trace t (trace_of p)) (λ p. holds r (trace_of p)) (holds r t) (λ p e. ap (holds r) (sym (same_is t (trace_of p) e))) ps

-- what a trace keeps after one more event: nothing if it isn't in the ring, else what it kept and the new span if
-- one arrived that is its own
pub spans_push : (n : ℕ) (es : List (Event Placed)) (e : Event Placed) (t : TraceId)
    → spans_of_trace n (es ++ e ∷ []) t ≡ (if holds (ring n (es ++ e ∷ [])) t then spans_of_trace n es t ++ of_trace t (without_limits (e ∷ [])) else [])
spans_push n es e t =
    ap (of_trace t) (shown_push n es e) ∙ of_trace-in_ring t (ring n (es ++ e ∷ [])) (shown n es ++ without_limits (e ∷ []))
    ∙ ap (λ l. if holds (ring n (es ++ e ∷ [])) t then l else []) (filter-append (λ q. same_trace t (trace_of q)) (shown n es) (without_limits (e ∷ [])))

-- a trace that isn't in the ring has no shown spans
pub spans_gone : (n : ℕ) (es : List (Event Placed)) (t : TraceId) → holds (ring n es) t ≡ false → spans_of_trace n es t ≡ []
spans_gone n es t e =
    ap (of_trace t) (sym (shown_in_ring n es)) ∙ of_trace-in_ring t (ring n es) (shown n es) ∙ ap (λ b. if b then of_trace t (shown n es) else []) e

-- the newest trace is kept
holds-newest : (n : ℕ) (r : List TraceId) (t : TraceId) → holds (newest n (r ++ t ∷ [])) t ≡ true
holds-newest zero r t =
    list_any-append (same_trace t) r (t ∷ []) ∙ ap (λ b. list_any (same_trace t) r || (b || false)) (same_self t) ∙ or-true (list_any (same_trace t) r)
holds-newest (suc n) r t =
    let few : length (r ++ t ∷ []) - suc n ≤ length r = omega (arith, length-append r (t ∷ [])) in
    ap (list_any (same_trace t)) (drop-append-le (length (r ++ t ∷ []) - suc n) r (t ∷ []) few)
    ∙ list_any-append (same_trace t) (drop (length (r ++ t ∷ []) - suc n) r) (t ∷ [])
    ∙ ap (λ b. list_any (same_trace t) (drop (length (r ++ t ∷ []) - suc n) r) || (b || false)) (same_self t)
    ∙ or-true (list_any (same_trace t) (drop (length (r ++ t ∷ []) - suc n) r))

-- the trace of the newest arrival is in the ring
pub arrived : (n : ℕ) (r : List TraceId) (t : TraceId) → holds (arrive n r t) t ≡ true
arrived n r t =
    elim (holds r t) as (λ h. holds r t ≡ h → holds (if h then r else newest n (r ++ t ∷ [])) t ≡ true) [ true ↦ λ e. e | false ↦ λ e. holds-newest n r t ] refl

-- a span of a trace that left, or that never was there, opens it with that span alone
pub opened_alone : (n : ℕ) (es : List (Event Placed)) (p : Placed) → holds (ring n es) (trace_of p) ≡ false
    → spans_of_trace n (es ++ came p ∷ []) (trace_of p) ≡ p ∷ []
opened_alone n es p e =
    spans_push n es (came p) (trace_of p)
    ∙ ap (λ b. if b then spans_of_trace n es (trace_of p) ++ of_trace (trace_of p) (p ∷ []) else [])
    (ap (λ r. holds r (trace_of p)) (ring_came n es p) ∙ arrived (limit_after n es) (ring n es) (trace_of p))
    ∙ ap (λ l. l ++ of_trace (trace_of p) (p ∷ [])) (spans_gone n es (trace_of p) e)
    ∙ ap (λ b. cond b (p ∷ []) []) (same_self (trace_of p))

-- without a limit the ring only grows
holds-arrive : (r : List TraceId) (t s : TraceId) → holds r t ≡ true → holds (arrive 0 r s) t ≡ true
holds-arrive r t s e =
    elim (holds r s) as (λ h. holds (if h then r else r ++ s ∷ []) t ≡ true) [
      | true ↦ e
      | false ↦
          list_any-append (same_trace t) r (s ∷ []) ∙ ap (λ b. b || list_any (same_trace t) (s ∷ [])) e
    ]

length-filter : {X : Type 0} (f : X → Bool) (xs : List X) → length (filter f xs) ≤ length xs
length-filter f [] = omega arith
length-filter f (x ∷ xs) =
    elim (f x) as (λ b. length (cond b (x ∷ filter f xs) (filter f xs)) ≤ suc (length xs)) [
      | true ↦ omega (arith, length-filter f xs)
      | false ↦
          omega (arith, length-filter f xs)
    ]

-- each item of a list that a filter leaves unchanged passes its test
passes : {X : Type 0} (f : X → Bool) (x : X) (xs : List X) → filter f (x ∷ xs) ≡ x ∷ xs → (f x ≡ true) × (filter f xs ≡ xs)
passes {X} f x xs e = elim (f x) as (λ b. cond b (x ∷ filter f xs) (filter f xs) ≡ x ∷ xs → (b ≡ true) × (filter f xs ≡ xs)) [
  | true ↦ λ e. (refl, ap (λ (l : List X). drop 1 l) e)
  | false ↦ λ e. absurd (omega (arith, ap length e, length-filter f xs))
] e

in_ring-more : (r : List TraceId) (t : TraceId) (ps : List Placed) → in_ring r ps ≡ ps → in_ring (arrive 0 r t) ps ≡ ps
in_ring-more r t [] e = refl
in_ring-more r t (p ∷ ps) e =
    let k = passes (λ q. holds r (trace_of q)) p ps e in
    ap (λ b. cond b (p ∷ in_ring (arrive 0 r t) ps) (in_ring (arrive 0 r t) ps)) (holds-arrive r (trace_of p) t k.0) ∙ ap (λ l. p ∷ l) (in_ring-more r t ps k.1)

filter_all : {X : Type 0} (f : X → Bool) (xs : List X) (x : X) → filter f xs ≡ xs → f x ≡ true → filter f (xs ++ x ∷ []) ≡ xs ++ x ∷ []
filter_all f xs x a b = filter-append f xs (x ∷ []) ∙ (λ i. a i ++ cond (b i) (x ∷ []) [])

-- ---- without a limit all stay
and_both : {P : Type 0} (a b : Bool) → (a && b) ≡ true → (a ≡ true → b ≡ true → P) → P
and_both true b e f = f refl e
and_both false b e f = absurd (false≢true e)

one_none : (e : Event Placed) (es : List (Event Placed)) → limits_none e ≡ true → limit_after 0 es ≡ 0 → limit_after 0 (es ++ e ∷ []) ≡ 0
one_none (came p) es none zeros = limit_came 0 es p ∙ zeros
one_none (limited m) es none zeros = limit_limited 0 es m ∙ eqb-true m 0 none

one_more : (e : Event Placed) (es : List (Event Placed)) → limits_none e ≡ true → limit_after 0 es ≡ 0
    → in_ring (ring 0 es) (without_limits es) ≡ without_limits es
    → in_ring (ring 0 (es ++ e ∷ [])) (without_limits (es ++ e ∷ [])) ≡ without_limits (es ++ e ∷ [])
one_more (came p) es none zeros all =
    let r = ring 0 (es ++ came p ∷ []) in
    let is : r ≡ arrive 0 (ring 0 es) (trace_of p) = ring_came 0 es p ∙ ap (λ k. arrive k (ring 0 es) (trace_of p)) zeros in
    let old : in_ring r (without_limits es) ≡ without_limits es =
    ap (λ x. in_ring x (without_limits es)) is ∙ in_ring-more (ring 0 es) (trace_of p) (without_limits es) all in
    ap (in_ring r) (without_limits-append es (came p ∷ []))
    ∙ filter_all (λ q. holds r (trace_of q)) (without_limits es) p old (ap (λ x. holds x (trace_of p)) is ∙ arrived 0 (ring 0 es) (trace_of p))
    ∙ sym (without_limits-append es (came p ∷ []))
one_more (limited m) es none zeros all =
    let r = ring 0 (es ++ limited m ∷ []) in
    let is : r ≡ ring 0 es = ring_limited 0 es m ∙ ap (λ k. newest k (ring 0 es)) (eqb-true m 0 none) in
    let same : without_limits (es ++ limited m ∷ []) ≡ without_limits es = without_limits-append es (limited m ∷ []) ∙ append-nil (without_limits es) in
    (λ i. in_ring (is i) (same i)) ∙ all ∙ sym same

all_stay : (es : List (Event Placed)) → list_all limits_none es ≡ true → (limit_after 0 es ≡ 0) × (in_ring (ring 0 es) (without_limits es) ≡ without_limits es)
    × (shown 0 es ≡ without_limits es)
all_stay =
    by_pushes (λ es. list_all limits_none es ≡ true → (limit_after 0 es ≡ 0) × (in_ring (ring 0 es) (without_limits es) ≡ without_limits es)
    × (shown 0 es ≡ without_limits es)) (λ _. (refl, refl, refl)) (λ es e before none.
    and_both (list_all limits_none es) (limits_none e) (sym (all_push limits_none es e) ∙ none) (λ olds own.
    let b = before olds in
    let stay = one_more e es own b.0 b.1 in (
      one_none e es own b.0,
      stay,
      shown_push 0 es e ∙ ap (λ l. in_ring (ring 0 (es ++ e ∷ [])) (l ++ without_limits (e ∷ []))) b.2
          ∙ ap (in_ring (ring 0 (es ++ e ∷ []))) (sym (without_limits-append es (e ∷ []))) ∙ stay ∙ without_limits-append es (e ∷ [])
          ∙ sym (without_limits-append es (e ∷ [])),
    )))

-- if no event sets a limit, limit 0 keeps all that arrived
pub shown_all : (es : List (Event Placed)) → list_all limits_none es ≡ true → shown 0 es ≡ without_limits es
shown_all es none = (all_stay es none).2

-- ---- each trace of the ring has a span
pub or_cases : {P : Type 0} (a b : Bool) → (a || b) ≡ true → (a ≡ true → P) → (b ≡ true → P) → P
or_cases true b e f g = f refl
or_cases false b e f g = g e

drop_any : (q : TraceId → Bool) (k : ℕ) (r : List TraceId) → list_any q (drop k r) ≡ true → list_any q r ≡ true
drop_any q zero r e = e
drop_any q (suc k) [] e = e
drop_any q (suc k) (x ∷ r) e = ap (λ b. q x || b) (drop_any q k r e) ∙ or-true (q x)

holds-from_newest : (n : ℕ) (r : List TraceId) (t : TraceId) → holds (newest n r) t ≡ true → holds r t ≡ true
holds-from_newest zero r t e = e
holds-from_newest (suc n) r t e = drop_any (same_trace t) (length r - suc n) r e

-- a trace of the ring after an arrival was in it before, or is the arrival's own trace
pub old_or_own : {P : Type 0} (n : ℕ) (r : List TraceId) (s t : TraceId) → holds (arrive n r s) t ≡ true → (holds r t ≡ true → P) → (same_trace t s ≡ true → P)
    → P
old_or_own {P} n r s t e old own = elim (holds r s) as (λ h. holds (if h then r else newest n (r ++ s ∷ [])) t ≡ true → P) [
  | true ↦ λ e. old e
  | false ↦ λ e. or_cases (holds r t) (same_trace t s || false) (sym (list_any-append (same_trace t) r (s ∷ [])) ∙ holds-from_newest n (r ++ s ∷ []) t e) old
      (λ e. or_cases (same_trace t s) false e own (λ x. absurd (false≢true x)))
] e

pub has_spans : (n : ℕ) (t : TraceId) (es : List (Event Placed)) → holds (ring n es) t ≡ true → 0 < length (spans_of_trace n es t)
has_spans n t = by_pushes (λ es. holds (ring n es) t ≡ true → 0 < length (spans_of_trace n es t)) (λ e. absurd (false≢true e)) go
  where
    go : (es : List (Event Placed)) (e : Event Placed) → (holds (ring n es) t ≡ true → 0 < length (spans_of_trace n es t))
        → holds (ring n (es ++ e ∷ [])) t ≡ true → 0 < length (spans_of_trace n (es ++ e ∷ []) t)
    go es (came p) more e =
        let spans : spans_of_trace n (es ++ came p ∷ []) t ≡ spans_of_trace n es t ++ of_trace t (p ∷ []) =
        spans_push n es (came p) t ∙ ap (λ b. if b then spans_of_trace n es t ++ of_trace t (p ∷ []) else []) e in
        let long : length (spans_of_trace n (es ++ came p ∷ []) t) ≡ length (spans_of_trace n es t) + length (of_trace t (p ∷ [])) =
        ap (λ (l : List Placed). length l) spans ∙ length-append (spans_of_trace n es t) (of_trace t (p ∷ [])) in
        old_or_own (limit_after n es) (ring n es) (trace_of p) t (ap (λ r. holds r t) (sym (ring_came n es p)) ∙ e)
        (λ old. let some : 0 < length (spans_of_trace n es t) = more old in omega arith)
        (λ own. let one : length (of_trace t (p ∷ [])) ≡ 1 = ap (λ b. length (cond b (p ∷ []) [])) own in omega arith)
    go es (limited m) more e =
        let old = holds-from_newest m (ring n es) t (ap (λ r. holds r t) (sym (ring_limited n es m)) ∙ e) in
        let spans : spans_of_trace n (es ++ limited m ∷ []) t ≡ spans_of_trace n es t =
        spans_push n es (limited m) t ∙ ap (λ b. if b then spans_of_trace n es t ++ [] else []) e ∙ append-nil (spans_of_trace n es t) in
        subst (λ (l : List Placed). 0 < length l) (sym spans) (more old)

-- ---- limits
-- after a limit of m the m newest traces keep their shown spans, and the others have none
pub spans_limited : (n : ℕ) (es : List (Event Placed)) (m : ℕ) (t : TraceId)
    → spans_of_trace n (es ++ limited m ∷ []) t ≡ (if holds (newest m (ring n es)) t then spans_of_trace n es t else [])
spans_limited n es m t = spans_push n es (limited m) t ∙ (λ i. if holds (ring_limited n es m i) t then append-nil (spans_of_trace n es t) i else [])

-- a trace that isn't in the ring stays out by an event that doesn't bring it, whatever the limit
out_one : (n : ℕ) (es : List (Event Placed)) (t : TraceId) (e : Event Placed) → comes_for t e ≡ false → holds (ring n es) t ≡ false
    → holds (ring n (es ++ e ∷ [])) t ≡ false
out_one n es t (came p) other out = false_from_ne_true _ (λ h.
    old_or_own (limit_after n es) (ring n es) (trace_of p) t (ap (λ r. holds r t) (sym (ring_came n es p)) ∙ h) (λ old. false≢true (sym out ∙ old))
    (λ own. false≢true (sym other ∙ own)))
out_one n es t (limited m) other out = false_from_ne_true _ (λ h.
    false≢true (sym out ∙ holds-from_newest m (ring n es) t (ap (λ r. holds r t) (sym (ring_limited n es m)) ∙ h)))

or_both : {P : Type 0} (a b : Bool) → (a || b) ≡ false → (a ≡ false → b ≡ false → P) → P
or_both true b e f = absurd (false≢true (sym e))
or_both false b e f = f refl e

-- a trace that left doesn't come back before one of its spans arrives
pub stays_out : (n : ℕ) (es : List (Event Placed)) (t : TraceId) (more : List (Event Placed)) → list_any (comes_for t) more ≡ false
    → holds (ring n es) t ≡ false → holds (ring n (es ++ more)) t ≡ false
stays_out n es t [] none out = ap (λ xs. holds (ring n xs) t) (append-nil es) ∙ out
stays_out n es t (e ∷ more) none out =
    or_both (comes_for t e) (list_any (comes_for t) more) none (λ own rest.
    ap (λ xs. holds (ring n xs) t) (sym (append_assoc es (e ∷ []) more)) ∙ stays_out n (es ++ e ∷ []) t more rest (out_one n es t e own out))

pub none_shown : (n : ℕ) (es : List (Event Placed)) (t : TraceId) (more : List (Event Placed)) → list_any (comes_for t) more ≡ false
    → holds (ring n es) t ≡ false → spans_of_trace n (es ++ more) t ≡ []
none_shown n es t more none out = spans_gone n (es ++ more) t (stays_out n es t more none out)

-- ---- lengths
drop_short : (m : ℕ) (r : List TraceId) → length (newest (suc m) r) ≤ suc m
drop_short m r = omega (arith, length-drop (length r - suc m) r)

pub newest_short : (m : ℕ) (r : List TraceId) → 0 < m → length (newest m r) ≤ m
newest_short zero r some = absurd (omega arith)
newest_short (suc m) r some = drop_short m r

pub arrive_short : (m : ℕ) (r : List TraceId) (t : TraceId) → (0 < m → length r ≤ m) → 0 < m → length (arrive m r t) ≤ m
arrive_short m r t short some =
    elim (holds r t) as (λ b. length (if b then r else newest m (r ++ t ∷ [])) ≤ m) [ true ↦ short some | false ↦ newest_short m (r ++ t ∷ []) some ]

-- with a limit the ring is no longer than the current limit
pub ring_within : (n : ℕ) (es : List (Event Placed)) → 0 < limit_after n es → length (ring n es) ≤ limit_after n es
ring_within n = by_pushes (λ es. 0 < limit_after n es → length (ring n es) ≤ limit_after n es) (λ _. omega arith) go
  where
    go : (es : List (Event Placed)) (e : Event Placed) → (0 < limit_after n es → length (ring n es) ≤ limit_after n es) → 0 < limit_after n (es ++ e ∷ [])
        → length (ring n (es ++ e ∷ [])) ≤ limit_after n (es ++ e ∷ [])
    go es (came p) short some =
        let at : limit_after n (es ++ came p ∷ []) ≡ limit_after n es = limit_came n es p in
        let fits = arrive_short (limit_after n es) (ring n es) (trace_of p) short (omega arith) in
        omega (arith, ap (λ (r : List TraceId). length r) (ring_came n es p))
    go es (limited m) short some =
        let at : limit_after n (es ++ limited m ∷ []) ≡ m = limit_limited n es m in
        let fits = newest_short m (ring n es) (omega arith) in
        omega (arith, ap (λ (r : List TraceId). length r) (ring_limited n es m))
