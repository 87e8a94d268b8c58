-- What holds of every ring, and of what is found.
use Rattle.std.proofs.Common.{◌≡◌, ℕ, suc, zero, ◌-◌, ◌<◌, ◌≤◌, Bool, true, false, cond, List, [], ◌∷◌, ◌++◌, length, drop, map, Some, None, inl, inr, refl}
use Rattle.std.proofs.Common.{sym, ap, subst, ◌∙◌, arith}
use Rattle.std.specs.Prelude.{filter, fold, if◌then◌else◌}
use Rattle.std.specs.List.{All, IsDistinct, list_all}
use Rattle.std.specs.Cmp.{decided}
use Rattle.std.proofs.lemmas.List.Elements.{filter_passes}
use Rattle.std.proofs.lemmas.Map.Keys.{IsDistinct-push, IsDistinct-tail}
use Rattle.jaeger_model.specs.declared.ids.TraceId.{TraceId}
use Rattle.jaeger_model.specs.declared.placed.Placed.{Placed}
use Rattle.jaeger_model.specs.Parents.{same_trace}
use Rattle.jaeger_model.specs.SameLaws.{same_trace-decides}
use Rattle.trace_model.specs.Rings.{holds, newest, arrive, LimitedRing, ring_step}
use Rattle.store_laws.specs.Subsequences.{IsSubsequence}
use Rattle.trace_model.specs.Events.{Event, came, limited, without_limits}
use Rattle.trace_model.specs.ShownSpans.{trace_of, ring, limit_after, longer_prefixes, lasting_after, is_in_ring, shown, spans_of_trace, if_any, trace_found}
use Rattle.trace_model.proofs.ShownByEvents.{by_pushes, ring_came, ring_limited}
use Rattle.trace_model.proofs.ShownOfTrace.{same_is, spans_gone, spans_limited, has_spans}

-- ---- the ring
distinct_drop : (k : ℕ) (r : List TraceId) → IsDistinct same_trace r → IsDistinct same_trace (drop k r)
distinct_drop zero r d = d
distinct_drop (suc k) [] d = d
distinct_drop (suc k) (t ∷ r) d = distinct_drop k r (IsDistinct-tail same_trace t r d)

distinct_newest : (n : ℕ) (r : List TraceId) → IsDistinct same_trace r → IsDistinct same_trace (newest n r)
distinct_newest zero r d = d
distinct_newest (suc n) r d = distinct_drop (length r - suc n) r d

pub distinct_arrive : (n : ℕ) (r : List TraceId) (t : TraceId) → IsDistinct same_trace r → IsDistinct same_trace (arrive n r t)
distinct_arrive n r t d = elim (holds r t) as (λ b. holds r t ≡ b → IsDistinct same_trace (if b then r else newest n (r ++ t ∷ []))) [
  | true ↦ λ _. d
  | false ↦ λ e. distinct_newest n (r ++ t ∷ []) (IsDistinct-push (decided same_trace same_trace-decides) r t d e)
] refl

-- no trace is in the ring twice
none_distinct : IsDistinct same_trace []
unfolding IsDistinct
none_distinct = tt

pub ring_distinct : (n : ℕ) (es : List (Event Placed)) → IsDistinct same_trace (ring n es)
ring_distinct n = by_pushes (λ es. IsDistinct same_trace (ring n es)) none_distinct go
  where
    go : (es : List (Event Placed)) (e : Event Placed) → IsDistinct same_trace (ring n es) → IsDistinct same_trace (ring n (es ++ e ∷ []))
    go es (came p) d = subst (IsDistinct same_trace) (sym (ring_came n es p)) (distinct_arrive (limit_after n es) (ring n es) (trace_of p) d)
    go es (limited m) d = subst (IsDistinct same_trace) (sym (ring_limited n es m)) (distinct_newest m (ring n es) d)

-- ---- what is found
subsequence_skip : {X : Type 0} (xs ys : List X) (y : X) → IsSubsequence xs ys → IsSubsequence xs (y ∷ ys)
subsequence_skip [] ys y s = tt
subsequence_skip (x ∷ xs) ys y s = inr s

subsequence_came : {A : Type 0} (xs : List A) (es : List (Event A)) (e : Event A) → IsSubsequence xs (without_limits es)
    → IsSubsequence xs (without_limits (e ∷ es))
subsequence_came xs es (came x) s = subsequence_skip xs (without_limits es) x s
subsequence_came xs es (limited m) s = s

subsequence_own : {A : Type 0} (xs es : List (Event A)) (e : Event A) → IsSubsequence (without_limits xs) (without_limits es)
    → IsSubsequence (without_limits (e ∷ xs)) (without_limits (e ∷ es))
subsequence_own xs es (came x) s = inl (refl, s)
subsequence_own xs es (limited m) s = s

lasting_subsequence : {A : Type 0} (keeps : List (Event A) → Event A → Bool) (before rest : List (Event A))
    → IsSubsequence (without_limits (lasting_after keeps before rest)) (without_limits rest)
lasting_subsequence keeps before [] = tt
lasting_subsequence keeps before (e ∷ rest) =
    let later = lasting_after keeps (before ++ e ∷ []) rest in
    elim (list_all (λ xs. keeps xs e) (longer_prefixes before (e ∷ rest))) as (λ b.
    IsSubsequence (without_limits (if b then e ∷ later else later)) (without_limits (e ∷ rest))) [
      | true ↦ subsequence_own later rest e (lasting_subsequence keeps (before ++ e ∷ []) rest)
      | false ↦ subsequence_came (without_limits later) rest e (lasting_subsequence keeps (before ++ e ∷ []) rest)
    ]

subsequence_filter : {X : Type 0} (f : X → Bool) (xs ys : List X) → IsSubsequence xs ys → IsSubsequence (filter f xs) ys
subsequence_filter f [] ys s = tt
subsequence_filter f (x ∷ xs) [] s = absurd s
subsequence_filter f (x ∷ xs) (y ∷ ys) (inl s) = elim (f x) as (λ b. IsSubsequence (cond b (x ∷ filter f xs) (filter f xs)) (y ∷ ys)) [
  | true ↦ inl (s.0, subsequence_filter f xs ys s.1)
  | false ↦ subsequence_skip (filter f xs) ys y (subsequence_filter f xs ys s.1)
]
subsequence_filter f (x ∷ xs) (y ∷ ys) (inr s) = subsequence_skip (filter f (x ∷ xs)) ys y (subsequence_filter f (x ∷ xs) ys s)

pub shown_subsequence : (n : ℕ) (es : List (Event Placed)) → IsSubsequence (shown n es) (without_limits es)
shown_subsequence n es = lasting_subsequence (is_in_ring trace_of n) [] es

found_is : {X : Type 0} (xs spans : List X) → if_any xs ≡ Some spans → (xs ≡ spans) × (0 < length spans)
found_is [] spans e = absurd cc
found_is (x ∷ xs) spans e = let same : x ∷ xs ≡ spans = cc e in (same, subst (λ l. 0 < length l) same (omega arith))

-- the spans found are some of the arrivals, in their order
pub found_subsequence : (n : ℕ) (es : List (Event Placed)) (t : TraceId) (spans : List Placed) → trace_found n es t ≡ Some spans
    → IsSubsequence spans (without_limits es)
found_subsequence n es t spans e =
    subst (λ l. IsSubsequence l (without_limits es)) (found_is (spans_of_trace n es t) spans e).0
    (subsequence_filter (λ p. same_trace t (trace_of p)) (shown n es) (without_limits es) (shown_subsequence n es))

pub found_own : (n : ℕ) (es : List (Event Placed)) (t : TraceId) (spans : List Placed) → trace_found n es t ≡ Some spans → All (λ p. trace_of p ≡ t) spans
found_own n es t spans e =
    subst (All (λ p. trace_of p ≡ t)) (found_is (spans_of_trace n es t) spans e).0
    (λ k d l. sym (same_is t _ (filter_passes (λ p. same_trace t (trace_of p)) (shown n es) k d l)))

pub found_some : (n : ℕ) (es : List (Event Placed)) (t : TraceId) (spans : List Placed) → trace_found n es t ≡ Some spans → 0 < length spans
found_some n es t spans e = (found_is (spans_of_trace n es t) spans e).1

pub not_found : (n : ℕ) (es : List (Event Placed)) (t : TraceId) → holds (ring n es) t ≡ false → trace_found n es t ≡ None
not_found n es t e = ap if_any (spans_gone n es t e)

any_found : {X : Type 0} (xs : List X) → 0 < length xs → if_any xs ≡ Some xs
any_found [] l = absurd (omega arith)
any_found (x ∷ xs) l = refl

pub found : (n : ℕ) (es : List (Event Placed)) (t : TraceId) → holds (ring n es) t ≡ true → trace_found n es t ≡ Some (spans_of_trace n es t)
found n es t e = any_found (spans_of_trace n es t) (has_spans n t es e)

-- ---- limits that change nothing, and no limits
drop_none : (k : ℕ) (r : List TraceId) → k ≡ 0 → drop k r ≡ r
drop_none zero r e = refl
drop_none (suc k) r e = absurd (omega arith)

newest_all : (m : ℕ) (r : List TraceId) → (0 < m → length r ≤ m) → newest m r ≡ r
newest_all zero r short = refl
newest_all (suc m) r short = let fits : length r ≤ suc m = short (omega arith) in drop_none (length r - suc m) r (omega arith)

pub raised_ring : (n : ℕ) (es : List (Event Placed)) (m : ℕ) → (0 < m → length (ring n es) ≤ m) → ring n (es ++ limited m ∷ []) ≡ ring n es
raised_ring n es m short = ring_limited n es m ∙ newest_all m (ring n es) short

held_or_gone : (n : ℕ) (es : List (Event Placed)) (t : TraceId) (b : Bool) → holds (ring n es) t ≡ b
    → (if b then spans_of_trace n es t else []) ≡ spans_of_trace n es t
held_or_gone n es t true e = refl
held_or_gone n es t false e = sym (spans_gone n es t e)

pub raised_spans : (n : ℕ) (es : List (Event Placed)) (m : ℕ) (t : TraceId) → (0 < m → length (ring n es) ≤ m)
    → spans_of_trace n (es ++ limited m ∷ []) t ≡ spans_of_trace n es t
raised_spans n es m t short =
    spans_limited n es m t ∙ ap (λ r. if holds r t then spans_of_trace n es t else []) (newest_all m (ring n es) short)
    ∙ held_or_gone n es t (holds (ring n es) t) refl

steps_alone : (r : LimitedRing) (ps : List Placed)
    → fold (ring_step trace_of) r (map came ps) ≡ record { limit = r.limit; ids = fold (arrive r.limit) r.ids (map trace_of ps) }
steps_alone r [] = refl
steps_alone r (p ∷ ps) = steps_alone (record r { ids = arrive r.limit r.ids (trace_of p) }) ps

pub arrivals_alone : (n : ℕ) (ps : List Placed) → ring n (map came ps) ≡ fold (arrive n) [] (map trace_of ps)
arrivals_alone n ps = ap (λ (r : LimitedRing). r.ids) (steps_alone (record { limit = n; ids = [] }) ps)
