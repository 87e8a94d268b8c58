-- The marks of the traces that a search by a service considers.
use Rattle.std.proofs.Common.{◌≡◌, ℕ, zero, suc, ◌+◌, ◌<◌, ◌≤◌, Bool, true, false, ◌||◌, ◌&&◌, cond, List, [], ◌∷◌, ◌++◌, map, length, take, get_or, refl, sym}
use Rattle.std.proofs.Common.{ap, ◌∙◌, arith, Some, None}
use Rattle.std.specs.Prelude.{filter, flat_map, slice_get, not, Option}
use Rattle.std.specs.List.{list_any, position}
use Rattle.std.proofs.Math.ListN.{set}
use Rattle.std.proofs.lemmas.Bool.{false≢true, or_parts}
use Rattle.std.proofs.lemmas.List.{append-nil, take_all, flat_map_more, map_push}
use Rattle.std.proofs.lemmas.List.Elements.{filter_more}
use Rattle.std.proofs.lemmas.List.Folds.{list_any-append}
use Rattle.std.proofs.lemmas.List.Quantifiers.{position-Some}
use Rattle.std.proofs.lemmas.Option.{slice_get-get_or}
use Rattle.std.proofs.Math.Bool.{or_assoc, or-true}
use Rattle.jaeger_model.specs.declared.ids.TraceId.{TraceId}
use Rattle.jaeger_model.specs.declared.span.Span.{Span}
use Rattle.jaeger_model.specs.declared.batch.Process.{Process}
use Rattle.trace_model.specs.declared.query.Find.{Find}
use Rattle.jaeger_model.specs.Parents.{same_trace}
use Rattle.trace_model.specs.Rings.{holds}
use Rattle.trace_model.proofs.Admissions.{none_passes}
use Rattle.trace_model.proofs.ShownOfTrace.{same_is, same_self}
use Rattle.trace_ring.specs.RingValues.{NoneTwice}
use Rattle.trace_assembly.specs.AssembledRows.{is_of}
use Rattle.trace_assembly.proofs.WrittenRows.{same_swap}
use Rattle.collected_traces.specs.ProcessConditions.{meets}
use Rattle.collected_traces.proofs.TakenSpans.{or_same}
use Rattle.journal_traces.specs.MatchingSpans.{any_of, met, same_before}

-- ---- the place of a trace in the ring
pub held : (r : List TraceId) (k : ℕ) (t : TraceId) → slice_get r k ≡ Some t → holds r t ≡ true
held [] k t e = absurd cc
held (x ∷ xs) zero t e = let same : x ≡ t = cc e in ap (λ y. same_trace t y || holds xs t) same ∙ ap (λ b. b || holds xs t) (same_self t)
held (x ∷ xs) (suc k) t e = ap (λ b. same_trace t x || b) (held xs k t e) ∙ or-true (same_trace t x)

-- the position of a trace is its place
pub placed_at : (r : List TraceId) (t : TraceId) (place : ℕ) → position (same_trace t) r ≡ Some place → slice_get r place ≡ Some t
placed_at r t place e =
    let w = position-Some (same_trace t) r place t e in
    slice_get-get_or r place t w.0 ∙ ap Some (sym (same_is t (get_or r place t) w.1))

-- ---- one more trace is marked
beside : (p : TraceId → Bool) (x t : TraceId) → same_trace x t ≡ false → p x ≡ (p x || same_trace x t)
beside p x t other = or_same (p x) ∙ ap (λ b. p x || b) (sym other)

unmarked : (p : TraceId → Bool) (r : List TraceId) (t : TraceId) → holds r t ≡ false → map p r ≡ map (λ u. p u || same_trace u t) r
unmarked p [] t e = refl
unmarked p (x ∷ xs) t e =
    let apart = or_parts (same_trace t x) (holds xs t) e in
    let first : p x ≡ (p x || same_trace x t) = beside p x t (same_swap x t ∙ apart.0) in
    let rest = unmarked p xs t apart.1 in
    λ i. first i ∷ rest i

marked_at : (p : TraceId → Bool) (r : List TraceId) (t : TraceId) (k : ℕ) → NoneTwice r → slice_get r k ≡ Some t
    → set (map p r) k true ≡ map (λ u. p u || same_trace u t) r
marked_at p [] t k once e = absurd cc
marked_at p (x ∷ xs) t zero once e =
    let same : x ≡ t = cc e in
    let first : true ≡ (p x || same_trace x t) = sym (ap (λ y. p x || same_trace y t) same ∙ ap (λ b. p x || b) (same_self t) ∙ or-true (p x)) in
    let rest = unmarked p xs t (ap (holds xs) (sym same) ∙ once.0) in
    λ i. first i ∷ rest i
marked_at p (x ∷ xs) t (suc k) once e =
    let there : holds xs t ≡ true = held xs k t e in
    let other : same_trace x t ≡ false = elim (same_trace x t) as (λ b. same_trace x t ≡ b → b ≡ false) [
      | true ↦ λ s. absurd (false≢true (sym once.0 ∙ ap (holds xs) (same_is x t s) ∙ there))
      | false ↦ λ _. refl
    ] refl in
    let first : p x ≡ (p x || same_trace x t) = beside p x t other in
    let rest = marked_at p xs t k once.1 e in
    λ i. first i ∷ rest i

pub marked_put : (p : TraceId → Bool) (r : List TraceId) (t : TraceId) (place : ℕ) (marks : List Bool) → NoneTwice r → position (same_trace t) r ≡ Some place
    → marks ≡ map p r → set marks place true ≡ map (λ u. p u || same_trace u t) r
marked_put p r t place marks once e before = ap (λ l. set l place true) before ∙ marked_at p r t place once (placed_at r t place e)

-- a trace that is not in the ring changes nothing
pub marked_absent : (p : TraceId → Bool) (r : List TraceId) (t : TraceId) → position (same_trace t) r ≡ None → map p r ≡ map (λ u. p u || same_trace u t) r
marked_absent p r t e = unmarked p r t (none_passes (same_trace t) r e)

-- ---- one more of the spans
pub marked_none : (p : TraceId → Bool) (r : List TraceId) → map p r ≡ map (λ u. p u || false) r
marked_none p r = λ i. map (λ u. or_same (p u) i) r

-- a span that isn't a new match is of the trace before, or doesn't meet the search
pub no_news : (again meeting : Bool) → (not again && meeting) ≡ false → meeting ≡ true → again ≡ true
no_news true m e f = refl
no_news false m e f = absurd (false≢true (sym e ∙ f))

pub news : (again meeting : Bool) → (not again && meeting) ≡ true → meeting ≡ true
news true m e = absurd (false≢true e)
news false m e = e

pub before_is : (before : Option TraceId) (t : TraceId) → same_before before t ≡ true → before ≡ Some t
before_is None t e = absurd (false≢true e)
before_is (Some b) t e = ap Some (same_is b t e)

module _ (q : Find) (o : Process) (ss : List Span) (i : ℕ) (s : Span) (le : i < length ss) (is : s ≡ get_or ss i s) where
  more : met q o (take (i + 1) ss) ≡ met q o (take i ss) ++ cond (meets q o s) (s ∷ []) []
  more = filter_more (meets q o) ss i s le ∙ ap (λ (x : Span). met q o (take i ss) ++ cond (meets q o x) (x ∷ []) []) (sym is)

  -- one that meets the search
  reach_more : meets q o s ≡ true → (u : TraceId) → any_of (met q o (take (i + 1) ss)) u ≡ (any_of (met q o (take i ss)) u || same_trace u s.trace)
  reach_more m u =
      ap (list_any (is_of u)) (more ∙ ap (λ b. met q o (take i ss) ++ cond b (s ∷ []) []) m) ∙ list_any-append (is_of u) (met q o (take i ss)) (s ∷ [])
      ∙ ap (λ b. any_of (met q o (take i ss)) u || b) (sym (or_same (is_of u s)))

  pub marked_more : (p : TraceId → Bool) (r : List TraceId) → meets q o s ≡ true
      → map (λ u. (p u || any_of (met q o (take i ss)) u) || same_trace u s.trace) r ≡ map (λ u. p u || any_of (met q o (take (i + 1) ss)) u) r
  marked_more p r m = λ j. map (λ u. (or_assoc (p u) (any_of (met q o (take i ss)) u) (same_trace u s.trace) ∙ ap (λ b. p u || b) (sym (reach_more m u))) j) r

  still : any_of (met q o (take i ss)) s.trace ≡ true → (u : TraceId)
      → any_of (met q o (take i ss)) u ≡ (any_of (met q o (take i ss)) u || same_trace u s.trace)
  still there u = elim (same_trace u s.trace) as (λ b. same_trace u s.trace ≡ b → any_of (met q o (take i ss)) u ≡ (any_of (met q o (take i ss)) u || b)) [
    | true ↦ λ e. ap (any_of (met q o (take i ss))) (same_is u s.trace e) ∙ there ∙ sym (or-true (any_of (met q o (take i ss)) u))
    | false ↦ λ _. or_same (any_of (met q o (take i ss)) u)
  ] refl

  -- one that doesn't meet it, or whose trace was marked before
  same_reach : (meets q o s ≡ true → any_of (met q o (take i ss)) s.trace ≡ true) → (u : TraceId)
      → any_of (met q o (take (i + 1) ss)) u ≡ any_of (met q o (take i ss)) u
  same_reach there u = elim (meets q o s) as (λ b. meets q o s ≡ b → any_of (met q o (take (i + 1) ss)) u ≡ any_of (met q o (take i ss)) u) [
    | true ↦ λ m. reach_more m u ∙ sym (still (there m) u)
    | false ↦ λ m. ap (list_any (is_of u)) (more ∙ ap (λ b. met q o (take i ss) ++ cond b (s ∷ []) []) m ∙ append-nil (met q o (take i ss)))
  ] refl

  pub marked_again : (p : TraceId → Bool) (r : List TraceId) → (meets q o s ≡ true → any_of (met q o (take i ss)) s.trace ≡ true)
      → map (λ u. p u || any_of (met q o (take i ss)) u) r ≡ map (λ u. p u || any_of (met q o (take (i + 1) ss)) u) r
  marked_again p r there = λ j. map (λ u. p u || sym (same_reach there u) j) r

  pub reached_own : (t : TraceId) → meets q o s ≡ true → s.trace ≡ t → any_of (met q o (take (i + 1) ss)) t ≡ true
  reached_own t m own =
      reach_more m t ∙ ap (λ x. any_of (met q o (take i ss)) t || same_trace t x) own ∙ ap (λ b. any_of (met q o (take i ss)) t || b) (same_self t)
      ∙ or-true (any_of (met q o (take i ss)) t)

  pub reached_still : (t : TraceId) → (meets q o s ≡ true → any_of (met q o (take i ss)) s.trace ≡ true) → any_of (met q o (take i ss)) t ≡ true
      → any_of (met q o (take (i + 1) ss)) t ≡ true
  reached_still t there before = same_reach there t ∙ before

pub marked_all : (q : Find) (o : Process) (p : TraceId → Bool) (r : List TraceId) (ss : List Span) (i : ℕ) → length ss ≤ i
    → map (λ u. p u || any_of (met q o (take i ss)) u) r ≡ map (λ u. p u || any_of (met q o ss) u) r
marked_all q o p r ss i le = ap (λ (l : List Span). map (λ u. p u || any_of (met q o l) u) r) (take_all i ss le)

-- ---- one more of the places
pub marked_place : (spans_at : ℕ → List Span) (r : List TraceId) (done : List ℕ) (place : ℕ)
    → map (λ u. any_of (flat_map spans_at done) u || any_of (spans_at place) u) r ≡ map (any_of (flat_map spans_at (done ++ place ∷ []))) r
marked_place spans_at r done place = λ j. map (λ u. sym (
    ap (λ l. any_of l u) (sym (flat_map_more spans_at [] done place))
    ∙ list_any-append (is_of u) (flat_map spans_at done) (spans_at place)) j) r

-- ---- what was marked is picked
pub mark_read : (p : TraceId → Bool) (r : List TraceId) (marks : List Bool) (i : ℕ) (d : TraceId) (b : Bool) → i < length r → marks ≡ map p r
    → get_or marks i b ≡ p (get_or r i d)
mark_read p r marks i d b le same = ap (λ l. get_or l i b) same ∙ read r i le
  where
    read : (r : List TraceId) (i : ℕ) → i < length r → get_or (map p r) i b ≡ p (get_or r i d)
    read [] i le = absurd (omega arith)
    read (x ∷ xs) zero le = refl
    read (x ∷ xs) (suc i) le = read xs i (omega arith)

module _ {A B : Type 0} (f : A → B) (p : A → Bool) (r : List A) (i : ℕ) (d : A) (le : i < length r) where
  pub picked : p (get_or r i d) ≡ true → map f (filter p (take (i + 1) r)) ≡ map f (filter p (take i r)) ++ f (get_or r i d) ∷ []
  picked e =
      ap (map f) (filter_more p r i d le ∙ ap (λ b. filter p (take i r) ++ cond b (get_or r i d ∷ []) []) e) ∙ map_push f (filter p (take i r)) (get_or r i d)

  pub passed : p (get_or r i d) ≡ false → map f (filter p (take (i + 1) r)) ≡ map f (filter p (take i r))
  passed e = ap (map f) (filter_more p r i d le ∙ ap (λ b. filter p (take i r) ++ cond b (get_or r i d ∷ []) []) e ∙ append-nil (filter p (take i r)))
