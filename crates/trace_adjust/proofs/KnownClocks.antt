-- Clocks that are set from above are the spans' clocks; if none can be set any more, all are known.
use Rattle.std.proofs.Common.{◌≡◌, ℕ, zero, suc, ℤ, ◌+◌, ◌<◌, ◌⊎◌, inl, inr, ⊎_elim, Bool, true, false, cond, refl, sym}
use Rattle.std.proofs.Common.{List, [], ◌∷◌, map, length, get_or, set, replicate}
use Rattle.std.proofs.Common.{ap, ◌∙◌, arith, subst, length-set, get_or-set_same, get_or-set_other}
use Rattle.std.proofs.lemmas.List.{length-replicate, get_or_default, set-get_or, get_or-map}
use Rattle.std.proofs.lemmas.List.Elements.{All-from_recursion}
use Rattle.std.specs.Prelude.{Option, Some, None, option_map, is_some}
use Rattle.std.proofs.lemmas.Bool.{false≢true, cases_eq}
use Rattle.std.proofs.lemmas.List.Sums.{sum_by-set}
use Rattle.jaeger_model.specs.declared.placed.Placed.{Placed}
use Rattle.trace_model.specs.declared.clock.Clock.{Clock}
use Rattle.trace_model.specs.ServiceLinks.{parent_in}
use Rattle.trace_model.specs.Adjusting.{clock_below, clock_within, clock_of}
use Rattle.trace_model.specs.AdjustingTerms.{clock_by}
use Rattle.trace_model.proofs.ParentChains.{clocks, within_step, within_none}
use Rattle.trace_adjust.specs.KnownClocks.{place_in, clock_near, clock_with, clocks_with, is_unset, AreRight, IsClosed, AreClosed, AreClocks, unset_count}
use Rattle.trace_adjust.specs.KnownClocks.{AreSet}
use Rattle.trace_adjust.proofs.FirstPlaceTables.{place_there, place_below}
use Rattle.trace_model.proofs.Lists.{none_is}

pub map_none : {X Y : Type 0} (f : X → Y) (o : Option X) → option_map f o ≡ None → o ≡ None
map_none f None e = refl
map_none f (Some x) e = absurd (false≢true (sym (ap is_some e)))

module _ (max_skew : ℕ) (trace : List Placed) where
  abbrev clock : Placed → Option Clock
  clock p = clock_of max_skew trace p

  -- what is near is right, or not known
  near_right : (cs : List (Option Clock)) (p : Placed) (d : Placed) → AreRight max_skew trace cs → clock p ≡ clock_by max_skew clock p (parent_in trace p)
      → (clock_near max_skew cs p (place_in trace p) ≡ None) ⊎ (clock_near max_skew cs p (place_in trace p) ≡ clock p)
  near_right cs p d right law = by_place (place_in trace p) refl
    where
      by_place : (o : Option ℕ) → place_in trace p ≡ o → (clock_near max_skew cs p o ≡ None) ⊎ (clock_near max_skew cs p o ≡ clock p)
      by_place None e = inr (sym (law ∙ ap (clock_by max_skew clock p) (sym (place_there trace p d) ∙ ap (option_map (λ j. get_or trace j d)) e)))
      by_place (Some j) e = ⊎_elim
          (λ n. inl (ap (option_map (λ a. clock_below max_skew a p)) n))
          (λ r. inr (ap (option_map (λ a. clock_below max_skew a p)) r
          ∙ sym (law ∙ ap (clock_by max_skew clock p) (sym (place_there trace p d) ∙ ap (option_map (λ j. get_or trace j d)) e))))
          (right.1 j d (place_below trace p j e))

  -- a step keeps what is right
  pub settle_right : (cs : List (Option Clock)) (i : ℕ) (p : Placed) → i < length trace → p ≡ get_or trace i p → AreRight max_skew trace cs
      → AreRight max_skew trace (set cs i (clock_near max_skew cs p (place_in trace p)))
  settle_right cs i p l e right = (
    length-set cs i (clock_near max_skew cs p (place_in trace p)) ∙ right.0,
    λ k d lk. ⊎_elim
        (λ (same : k ≡ i). here k d same)
        (λ (other : k ≡ i → ⊥). subst (λ o. (o ≡ None) ⊎ (o ≡ clock (get_or trace k d)))
        (sym (get_or-set_other cs i k (clock_near max_skew cs p (place_in trace p)) None other)) (right.1 k d lk))
        (cases_eq k i),
  )
    where
      law : clock p ≡ clock_by max_skew clock p (parent_in trace p)
      law =
          subst (λ q. clock q ≡ clock_by max_skew clock q (parent_in trace q)) (sym e)
          (All-from_recursion (λ q. clock q ≡ clock_by max_skew clock q (parent_in trace q)) trace (clocks max_skew trace) i p l)

      here : (k : ℕ) (d : Placed) → k ≡ i → (get_or (set cs i (clock_near max_skew cs p (place_in trace p))) k None ≡ None)
          ⊎ (get_or (set cs i (clock_near max_skew cs p (place_in trace p))) k None ≡ clock (get_or trace k d))
      here k d same =
          let n = clock_near max_skew cs p (place_in trace p) in
          let at : get_or (set cs i n) k None ≡ n = ap (λ j. get_or (set cs i n) j None) same ∙ get_or-set_same cs i n None (omega (arith, right.0)) in
          let q : p ≡ get_or trace k d = e ∙ get_or_default trace i p d l ∙ ap (λ j. get_or trace j d) (sym same) in
          ⊎_elim (λ z. inl (at ∙ z)) (λ r. inr (at ∙ r ∙ ap clock q)) (near_right cs p p right law)

  none_near : (cs : List (Option Clock)) (d p : Placed) (n : ℕ) (o : Option ℕ) → place_in trace p ≡ o
      → ((j : ℕ) → j < length trace → get_or cs j None ≡ None → clock_within max_skew n trace (get_or trace j d) ≡ None)
      → clock_near max_skew cs p o ≡ None → clock_by max_skew (clock_within max_skew n trace) p (option_map (λ j. get_or trace j d) o) ≡ None
  none_near cs d p n None q up h = absurd (false≢true (sym (ap is_some h)))
  none_near cs d p n (Some j) q up h =
      ap (option_map (λ a. clock_below max_skew a p)) (up j (place_below trace p j q) (map_none (λ a. clock_below max_skew a p) (get_or cs j None) h))

  -- if nothing is set any more, a clock that is not set is none
  none_within : (cs : List (Option Clock)) (d : Placed) → AreClosed max_skew trace (length trace) cs → (n k : ℕ) → k < length trace → get_or cs k None ≡ None
      → clock_within max_skew n trace (get_or trace k d) ≡ None
  none_within cs d closed zero k l e = within_none max_skew trace (get_or trace k d)
  none_within cs d closed (suc n) k l e =
      within_step max_skew n trace (get_or trace k d)
      ∙ ap (clock_by max_skew (clock_within max_skew n trace) (get_or trace k d)) (sym (place_there trace (get_or trace k d) d))
      ∙ none_near cs d (get_or trace k d) n (place_in trace (get_or trace k d)) refl (none_within cs d closed n) (closed k l d e)

  pub all_known : (cs : List (Option Clock)) → AreRight max_skew trace cs → AreClosed max_skew trace (length trace) cs → AreClocks max_skew trace cs
  all_known cs right closed = (right.0, λ k d l. ⊎_elim (λ z. z ∙ sym (none_within cs d closed (length trace) k l z)) (λ r. r) (right.1 k d l))

-- ---- the clocks of spans with deltas
pub with_at : (m : ℕ) (ps : List Placed) (ds : List (Option ℤ)) (k : ℕ) (d : Placed) → length ds ≡ length ps
    → get_or (clocks_with m ps ds) k None ≡ option_map (clock_with m (get_or ps k d)) (get_or ds k None)
with_at m [] [] k d e = refl
with_at m [] (o ∷ ds) k d e = absurd (omega (arith, e))
with_at m (p ∷ ps) [] k d e = absurd (omega (arith, e))
with_at m (p ∷ ps) (o ∷ ds) zero d e = refl
with_at m (p ∷ ps) (o ∷ ds) (suc k) d e = with_at m ps ds k d (omega (arith, e))

pub with_many : (m : ℕ) (ps : List Placed) (ds : List (Option ℤ)) → length ds ≡ length ps → length (clocks_with m ps ds) ≡ length ps
with_many m [] ds e = refl
with_many m (p ∷ ps) [] e = absurd (omega (arith, e))
with_many m (p ∷ ps) (o ∷ ds) e = ap suc (with_many m ps ds (omega (arith, e)))

pub with_set : (m : ℕ) (ps : List Placed) (ds : List (Option ℤ)) (i : ℕ) (p : Placed) (o : Option ℤ) → i < length ps → p ≡ get_or ps i p
    → clocks_with m ps (set ds i o) ≡ set (clocks_with m ps ds) i (option_map (clock_with m p) o)
with_set m [] ds i p o l e = absurd (omega arith)
with_set m (q ∷ ps) [] i p o l e = refl
with_set m (q ∷ ps) (x ∷ ds) zero p o l e = ap (λ r. option_map (clock_with m r) o ∷ clocks_with m ps ds) (sym e)
with_set m (q ∷ ps) (x ∷ ds) (suc i) p o l e = ap (λ r. option_map (clock_with m q) x ∷ r) (with_set m ps ds i p o (omega arith) e)

pub known_within : {X : Type 0} (ds : List (Option X)) (j : ℕ) (d : X) → get_or ds j None ≡ Some d → j < length ds
known_within [] j d e = absurd (false≢true (ap is_some e))
known_within (o ∷ ds) zero d e = omega arith
known_within (o ∷ ds) (suc j) d e = let l = known_within ds j d e in omega (arith, l)

-- ---- before any is known
pub none_at : {X : Type 0} (n k : ℕ) (o : Option X) → o ≡ None → get_or (replicate n o) k None ≡ None
none_at zero k o e = refl
none_at (suc n) zero o e = e
none_at (suc n) (suc k) o e = none_at n k o e

pub none_set : (m : ℕ) (trace : List Placed) → AreSet m trace (replicate (length trace) None)
none_set m trace =
    let none : List (Option ℤ) = replicate (length trace) None in
    let many : length none ≡ length trace = length-replicate (length trace) None in (
      many,
      (
        with_many m trace none many,
        λ k d l. inl (with_at m trace none k d many ∙ ap (option_map (clock_with m (get_or trace k d))) (none_at (length trace) k None refl)),
      ),
    )

pub closed_more : (m : ℕ) (trace : List Placed) (i : ℕ) (ds new : List (Option ℤ)) → new ≡ ds → AreClosed m trace i (clocks_with m trace ds)
    → IsClosed m trace i (clocks_with m trace new) → AreClosed m trace (i + 1) (clocks_with m trace new)
closed_more m trace i ds new e before here k l = ⊎_elim
    (λ (same : k ≡ i). subst (λ j. IsClosed m trace j (clocks_with m trace new)) (sym same) here)
    (λ (other : k ≡ i → ⊥). subst (IsClosed m trace k) (sym (ap (clocks_with m trace) e)) (before k (omega arith)))
    (cases_eq k i)

-- the step at a place of the trace, whose parent's place is in the list of those
pub parent_read : (trace : List Placed) (parents : List (Option ℕ)) (i : ℕ) (d : Placed) → i < length trace → parents ≡ map (place_in trace) trace
    → get_or parents i None ≡ place_in trace (get_or trace i d)
parent_read trace parents i d l e = ap (λ ps. get_or ps i None) e ∙ get_or-map (place_in trace) trace i d None l

pub span_at : (ps : List Placed) (i : ℕ) → i < length ps → (p : Placed) × (p ≡ get_or ps i p)
span_at [] i l = absurd (omega arith)
span_at (p ∷ ps) zero l = (p, refl)
span_at (p ∷ ps) (suc i) l = span_at ps i (omega arith)

-- nothing is set where a delta is known
pub known_closed : (m : ℕ) (trace : List Placed) (ds : List (Option ℤ)) (i : ℕ) → length ds ≡ length trace → is_some (get_or ds i None) ≡ true
    → IsClosed m trace i (clocks_with m trace ds)
known_closed m trace ds i many known d z =
    absurd
    (false≢true (sym (ap is_some (map_none (clock_with m (get_or trace i d)) (get_or ds i None) (sym (with_at m trace ds i d many) ∙ z))) ∙ known))

set_fewer : {X : Type 0} (cs : List (Option X)) (i : ℕ) (n : Option X) → i < length cs → get_or cs i None ≡ None
    → unset_count (set cs i n) + cond (is_some n) 1 0 ≡ unset_count cs
set_fewer {X} cs i n l q =
    let s : unset_count (set cs i n) + cond (is_unset (get_or cs i None)) 1 0 ≡ unset_count cs + cond (is_unset n) 1 0 =
    sum_by-set (λ c. cond (is_unset c) 1 0) cs i n None l in
    elim n as (λ n. unset_count (set cs i n) + cond (is_unset (get_or cs i None)) 1 0 ≡ unset_count cs + cond (is_unset n) 1 0
    → unset_count (set cs i n) + cond (is_some n) 1 0 ≡ unset_count cs) [
      | None ↦ λ s. let one : unset_count (set cs i None) + 1 ≡ unset_count cs + 1 =
          ap (λ c. unset_count (set cs i None) + cond (is_unset c) 1 0) (sym q) ∙ s in omega arith
      | Some c ↦ λ s. let one : unset_count (set cs i (Some c)) + 1 ≡ unset_count cs + 0 =
          ap (λ x. unset_count (set cs i (Some c)) + cond (is_unset x) 1 0) (sym q) ∙ s in omega arith
    ] s

-- ---- the step at one place, whose delta is not known
module _ (m : ℕ) (trace : List Placed) (old new : List (Option ℤ)) (i : ℕ) (p : Placed) (near : Option ℤ) (l : i < length trace)
    (here : p ≡ get_or trace i p) (unset : get_or old i None ≡ None) (after : new ≡ set old i near)
    (right : option_map (clock_with m p) near ≡ clock_near m (clocks_with m trace old) p (place_in trace p)) (is_set : AreSet m trace old) where
  abbrev known : List (Option ℤ) → List (Option Clock)
  known ds = clocks_with m trace ds

  as_known : known new ≡ set (known old) i (clock_near m (known old) p (place_in trace p))
  as_known = ap known after ∙ with_set m trace old i p near l here ∙ ap (set (known old) i) right

  pub step_set : AreSet m trace new
  step_set =
      (ap length after ∙ length-set old i near ∙ is_set.0, subst (AreRight m trace) (sym as_known) (settle_right m trace (known old) i p l here is_set.1))

  pub step_closed : is_some near ≡ false → (new ≡ old) × IsClosed m trace i (known new)
  step_closed e =
      let none : near ≡ None = none_is near e in
      let same : new ≡ old = after ∙ ap (set old i) (none ∙ sym unset) ∙ set-get_or old i None in (
        same,
        λ d z.
            let q : p ≡ get_or trace i d = here ∙ get_or_default trace i p d l in
            ap (λ c. clock_near m (known c) (get_or trace i d) (place_in trace (get_or trace i d))) same
            ∙ ap (λ x. clock_near m (known old) x (place_in trace x)) (sym q)
            ∙ sym right ∙ ap (option_map (clock_with m p)) none,
      )

  pub step_fewer : (b : Bool) → b ≡ is_some near → unset_count new + cond b 1 0 ≡ unset_count old
  step_fewer b e = let many = is_set.0 in (λ j. unset_count (after j) + cond (e j) 1 0) ∙ set_fewer old i near (omega (arith, many, l)) unset
