-- Traces whose ranges don't overlap a window have no span in it.
use Rattle.std.proofs.Common.{◌≡◌, ℕ, ℤ, zero, suc, ◌+◌, ◌-◌, ◌<◌, ◌≤◌, Bool, true, false, ◌||◌, ◌&&◌, List, [], ◌∷◌, ◌++◌, map, length, take, get_or, refl}
use Rattle.std.proofs.Common.{sym, ap, ◌∙◌, arith, Some}
use Rattle.std.specs.Prelude.{filter, int_lt, pos, ◌-ℤ◌, ◌*ℤ◌}
use Rattle.std.specs.List.{list_any, AllByRecursion}
use Rattle.std.proofs.lemmas.Bool.{false≢true, and_parts, true_from_ne_false}
use Rattle.std.proofs.lemmas.Int.{ints}
use Rattle.std.proofs.lemmas.List.{map_push, take_more}
use Rattle.std.proofs.lemmas.List.Elements.{filter-append}
use Rattle.std.proofs.lemmas.Option.{slice_get-get_or}
use Rattle.jaeger_model.specs.declared.ids.TraceId.{TraceId}
use Rattle.jaeger_model.specs.declared.placed.Placed.{Placed}
use Rattle.trace_model.specs.ServiceLinks.{in_window, is_between}
use Rattle.trace_ring.specs.declared.first_starts.ranges.Range.{Range}
use Rattle.trace_ring.specs.declared.first_starts.ranges.Window.{Window}
use Rattle.trace_ring.specs.FirstStarts.{Starts}
use Rattle.trace_ring.specs.StartRanges.{IsIn, range_at, overlaps}
use Rattle.trace_assembly.specs.declared.spot.Spot.{Spot}
use Rattle.trace_assembly.specs.AssembledRows.{Assembled, spots_of}
use Rattle.journal_traces.specs.TraceRanges.{AreRanged, FailsOutside, StartsIn}
use Rattle.journal_traces.proofs.SpansAtSpots.{no_id, left_out}

-- the window of these times in milliseconds
abbrev pub window_of : ℤ → ℤ → Window
window_of e l = record { after = Some (pos 1000 *ℤ (e -ℤ l)); before = Some (pos 1000 *ℤ e) }

later : (b latest time : ℤ) → int_lt latest time ≡ false → int_lt b time ≡ true → int_lt b latest ≡ true
later b latest time p q = true_from_ne_false (int_lt b latest) (λ f. absurd (omega (arith, ints)))

sooner : (b earliest time : ℤ) → int_lt time earliest ≡ false → int_lt time b ≡ true → int_lt earliest b ≡ true
sooner b earliest time p q = true_from_ne_false (int_lt earliest b) (λ f. absurd (omega (arith, ints)))

outside : (e l : ℤ) (r : Range) (time : ℤ) → overlaps (window_of e l) r ≡ false → IsIn r time → is_between e l time ≡ false
outside e l r time none in_it = by (is_between e l time) refl
  where
    by : (b : Bool) → is_between e l time ≡ b → b ≡ false
    by false f = refl
    by true f =
        let parts = and_parts (int_lt (pos 1000 *ℤ (e -ℤ l)) time) (int_lt time (pos 1000 *ℤ e)) f in
        let a = later (pos 1000 *ℤ (e -ℤ l)) r.latest time in_it.lasting parts.0 in
        let b = sooner (pos 1000 *ℤ e) r.earliest time in_it.begun parts.1 in
        absurd (false≢true (sym none ∙ (λ i. a i && b i)))

none_starts : (e l : ℤ) (r : Range) (ps : List Placed) → overlaps (window_of e l) r ≡ false → AllByRecursion (StartsIn r) ps
    → list_any (in_window e l) ps ≡ false
none_starts e l r [] none all = refl
none_starts e l r (p ∷ ps) none all =
    ap (λ b. b || list_any (in_window e l) ps) (outside e l r p.span.start none all.0) ∙ none_starts e l r ps none all.1

-- ---- a test of what the traces of a ring have
module _ {X : Type 0} (p : X → Bool) (f : TraceId → X) (ids : List TraceId) where
  so_many : (from more : ℕ) → from + more ≤ length ids → ((k : ℕ) → from ≤ k → k < from + more → p (f (get_or ids k no_id)) ≡ false)
      → filter p (map f (take (from + more) ids)) ≡ filter p (map f (take from ids))
  so_many from zero within none = let same : from + 0 ≡ from = omega arith in ap (λ n. filter p (map f (take n ids))) same
  so_many from (suc more) within none =
      let last : ℕ = from + more in
      let next : from + suc more ≡ last + 1 = omega arith in
      ap (λ n. filter p (map f (take n ids))) next
      ∙ left_out p f ids last no_id (omega arith) (none last (omega arith) (omega arith))
      ∙ so_many from more (omega arith) (λ k low high. none k low (omega arith))

  -- it finds the same if the traces from one place to another one fail it
  all_fail : (from to : ℕ) → from ≤ to → to ≤ length ids → ((k : ℕ) → from ≤ k → k < to → p (f (get_or ids k no_id)) ≡ false)
      → filter p (map f (take to ids)) ≡ filter p (map f (take from ids))
  all_fail from to up within none =
      let all : from + (to - from) ≡ to = omega arith in
      ap (λ n. filter p (map f (take n ids))) (sym all) ∙ so_many from (to - from) (omega arith) (λ k low high. none k low (omega arith))

-- no trace from one place to another one has a span in the window
pub skipped : (e l : ℤ) (starts : Starts) (ids : List TraceId) (spans : TraceId → List Placed) → AreRanged starts ids spans → (w : Window) → w ≡ window_of e l
    → (from to : ℕ) → from ≤ to → to ≤ length ids → ((k : ℕ) → from ≤ k → k < to → overlaps w (range_at starts k) ≡ false)
    → filter (list_any (in_window e l)) (map spans (take to ids)) ≡ filter (list_any (in_window e l)) (map spans (take from ids))
skipped e l starts ids spans ranged w is from to up within none =
    all_fail (list_any (in_window e l)) spans ids from to up within (λ k low high.
    none_starts e l (range_at starts k) (spans (get_or ids k no_id)) (ap (λ v. overlaps v (range_at starts k)) (sym is) ∙ none k low high)
    (ranged k (get_or ids k no_id) (slice_get-get_or ids k no_id (omega arith))))

-- their spots fail the test
pub spots_skipped : (w : Window) (starts : Starts) (shown : Assembled) (p : List Spot → Bool) → FailsOutside w starts shown p
    → (from to : ℕ) → from ≤ to → to ≤ length shown.newest.ids → ((k : ℕ) → from ≤ k → k < to → overlaps w (range_at starts k) ≡ false)
    → filter p (map (spots_of shown) (take to shown.newest.ids)) ≡ filter p (map (spots_of shown) (take from shown.newest.ids))
spots_skipped w starts shown p fails from to up within none =
    all_fail p (spots_of shown) shown.newest.ids from to up within (λ k low high.
    fails k (get_or shown.newest.ids k no_id) (slice_get-get_or shown.newest.ids k no_id (omega arith)) (none k low high))

-- one more trace
pub spots_more : (shown : Assembled) (p : List Spot → Bool) (found : List (List Spot)) (spots : List Spot) (i : ℕ) → i < length shown.newest.ids
    → spots ≡ spots_of shown (get_or shown.newest.ids i no_id)
    → filter p found ≡ filter p (map (spots_of shown) (take i shown.newest.ids))
    → filter p (found ++ spots ∷ []) ≡ filter p (map (spots_of shown) (take (i + 1) shown.newest.ids))
spots_more shown p found spots i below is before =
    let f = spots_of shown in
    let ids = shown.newest.ids in
    filter-append p found (spots ∷ [])
    ∙ (λ j. before j ++ filter p (is j ∷ []))
    ∙ sym (filter-append p (map f (take i ids)) (f (get_or ids i no_id) ∷ []))
    ∙ sym (ap (λ ts. filter p (map f ts)) (take_more ids i no_id below) ∙ ap (filter p) (map_push f (take i ids) (get_or ids i no_id)))
