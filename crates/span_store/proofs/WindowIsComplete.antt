-- A search finds all matches among the traces whose ranges overlap its window.
use Rattle.std.proofs.Common.{◌≡◌, ℤ, Bool, true, false, ◌||◌, ◌&&◌, List, [], ◌∷◌, map, refl, sym, ap, ◌∙◌, arith, Some, None}
use Rattle.std.specs.Prelude.{Option, filter, int_lt, option_map, pos, ◌+ℤ◌, ◌-ℤ◌}
use Rattle.std.specs.List.{AllByRecursion, list_all, list_any}
use Rattle.std.proofs.lemmas.Bool.{false≢true, and_parts, true_from_ne_false}
use Rattle.std.proofs.lemmas.Int.{ints}
use Rattle.jaeger_model.specs.declared.placed.Placed.{Placed}
use Rattle.trace_model.specs.declared.query.Find.{Find}
use Rattle.trace_model.specs.LimitedHistories.{LimitedHistory}
use Rattle.trace_model.specs.Histories.{events}
use Rattle.trace_model.specs.Searching.{at_least, at_most, bound, cut, first_start, found_in, has_tag, has_service_and_operation}
use Rattle.trace_model.specs.Searching.{is_timed, matches, matching, ranked_by_start}
use Rattle.trace_model.specs.Searching.{traces}
use Rattle.trace_assembly.specs.declared.spot.Spot.{Spot}
use Rattle.trace_assembly.specs.AssembledRows.{Assembled, spots_of}
use Rattle.trace_assembly.proofs.Lists.{map_filter}
use Rattle.trace_ring.specs.declared.first_starts.ranges.Range.{Range}
use Rattle.trace_ring.specs.FirstStarts.{Starts}
use Rattle.trace_ring.specs.StartRanges.{IsIn, begins_before, ends_after, range_at, overlaps}
use Rattle.service_index.specs.KeptNames.{KeptNames}
use Rattle.service_index.specs.ServicePlaces.{ServicePlacesValue}
use Rattle.journal_traces.specs.TraceRanges.{FailsOutside, StartsIn, search_window}
use Rattle.collected_traces.specs.EntriesAtPlaces.{spans_named}
use Rattle.journal_traces.specs.SpansAtSpots.{traces_named}
use Rattle.span_store.specs.StoreIndexes.{IsStoreKept}
use Rattle.span_store.proofs.IndexesAreKept.{found_kept, kept_spots}
use Rattle.span_store.proofs.RangesFollowEvents.{named_ranged}

-- ---- a span that matches
ends_late : (low : Option ℤ) (r : Range) (time : ℤ) → IsIn r time → at_least low time ≡ true → ends_after r (option_map (λ t. t -ℤ pos 1) low) ≡ true
ends_late None r time i e = refl
ends_late (Some low) r time i e = let lasting = i.lasting in true_from_ne_false (int_lt (low -ℤ pos 1) r.latest) (λ f. absurd (omega (arith, ints)))

begins_early : (high : Option ℤ) (r : Range) (time : ℤ) → IsIn r time → at_most high time ≡ true → begins_before r (option_map (λ t. t +ℤ pos 1) high) ≡ true
begins_early None r time i e = refl
begins_early (Some high) r time i e = let begun = i.begun in true_from_ne_false (int_lt r.earliest (high +ℤ pos 1)) (λ f. absurd (omega (arith, ints)))

-- it starts in the window, so that its range overlaps there
match_overlaps : (q : Find) (r : Range) (p : Placed) → StartsIn r p → matches q p ≡ true → overlaps (search_window q) r ≡ true
match_overlaps q r p i e =
    let durations : Bool = at_least (bound q.duration_min) p.span.duration && at_most (bound q.duration_max) p.span.duration in
    let met = and_parts (has_service_and_operation q p && is_timed q p) (list_all (has_tag p) q.tags) e in
    let timed = and_parts (has_service_and_operation q p) (is_timed q p) met.0 in
    let high = and_parts (durations && at_least q.start_min p.span.start) (at_most q.start_max p.span.start) timed.1 in
    let low = and_parts durations (at_least q.start_min p.span.start) high.0 in
    let a = ends_late q.start_min r p.span.start i low.1 in
    let b = begins_early q.start_max r p.span.start i high.1 in
    λ j. a j && b j

no_match : (q : Find) (r : Range) (p : Placed) → overlaps (search_window q) r ≡ false → StartsIn r p → matches q p ≡ false
no_match q r p none i = by (matches q p) refl
  where
    by : (b : Bool) → matches q p ≡ b → b ≡ false
    by false e = refl
    by true e = absurd (false≢true (sym none ∙ match_overlaps q r p i e))

none_match : (q : Find) (r : Range) (ps : List Placed) → overlaps (search_window q) r ≡ false → AllByRecursion (StartsIn r) ps → list_any (matches q) ps ≡ false
none_match q r [] none all = refl
none_match q r (p ∷ ps) none all = ap (λ b. b || list_any (matches q) ps) (no_match q r p none all.0) ∙ none_match q r ps none all.1

-- ---- of a store
module _ (q : Find) (held : LimitedHistory) (shown : Assembled) (starts : Starts) (index : KeptNames) (by_service : ServicePlacesValue)
    (k : IsStoreKept held shown starts index by_service) where
  -- a span at the spots matches
  abbrev pub is_hit : List Spot → Bool
  is_hit ss = list_any (matches q) (spans_named held.entries ss)

  pub outside_fails : FailsOutside (search_window q) starts shown is_hit
  outside_fails place t at none =
      none_match q (range_at starts place) (spans_named held.entries (spots_of shown t)) none
      (named_ranged held.limits.traces held.entries (spots_of shown) shown.newest.ids starts (kept_spots held shown starts index by_service k)
      k.ranged place t at)

  pub found_within : (spots : List (List Spot)) → filter is_hit spots ≡ filter is_hit (map (spots_of shown) shown.newest.ids)
      → found_in q (traces_named held.entries spots) ≡ found_in q (traces held.limits.traces (events held.entries))
  found_within spots same =
      let named : List (List Spot) → List (List Placed) = map (spans_named held.entries) in
      let all : List (List Spot) = map (spots_of shown) shown.newest.ids in
      let matched : matching q (named spots) ≡ matching q (named all) =
      sym (map_filter (spans_named held.entries) (list_any (matches q)) spots) ∙ ap named same
      ∙ map_filter (spans_named held.entries) (list_any (matches q)) all in
      ap (λ ts. cut q.limit (ranked_by_start first_start ts)) matched ∙ found_kept q held shown starts index by_service k shown.newest.ids all refl refl
