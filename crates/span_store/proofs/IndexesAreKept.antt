-- The indexes beside the entries are kept.
use Rattle.std.proofs.Common.{◌≡◌, ℕ, ◌+◌, ◌^◌, ◌<◌, ◌≤◌, List, [], ◌∷◌, ◌++◌, length, map, Ok, sym, ap, subst, ◌∙◌, arith}
use Rattle.std.proofs.lemmas.Simd.{map-map}
use Rattle.jaeger_model.specs.declared.ids.TraceId.{TraceId}
use Rattle.trace_model.specs.declared.entry.Entry.{Entry}
use Rattle.trace_model.specs.declared.admission.Admission.TheVariants.{Added}
use Rattle.trace_model.specs.LimitedHistories.{LimitedHistory}
use Rattle.trace_model.specs.Histories.{IsLegal, arrivals, events, span_count}
use Rattle.trace_model.specs.EntryWork.{spans_brought}
use Rattle.trace_model.proofs.Admissions.{MayFollow, IsSaid, admission_says}
use Rattle.trace_model.proofs.Legality.{span_count_push}
use Rattle.arrival_journal.specs.Journals.{admission_by}
use Rattle.trace_model.specs.Refusals.{followed_by}
use Rattle.trace_model.specs.declared.query.Find.{Find}
use Rattle.trace_model.specs.Searching.{traces, found_in}
use Rattle.trace_model.specs.ShownSpans.{ring, spans_of_trace}
use Rattle.trace_assembly.specs.declared.spot.Spot.{Spot}
use Rattle.trace_assembly.specs.AssembledRows.{Assembled, spots_of}
use Rattle.trace_assembly.specs.LocatedSpans.{located_events, shown_spots}
use Rattle.trace_assembly.proofs.LocatedEvents.{events-located}
use Rattle.service_index.specs.KeptNames.{KeptNames}
use Rattle.service_index.proofs.NumbersOfEntry.{length-arrivals}
use Rattle.service_index.specs.ServicePlaces.{ServicePlacesValue}
use Rattle.collected_traces.specs.EntriesAtPlaces.{spans_named}
use Rattle.journal_traces.specs.SpansAtSpots.{traces_named}
use Rattle.trace_ring.specs.FirstStarts.{Starts}
use Rattle.span_store.specs.ShownStarts.{AreFirst, IsCounted, IsRanged}
use Rattle.span_store.specs.StoreIndexes.{FollowsEvents, IsRingWithin, IsStoreKept, AreNamesOf, ArePlacesOf}
use Rattle.span_store.proofs.RingFollowsEvents.{follows_within, trace_stands}

-- the given number of further spots is in the same room
pub record Grows (shown shown' : Assembled) (more : ℕ) : Type 0 where
  pub room : shown'.room ≡ shown.room
  pub used : shown'.used ≡ shown.used + more

-- one more entry
pub kept_more : (old held : LimitedHistory) (e : Entry) (shown shown' : Assembled) (starts starts' : Starts) (index index' : KeptNames)
    (by_service by_service' : ServicePlacesValue)
    → IsStoreKept old shown starts index by_service → held ≡ followed_by old e → Grows shown shown' (length (spans_brought e.work))
    → FollowsEvents old.limits.traces (located_events (old.entries ++ e ∷ [])) shown'.newest (spots_of shown')
    → AreFirst old.limits.traces (located_events (old.entries ++ e ∷ [])) starts'.starts → IsCounted shown' starts'
    → IsRanged old.limits.traces (located_events (old.entries ++ e ∷ [])) shown' starts'
    → AreNamesOf (followed_by old e) index' → ArePlacesOf (followed_by old e) by_service' → IsStoreKept held shown' starts' index' by_service'
kept_more old held e shown shown' starts starts' index index' by_service by_service' k h grows f first counted ranged listed placed =
    let now : LimitedHistory = followed_by old e in
    let back : now ≡ held = sym h in
    record {
      room = grows.room ∙ k.room ∙ ap (λ (v : LimitedHistory). v.limits.spans) back;
      used =
          grows.used ∙ ap (λ n. n + length (spans_brought e.work)) k.used ∙ sym (span_count_push old.entries e)
          ∙ ap (λ (v : LimitedHistory). span_count v.entries) back;
      follows = subst (λ (v : LimitedHistory). FollowsEvents v.limits.traces (located_events v.entries) shown'.newest (spots_of shown')) back f;
      first = subst (λ (v : LimitedHistory). AreFirst v.limits.traces (located_events v.entries) starts'.starts) back first;
      counted = counted;
      ranged = subst (λ (v : LimitedHistory). IsRanged v.limits.traces (located_events v.entries) shown' starts') back ranged;
      named = subst (λ (v : LimitedHistory). AreNamesOf v index') back listed;
      placed = subst (λ (v : LimitedHistory). ArePlacesOf v by_service') back placed;
    }

-- the spans of an entry that may follow are within the limit
spans_within : (held : LimitedHistory) (e : Entry) → admission_by held e ≡ Ok Added
    → span_count held.entries + length (spans_brought e.work) ≤ held.limits.spans
spans_within held e may =
    let follows : MayFollow held.limits held.entries e = subst (IsSaid held.limits held.entries e) may (admission_says held.limits held.entries e) in
    follows.spans

-- they can be counted
pub spans_fit : (held : LimitedHistory) (e : Entry) → admission_by held e ≡ Ok Added → length (spans_brought e.work) < 2 ^ 32
spans_fit held e may = omega (arith, spans_within held e may, held.limits.within)

-- they have room
pub kept_room : (held : LimitedHistory) (e : Entry) (shown : Assembled) (starts : Starts) (index : KeptNames) (by_service : ServicePlacesValue)
    → IsStoreKept held shown starts index by_service
    → admission_by held e ≡ Ok Added → shown.used + length (spans_brought e.work) ≤ shown.room
kept_room held e shown starts index by_service k may = omega (arith, k.room, k.used, spans_within held e may)

-- nor are there more arrivals with them than the spans that there may be
pub arrivals_fit : (held now : LimitedHistory) (e : Entry) (h : List Entry) (room : ℕ) → now ≡ followed_by held e → IsLegal now.limits now.entries
    → h ≡ now.entries
    → room ≡ held.limits.spans → length (arrivals h) ≤ room
arrivals_fit held now e h room appended legal same is =
    omega (arith, length-arrivals h ∙ ap span_count same, legal.spans, ap (λ (v : LimitedHistory). v.limits.spans) appended, is)

-- the ring is within the current limit
pub kept_within : (held : LimitedHistory) (shown : Assembled) (starts : Starts) (index : KeptNames) (by_service : ServicePlacesValue)
    → IsStoreKept held shown starts index by_service
    → IsRingWithin shown.newest
kept_within held shown starts index by_service k = follows_within held.limits.traces (located_events held.entries) shown.newest (spots_of shown) k.follows

-- ---- the indexes obey the limits of the entries
pub kept_spots : (held : LimitedHistory) (shown : Assembled) (starts : Starts) (index : KeptNames) (by_service : ServicePlacesValue)
    → IsStoreKept held shown starts index by_service
    → (t : TraceId) → spots_of shown t ≡ shown_spots held.limits.traces (located_events held.entries) t
kept_spots held shown starts index by_service k t = k.follows.spots t

pub kept_ring : (held : LimitedHistory) (shown : Assembled) (starts : Starts) (index : KeptNames) (by_service : ServicePlacesValue)
    → IsStoreKept held shown starts index by_service
    → shown.newest.ids ≡ ring held.limits.traces (events held.entries)
kept_ring held shown starts index by_service k = k.follows.ring ∙ ap (ring held.limits.traces) (events-located held.entries)

-- the traces of the ring are those that are shown
pub kept_traces : (held : LimitedHistory) (shown : Assembled) (starts : Starts) (index : KeptNames) (by_service : ServicePlacesValue)
    → IsStoreKept held shown starts index by_service
    → map (spans_of_trace held.limits.traces (events held.entries)) shown.newest.ids ≡ traces held.limits.traces (events held.entries)
kept_traces held shown starts index by_service k =
    ap (map (spans_of_trace held.limits.traces (events held.entries))) (kept_ring held shown starts index by_service k)

-- a search finds among the spots of some traces what it finds among all, if it does so among these traces
pub found_kept : (q : Find) (held : LimitedHistory) (shown : Assembled) (starts : Starts) (index : KeptNames) (by_service : ServicePlacesValue)
    → IsStoreKept held shown starts index by_service
    → (ids : List TraceId) (spots : List (List Spot)) → spots ≡ map (spots_of shown) ids
    → found_in q (map (spans_of_trace held.limits.traces (events held.entries)) ids)
    ≡ found_in q (map (spans_of_trace held.limits.traces (events held.entries)) shown.newest.ids)
    → found_in q (traces_named held.entries spots) ≡ found_in q (traces held.limits.traces (events held.entries))
found_kept q held shown starts index by_service k ids spots are same =
    let stands = trace_stands held.limits.traces held.entries (spots_of shown) (kept_spots held shown starts index by_service k) in
    ap (λ ss. found_in q (map (spans_named held.entries) ss)) are
    ∙ ap (found_in q) (map-map (spans_named held.entries) (spots_of shown) ids ∙ (λ i. map (λ t. stands t i) ids))
    ∙ same
    ∙ ap (found_in q) (kept_traces held shown starts index by_service k)
