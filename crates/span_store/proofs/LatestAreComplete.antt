-- A search that reaches its limit among the traces that start after some time finds the same among all.
use Rattle.std.proofs.Common.{◌≡◌, ℕ, suc, zero, ℤ, ◌<◌, Bool, true, false, cond, List, [], ◌∷◌, map, length, take, refl, sym, ap, ◌∙◌, arith}
use Rattle.std.specs.Prelude.{filter, int_lt, if◌then◌else◌}
use Rattle.std.specs.List.{list_any}
use Rattle.std.proofs.lemmas.Bool.{ne_eqb}
use Rattle.std.proofs.lemmas.Int.{ints}
use Rattle.std.proofs.lemmas.List.{length-map}
use Rattle.std.proofs.lemmas.Simd.{map-map}
use Rattle.jaeger_model.specs.declared.ids.TraceId.{TraceId}
use Rattle.jaeger_model.specs.declared.placed.Placed.{Placed}
use Rattle.trace_model.specs.declared.query.Find.{Find}
use Rattle.trace_model.specs.LimitedHistories.{LimitedHistory}
use Rattle.trace_model.specs.Histories.{events}
use Rattle.trace_model.specs.Searching.{cut, first_start, found_in, matches, matching, ranked_by_start, traces, StartsFall}
use Rattle.trace_model.specs.ShownSpans.{ring, spans_of_trace}
use Rattle.trace_model.proofs.FallingStarts.{NoneLater, ranked-falls}
use Rattle.trace_model.proofs.RankedLists.{ranked-filter}
use Rattle.trace_assembly.specs.declared.spot.Spot.{Spot}
use Rattle.trace_assembly.specs.AssembledRows.{Assembled, spots_of}
use Rattle.trace_assembly.proofs.LocatedEvents.{events-located}
use Rattle.trace_ring.specs.FirstStarts.{Starts}
use Rattle.service_index.specs.KeptNames.{KeptNames}
use Rattle.service_index.specs.ServicePlaces.{ServicePlacesValue}
use Rattle.collected_traces.specs.EntriesAtPlaces.{spans_named}
use Rattle.journal_traces.specs.SpansAtSpots.{traces_named}
use Rattle.span_store.specs.StoreIndexes.{IsStoreKept}
use Rattle.span_store.proofs.RingFollowsEvents.{trace_stands}
use Rattle.span_store.proofs.IndexesAreKept.{found_kept, kept_ring, kept_spots}

-- ---- of a ranking
module _ {X : Type 0} (start : X → ℤ) (time : ℤ) where
  abbrev pub after : X → Bool
  after x = int_lt time (start x)

  not_after : (a b : ℤ) → int_lt time a ≡ false → int_lt a b ≡ false → int_lt time b ≡ false
  not_after a b p q = grind (arith, ints)

  none_after : (x : X) (xs : List X) → after x ≡ false → NoneLater start x xs → filter after xs ≡ []
  none_after x [] e h = refl
  none_after x (y ∷ ys) e h = ap (λ b. cond b (y ∷ filter after ys) (filter after ys)) (not_after (start x) (start y) e h.0) ∙ none_after x ys e h.1

  -- if enough are after the time, they are the first ones
  pub first_after : (n : ℕ) (xs : List X) → StartsFall start xs → length (take n (filter after xs)) ≡ n → take n (filter after xs) ≡ take n xs
  first_after zero xs falls long = refl
  first_after (suc n) [] falls long = refl
  first_after (suc n) (x ∷ xs) falls long = by (first_after n xs falls.1) (after x) refl long
    where
      by : (length (take n (filter after xs)) ≡ n → take n (filter after xs) ≡ take n xs) → (b : Bool) → after x ≡ b
          → length (take (suc n) (cond b (x ∷ filter after xs) (filter after xs))) ≡ suc n
          → take (suc n) (cond b (x ∷ filter after xs) (filter after xs)) ≡ x ∷ take n xs
      by rest true e l = ap (λ ys. x ∷ ys) (rest (omega arith))
      by rest false e l =
          let none : filter after xs ≡ [] = none_after x xs e falls.0 in
          let short : length (take (suc n) (filter after xs)) ≡ 0 = ap (λ ys. length (take (suc n) ys)) none in
          absurd (omega arith)

swapped : {X : Type 0} (p q : X → Bool) (xs : List X) → filter p (filter q xs) ≡ filter q (filter p xs)
swapped p q [] = refl
swapped p q (x ∷ xs) = by (swapped p q xs) (p x) (q x) refl refl
  where
    by : filter p (filter q xs) ≡ filter q (filter p xs) → (a b : Bool) → p x ≡ a → q x ≡ b
        → filter p (cond b (x ∷ filter q xs) (filter q xs)) ≡ filter q (cond a (x ∷ filter p xs) (filter p xs))
    by rest true true e f =
        ap (λ c. cond c (x ∷ filter p (filter q xs)) (filter p (filter q xs))) e ∙ ap (λ l. x ∷ l) rest
        ∙ sym (ap (λ c. cond c (x ∷ filter q (filter p xs)) (filter q (filter p xs))) f)
    by rest true false e f = rest ∙ sym (ap (λ c. cond c (x ∷ filter q (filter p xs)) (filter q (filter p xs))) f)
    by rest false true e f = ap (λ c. cond c (x ∷ filter p (filter q xs)) (filter p (filter q xs))) e ∙ rest
    by rest false false e f = rest

chosen_map : {X Y : Type 0} (f : X → Y) (p : Y → Bool) (xs : List X) → filter p (map f xs) ≡ map f (filter (λ x. p (f x)) xs)
chosen_map f p [] = refl
chosen_map f p (x ∷ xs) = by (chosen_map f p xs) (p (f x))
  where
    by : filter p (map f xs) ≡ map f (filter (λ y. p (f y)) xs) → (b : Bool)
        → cond b (f x ∷ filter p (map f xs)) (filter p (map f xs)) ≡ map f (cond b (x ∷ filter (λ y. p (f y)) xs) (filter (λ y. p (f y)) xs))
    by rest true = ap (λ l. f x ∷ l) rest
    by rest false = rest

cut_some : {X : Type 0} (n : ℕ) (xs : List X) → 0 < n → cut n xs ≡ take n xs
cut_some n xs some = ap (λ b. if b then xs else take n xs) (ne_eqb n 0 (λ e. absurd (omega arith)))

-- ---- of a search
module _ (q : Find) (time : ℤ) where
  abbrev pub late : List Placed → Bool
  late ts = int_lt time (first_start ts)

  ranked_late : (ts : List (List Placed))
      → ranked_by_start first_start (matching q (filter late ts)) ≡ filter late (ranked_by_start first_start (matching q ts))
  ranked_late ts = ap (ranked_by_start first_start) (swapped (list_any (matches q)) late ts) ∙ sym (ranked-filter first_start late (matching q ts))

  pub found_late : (ts : List (List Placed)) → 0 < q.limit → length (found_in q (filter late ts)) ≡ q.limit → found_in q (filter late ts) ≡ found_in q ts
  found_late ts some all =
      let ranking : List (List Placed) = ranked_by_start first_start (matching q ts) in
      let is : found_in q (filter late ts) ≡ take q.limit (filter late ranking) =
      ap (cut q.limit) (ranked_late ts) ∙ cut_some q.limit (filter late ranking) some in
      is ∙ first_after first_start time q.limit ranking (ranked-falls first_start (matching q ts)) (ap length (sym is) ∙ all)
      ∙ sym (cut_some q.limit ranking some)

-- ---- of a store
-- the stored starts are those of the traces of the ring
pub kept_first : (held : LimitedHistory) (shown : Assembled) (starts : Starts) (index : KeptNames) (by_service : ServicePlacesValue)
    → IsStoreKept held shown starts index by_service
    → starts.starts ≡ map (λ t. first_start (spans_of_trace held.limits.traces (events held.entries) t)) shown.newest.ids
kept_first held shown starts index by_service k =
    let n = held.limits.traces in
    k.first ∙ ap (λ es. map first_start (traces n es)) (events-located held.entries)
    ∙ map-map first_start (spans_of_trace n (events held.entries)) (ring n (events held.entries))
    ∙ ap (map (λ t. first_start (spans_of_trace n (events held.entries) t))) (sym (kept_ring held shown starts index by_service k))

pub as_many : (held : LimitedHistory) (shown : Assembled) (starts : Starts) (index : KeptNames) (by_service : ServicePlacesValue)
    → IsStoreKept held shown starts index by_service
    → length starts.starts ≡ length shown.newest.ids
as_many held shown starts index by_service k =
    let f : TraceId → ℤ = λ t. first_start (spans_of_trace held.limits.traces (events held.entries) t) in
    ap (λ (l : List ℤ). length l) (kept_first held shown starts index by_service k) ∙ length-map shown.newest.ids f

pub found_latest : (q : Find) (held : LimitedHistory) (shown : Assembled) (starts : Starts) (index : KeptNames) (by_service : ServicePlacesValue)
    → IsStoreKept held shown starts index by_service → (time : ℤ) (spots : List (List Spot))
    → spots ≡ map (spots_of shown) (filter (λ t. int_lt time (first_start (spans_of_trace held.limits.traces (events held.entries) t))) shown.newest.ids)
    → 0 < q.limit → length (found_in q (traces_named held.entries spots)) ≡ q.limit
    → found_in q (traces_named held.entries spots) ≡ found_in q (traces held.limits.traces (events held.entries))
found_latest q held shown starts index by_service k time spots are some all =
    let f : TraceId → List Placed = spans_of_trace held.limits.traces (events held.entries) in
    let late_ids : List TraceId = filter (λ t. int_lt time (first_start (f t))) shown.newest.ids in
    let stands = trace_stands held.limits.traces held.entries (spots_of shown) (kept_spots held shown starts index by_service k) in
    let named : traces_named held.entries spots ≡ filter (late q time) (map f shown.newest.ids) =
    ap (map (spans_named held.entries)) are ∙ map-map (spans_named held.entries) (spots_of shown) late_ids ∙ (λ i. map (λ t. stands t i) late_ids)
    ∙ sym (chosen_map f (late q time) shown.newest.ids) in
    found_kept q held shown starts index by_service k late_ids spots are
    (ap (found_in q) (sym (chosen_map f (late q time) shown.newest.ids))
    ∙ found_late q time (map f shown.newest.ids) some (ap (λ ts. length (found_in q ts)) (sym named) ∙ all))
