-- Traces of a window that are collected by their spots, with the numbers of their services.
use Rattle.std.proofs.Common.{◌≡◌, ℕ, zero, suc, ◌+◌, ◌-◌, ◌<◌, ◌≤◌, List, [], ◌∷◌, ◌++◌, map, length, take, drop, get_or, refl, sym, ap, subst, ◌∙◌}
use Rattle.std.proofs.Common.{arith, Some, None, Option, length-append}
use Rattle.std.specs.Prelude.{slice_get, slice_range, slice_index_or, slice_set, IfSome, option_map, is_some}
use Rattle.std.specs.List.{cons_option, All, AllByRecursion}
use Rattle.std.specs.Option.{option_and_then}
use Rattle.std.proofs.lemmas.List.{length-map, map_push}
use Rattle.std.proofs.lemmas.List.Elements.{All-cons, filter_map-append}
use Rattle.std.proofs.lemmas.List.Sums.{passes_at_first}
use Rattle.std.proofs.lemmas.Option.{slice_get-map}
use Rattle.jaeger_model.specs.declared.placed.Placed.{Placed}
use Rattle.jaeger_model.specs.Texts.{same_text}
use Rattle.trace_model.specs.declared.entry.Entry.{Entry}
use Rattle.trace_model.specs.Places.{entry_at}
use Rattle.trace_model.specs.TakenSpans.{Taken, placed_taken}
use Rattle.trace_model.specs.EntryWork.{placed_brought, service_brought}
use Rattle.trace_model.proofs.TakenSpans.{name_there}
use Rattle.trace_model.proofs.Lists.{each_append}
use Rattle.trace_model.proofs.NameLaws.{text_is}
use Rattle.trace_assembly.specs.declared.spot.Spot.{Spot}
use Rattle.trace_assembly.specs.LocatedSpans.{span_at}
use Rattle.service_index.specs.ServicePlaces.{reporters, service_at, service_number_in, AreServiceNumbers}
use Rattle.service_index.proofs.ServiceNumbers.{service_number_within, as_many_reporters}
use Rattle.call_links.specs.NumberedCalls.{StandsFor}
use Rattle.collected_traces.specs.declared.taken_spot.TakenSpot.{TakenSpot}
use Rattle.journal_traces.specs.declared.window_traces.WindowSpots.{WindowSpots}
use Rattle.collected_traces.specs.TraceParts.{next_start, cut_at, AreStarts}
use Rattle.journal_traces.specs.Numbered.{numbered, AreNumbers}
use Rattle.collected_traces.specs.CollectedCandidates.{IsSpotWithin}
use Rattle.journal_traces.specs.SpansAtSpots.{HasServiceNumber, AreNumberedByService, AddsSpan}
use Rattle.journal_traces.specs.WindowTraces.{ServedEntry, entry_seen, entries_seen, entries_in, numbered_span, taken_in, taken_reported, trace_reported}
use Rattle.journal_traces.specs.WindowTraces.{traces_reported, HasService, AreWindowSpots}
use Rattle.collected_traces.proofs.TraceParts.{cut_begin, cut_push, starts_begin, starts_push}
use Rattle.journal_traces.proofs.Numbering.{numbers_more}

-- the last item of a list that is mapped
record IsLast {A B : Type 0} (f : A → B) (xs : List A) (ts : List B) (t : B) : Type 0 where
  front : List A
  last : A
  is : xs ≡ front ++ last ∷ []
  fronts : map f front ≡ ts
  lasts : f last ≡ t

last_of : {A B : Type 0} (f : A → B) (xs : List A) (ts : List B) (t : B) → map f xs ≡ ts ++ t ∷ [] → IsLast f xs ts t
last_of f [] [] t e = absurd (cc e)
last_of f [] (u ∷ ts) t e = absurd (cc e)
last_of f (x ∷ []) [] t e = record { front = []; last = x; is = refl; fronts = refl; lasts = cc e }
last_of f (x ∷ y ∷ xs) [] t e = absurd (cc e)
last_of f (x ∷ xs) (u ∷ ts) t e =
    let first : f x ≡ u = cc e in
    let rest : map f xs ≡ ts ++ t ∷ [] = cc e in
    let m = last_of f xs ts t rest in
    record { front = x ∷ m.front; last = m.last; is = ap (λ l. x ∷ l) m.is; fronts = λ i. first i ∷ m.fronts i; lasts = m.lasts }

-- ---- the number of the service of an entry
served_after : (h : List Entry) (n : ℕ) (e : Entry) → Some e ≡ slice_get h n → (n < length h) × (service_brought e.work ≡ service_at h n)
served_after [] n e is = absurd (cc is)
served_after (x ∷ h) zero e is = let same : e ≡ x = cc is in (omega arith, ap (λ (y : Entry). service_brought y.work) same)
served_after (x ∷ h) (suc n) e is =
    let rest = served_after h n e is in
    let below : n < length h = rest.0 in
    (omega (arith, below), rest.1)

pub served_at : (h : List Entry) (service_numbers : List ℕ) (place : ℕ) (e : Entry) → AreServiceNumbers h service_numbers → Some e ≡ entry_at h place
    → HasService h (e, get_or service_numbers (place - 1) 0)
served_at h service_numbers zero e kept is = absurd (cc is)
served_at h service_numbers (suc m) e kept is =
    let n : ℕ = suc m - 1 in
    let one : n ≡ m = omega arith in
    let there = served_after h m e is in
    let own : service_brought e.work ≡ service_at h n = there.1 ∙ ap (service_at h) (sym one) in
    let short : m < length h = there.0 in
    let below : n < length h = omega (arith, one, short) in
    let number : get_or service_numbers n 0 ≡ service_number_in h (service_brought e.work) = kept.each n below ∙ ap (service_number_in h) (sym own) in
    let within : service_number_in h (service_at h n) ≤ n = service_number_within h n below in
    let first : service_number_in h (service_brought e.work) ≡ service_number_in h (service_at h n) = ap (service_number_in h) own in
    let many = as_many_reporters h in
    let known : service_brought e.work ≡ service_at h (service_number_in h (service_brought e.work)) =
    text_is (service_brought e.work) (service_at h (service_number_in h (service_brought e.work)))
    (passes_at_first (same_text (service_brought e.work)) (reporters h) [] (omega (arith, within, first, many, below))) in
    (number, ap (service_at h) number ∙ sym known)

-- ---- so are the numbers of the spans
named_there : (h : List Entry) (n : ℕ) (s : List ℕ) (o : Option Placed) → StandsFor (service_at h) (service_number_in h) (n, s)
    → ((p : Placed) → o ≡ Some p → s ≡ p.process.service) → IfSome (option_map (numbered_span n) o) (HasServiceNumber h)
named_there h n s None stands own = tt
named_there h n s (Some p) stands own = subst (λ t. StandsFor (service_at h) (service_number_in h) (n, t)) (own p refl) stands

own_name : (e : Entry) (i : ℕ) (p : Placed) → slice_get (placed_brought e.work) i ≡ Some p → service_brought e.work ≡ p.process.service
own_name e i p is =
    let named : Some (service_brought e.work) ≡ Some p.process.service =
    name_there e.work i (ap is_some is) ∙ ap (option_map (λ (q : Placed). q.process.service)) is in
    cc named

has_number : (h : List Entry) (es : List ServedEntry) (n i : ℕ) → AllByRecursion (HasService h) es → IfSome (taken_in i (slice_get es n)) (HasServiceNumber h)
has_number h [] n i a = tt
has_number h (x ∷ es) zero i a = named_there h x.1 (service_brought x.0.work) (slice_get (placed_brought x.0.work) i) a.0 (own_name x.0 i)
has_number h (x ∷ es) (suc n) i a = has_number h es n i a.1

cons_numbered : (h : List Entry) (o : Option Taken) (ts : List Taken) → IfSome o (HasServiceNumber h) → All (HasServiceNumber h) ts
    → All (HasServiceNumber h) (cons_option o ts)
cons_numbered h None ts own rest = rest
cons_numbered h (Some t) ts own rest = All-cons (HasServiceNumber h) t ts own rest

trace_numbered : (h : List Entry) (es : List ServedEntry) (ss : List TakenSpot) → AllByRecursion (HasService h) es
    → All (HasServiceNumber h) (trace_reported es ss)
trace_numbered h es [] a = λ j d le. absurd (omega arith)
trace_numbered h es (s ∷ ss) a = cons_numbered h (taken_reported es s) (trace_reported es ss) (has_number h es s.number s.index a) (trace_numbered h es ss a)

pub traces_numbered : (h : List Entry) (es : List ServedEntry) (sss : List (List TakenSpot)) → AllByRecursion (HasService h) es
    → AreNumberedByService h (map (trace_reported es) sss)
traces_numbered h es [] a = λ j d le. absurd (omega arith)
traces_numbered h es (ss ∷ sss) a =
    All-cons (λ (t : List Taken). All (HasServiceNumber h) t) (trace_reported es ss) (map (trace_reported es) sss) (trace_numbered h es ss a)
    (traces_numbered h es sss a)

-- ---- one more entry
got_still : {X : Type 0} (xs : List X) (x : X) (n : ℕ) → n < length xs → slice_get (xs ++ x ∷ []) n ≡ slice_get xs n
got_still [] x n le = absurd (omega arith)
got_still (y ∷ xs) x zero le = refl
got_still (y ∷ xs) x (suc n) le = got_still xs x n (omega arith)

trace_still : (es : List ServedEntry) (x : ServedEntry) (ss : List TakenSpot) → AllByRecursion (IsSpotWithin (length es)) ss
    → trace_reported (es ++ x ∷ []) ss ≡ trace_reported es ss
trace_still es x [] a = refl
trace_still es x (s ∷ ss) a =
    let same = got_still es x s.number a.0 in
    let rest = trace_still es x ss a.1 in
    λ i. cons_option (taken_in s.index (same i)) (rest i)

all_dropped : {X : Type 0} (P : X → Type 0) (n : ℕ) (xs : List X) → AllByRecursion P xs → AllByRecursion P (drop n xs)
all_dropped P zero xs a = a
all_dropped P (suc n) [] a = tt
all_dropped P (suc n) (x ∷ xs) a = all_dropped P n xs a.1

all_first : {X : Type 0} (P : X → Type 0) (n : ℕ) (xs : List X) → AllByRecursion P xs → AllByRecursion P (take n xs)
all_first P zero xs a = tt
all_first P (suc n) [] a = tt
all_first P (suc n) (x ∷ xs) a = (a.0, all_first P n xs a.1)

cuts_still : (es : List ServedEntry) (x : ServedEntry) (spots : List TakenSpot) (starts : List ℕ) → AllByRecursion (IsSpotWithin (length es)) spots
    → map (trace_reported (es ++ x ∷ [])) (cut_at spots starts) ≡ map (trace_reported es) (cut_at spots starts)
cuts_still es x spots [] a = refl
cuts_still es x spots (s ∷ starts) a =
    let end = next_start (length spots) starts in
    let own = trace_still es x (slice_range spots s end)
    (all_first (IsSpotWithin (length es)) (end - s) (drop s spots) (all_dropped (IsSpotWithin (length es)) s spots a)) in
    let rest = cuts_still es x spots starts a in
    λ i. own i ∷ rest i

all_within : (n m : ℕ) (ss : List TakenSpot) → n ≤ m → AllByRecursion (IsSpotWithin n) ss → AllByRecursion (IsSpotWithin m) ss
all_within n m [] le a = tt
all_within n m (s ∷ ss) le a = let own : s.number < n = a.0 in (omega (arith, own, le), all_within n m ss le a.1)

module _ (h : List Entry) (old new : WindowSpots) (numbers : List (Option ℕ)) (known : AreWindowSpots h old numbers) where
  module _ (x : ServedEntry) (same_spots : new.spots ≡ old.spots) (same_starts : new.starts ≡ old.starts)
      (put : entries_seen new.entries.items ≡ entries_seen old.entries.items ++ x ∷ []) where
    -- one more entry leaves the traces as they are
    pub shared_still : traces_reported new ≡ traces_reported old
    shared_still =
        let es = entries_seen old.entries.items in
        let long : length old.entries.items ≤ length es = omega (arith, length-map old.entries.items entry_seen) in
        (λ i. map (trace_reported (put i)) (cut_at (same_spots i).items (same_starts i).items))
        ∙ cuts_still es x old.spots.items old.starts.items (all_within (length old.entries.items) (length es) old.spots.items long known.within)

    pub shared_known : (place : ℕ) (more : List (Option ℕ)) → Some x.0 ≡ entry_at h place → HasService h x → get_or numbers (place - 1) None ≡ None
        → more ≡ slice_set numbers (place - 1) (Some (numbered numbers)) → AreWindowSpots h new more
    shared_known place more there served none is =
        let es = entries_seen old.entries.items in
        let long : length new.entries.items ≡ length old.entries.items + 1 =
        sym (length-map new.entries.items entry_seen) ∙ ap length put ∙ length-append es (x ∷ []) ∙ ap (λ n. n + 1) (length-map old.entries.items entry_seen) in
        let alone : entries_in (entries_seen new.entries.items) ≡ entries_in es ++ x.0 ∷ [] = ap entries_in put ∙ map_push (λ (e : ServedEntry). e.0) es x in
        record {
          ordered =
              subst (λ (w : List TakenSpot × List ℕ). AreStarts (length w.0) w.1) (λ i. ((sym same_spots i).items, (sym same_starts i).items)) known.ordered;
          within =
              subst (λ ss. AllByRecursion (IsSpotWithin (length new.entries.items)) ss)
              (λ i. (sym same_spots i).items)
              (all_within (length old.entries.items) (length new.entries.items) old.spots.items (omega (arith, long)) known.within);
          services = subst (AllByRecursion (HasService h)) (sym put) (each_append (HasService h) es (x ∷ []) known.services (served, tt));
          found = numbers_more h (entries_in es) numbers x.0 known.found place there (entries_in (entries_seen new.entries.items)) more none alone is;
        }

  -- one more spot
  pub pushed_known : (s : TakenSpot) → new.entries ≡ old.entries → new.spots.items ≡ old.spots.items ++ s ∷ [] → new.starts ≡ old.starts
      → s.number < length old.entries.items → AreWindowSpots h new numbers
  pushed_known s same_entries put same_starts below =
      let long : length new.spots.items ≡ length old.spots.items + 1 = ap length put ∙ length-append old.spots.items (s ∷ []) in
      let P : ℕ → TakenSpot → Type 0 = λ n. IsSpotWithin n in
      record {
        ordered =
            subst (λ (w : ℕ × List ℕ). AreStarts w.0 w.1)
            (λ i. (sym long i, (sym same_starts i).items)) (starts_push (length old.spots.items) old.starts.items known.ordered);
        within =
            subst (λ (w : ℕ × List TakenSpot). AllByRecursion (P w.0) w.1)
            (λ i. (length (sym same_entries i).items, sym put i))
            (each_append (P (length old.entries.items)) old.spots.items (s ∷ []) known.within (below, tt));
        services = subst (λ es. AllByRecursion (HasService h) (entries_seen es)) (λ i. (sym same_entries i).items) known.services;
        found = subst (λ es. AreNumbers h (entries_in (entries_seen es)) numbers) (λ i. (sym same_entries i).items) known.found;
      }

  -- one more trace
  pub begun_known : new.entries ≡ old.entries → new.spots ≡ old.spots → new.starts.items ≡ old.starts.items ++ length old.spots.items ∷ []
      → AreWindowSpots h new numbers
  begun_known same_entries same_spots put =
      record {
        ordered =
            subst (λ (w : List TakenSpot × List ℕ). AreStarts (length w.0) w.1)
            (λ i. ((sym same_spots i).items, sym put i)) (starts_begin (length old.spots.items) old.starts.items known.ordered);
        within =
            subst (λ (w : ℕ × List TakenSpot). AllByRecursion (IsSpotWithin w.0) w.1)
            (λ i. (length (sym same_entries i).items, (sym same_spots i).items)) known.within;
        services = subst (λ es. AllByRecursion (HasService h) (entries_seen es)) (λ i. (sym same_entries i).items) known.services;
        found = subst (λ es. AreNumbers h (entries_in (entries_seen es)) numbers) (λ i. (sym same_entries i).items) known.found;
      }

  pub begun_traces : new.entries ≡ old.entries → new.spots ≡ old.spots → new.starts.items ≡ old.starts.items ++ length old.spots.items ∷ []
      → traces_reported new ≡ traces_reported old ++ [] ∷ []
  begun_traces same_entries same_spots put =
      (λ i. map (trace_reported (entries_seen (same_entries i).items)) (cut_at (same_spots i).items (put i)))
      ∙ ap (map (trace_reported (entries_seen old.entries.items))) (cut_begin old.spots.items old.starts.items)
      ∙ map_push (trace_reported (entries_seen old.entries.items)) (cut_at old.spots.items old.starts.items) []

  -- ---- the last trace gets the span of the spot
  pub pushed_adds : (s : TakenSpot) (o : Option Placed) → placed_taken (cons_option (taken_reported (entries_seen old.entries.items) s) []) ≡ cons_option o []
      → new.entries ≡ old.entries
      → new.spots.items ≡ old.spots.items ++ s ∷ [] → new.starts ≡ old.starts → AddsSpan o (traces_reported old) (traces_reported new)
  pushed_adds s o at same_entries put same_starts = λ ts t is.
      let es = entries_seen old.entries.items in
      let f : List TakenSpot → List Taken = trace_reported es in
      let m = last_of f (cut_at old.spots.items old.starts.items) ts t is in
      let joined : f (m.last ++ s ∷ []) ≡ t ++ f (s ∷ []) = filter_map-append (taken_reported es) m.last (s ∷ []) ∙ ap (λ l. l ++ f (s ∷ [])) m.lasts in
      let all : traces_reported new ≡ ts ++ (t ++ f (s ∷ [])) ∷ [] =
      (λ i. map (trace_reported (entries_seen (same_entries i).items)) (cut_at (put i) (same_starts i).items))
      ∙ ap (map f) (cut_push old.spots.items s old.starts.items known.ordered m.front m.last m.is)
      ∙ map_push f m.front (m.last ++ s ∷ []) ∙ (λ i. m.fronts i ++ joined i ∷ []) in
      (f (s ∷ []), at, all)

-- what is collected at a spot
placed_one : (n : ℕ) (o : Option Placed) → placed_taken (cons_option (option_map (numbered_span n) o) []) ≡ cons_option o []
placed_one n None = refl
placed_one n (Some p) = refl

placed_in : (i : ℕ) (o : Option ServedEntry)
    → placed_taken (cons_option (taken_in i o) [])
    ≡ cons_option (option_and_then (λ (e : Entry). slice_get (placed_brought e.work) i) (option_map (λ (x : ServedEntry). x.0) o)) []
placed_in i None = refl
placed_in i (Some x) = placed_one x.1 (slice_get (placed_brought x.0.work) i)

-- it is the span that the journal has there
pub placed_there : (h : List Entry) (es : List ServedEntry) (s : TakenSpot) (spot : Spot) (e : Entry) → slice_get (entries_in es) s.number ≡ Some e
    → Some e ≡ entry_at h spot.place → s.index ≡ spot.index
    → placed_taken (cons_option (taken_reported es s) []) ≡ cons_option (span_at h spot) []
placed_there h es s spot e got there same =
    placed_in s.index (slice_get es s.number)
    ∙ ap (λ o. cons_option (option_and_then (λ (x : Entry). slice_get (placed_brought x.work) s.index) o) [])
    (sym (slice_get-map (λ (x : ServedEntry). x.0) es s.number) ∙ got ∙ there)
    ∙ ap (λ i. cons_option (option_and_then (λ (x : Entry). slice_get (placed_brought x.work) i) (entry_at h spot.place)) []) same

-- ---- the trace at a place
pub reported_got : (es : List ServedEntry) (sss : List (List TakenSpot)) (k : ℕ)
    → trace_reported es (slice_index_or sss k []) ≡ slice_index_or (map (trace_reported es) sss) k []
reported_got es [] k = refl
reported_got es (ss ∷ sss) zero = refl
reported_got es (ss ∷ sss) (suc k) = reported_got es sss k

-- ---- before the first trace, and after the last one
pub new_traces : (w : WindowSpots) → w.starts.items ≡ [] → traces_reported w ≡ []
new_traces w starts = ap (λ ss. map (trace_reported (entries_seen w.entries.items)) (cut_at w.spots.items ss)) starts

pub new_known : (h : List Entry) (w : WindowSpots) (numbers : List (Option ℕ)) → w.entries.items ≡ [] → w.spots.items ≡ [] → w.starts.items ≡ []
    → AreNumbers h [] numbers → AreWindowSpots h w numbers
new_known h w numbers entries spots starts known = record {
  ordered = subst (λ (x : ℕ × List ℕ). AreStarts x.0 x.1) (λ i. (length (sym spots i), sym starts i)) tt;
  within = subst (AllByRecursion (IsSpotWithin (length w.entries.items))) (sym spots) tt;
  services = subst (λ es. AllByRecursion (HasService h) (entries_seen es)) (sym entries) tt;
  found = subst (λ es. AreNumbers h (entries_in (entries_seen es)) numbers) (sym entries) known;
}
