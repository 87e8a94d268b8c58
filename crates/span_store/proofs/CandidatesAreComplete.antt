-- The traces that a search by a service considers are all that can match.
use Rattle.std.proofs.Common.{◌≡◌, ℕ, suc, ◌-◌, eq-eqb, Some, None, Option, Bool, true, false, ◌||◌, ◌&&◌, cond, List, [], ◌∷◌, ◌++◌, map, length, get_or, zero}
use Rattle.std.proofs.Common.{◌+◌, ◌<◌, ◌≤◌, refl, sym, ap, ◌∙◌, arith}
use Rattle.std.specs.Prelude.{filter, flat_map, if◌then◌else◌, take, ◌==◌, nat_lt, is_some, slice_get}
use Rattle.std.specs.List.{list_any, list_all, cons_option}
use Rattle.std.specs.Option.{option_and_then}
use Rattle.std.specs.Cmp.Lexicographic.{same_text as texts_are}
use Rattle.std.proofs.Math.Seq.{take-nil}
use Rattle.std.proofs.lemmas.Bool.{false≢true, and_parts, and_from, or_right}
use Rattle.std.proofs.lemmas.List.{take_more, take_all, get_or-map}
use Rattle.std.proofs.lemmas.List.Folds.{list_any-append}
use Rattle.std.proofs.lemmas.Option.{slice_get-get_or}
use Rattle.jaeger_model.specs.declared.ids.TraceId.{TraceId}
use Rattle.jaeger_model.specs.declared.placed.Placed.{Placed}
use Rattle.jaeger_model.specs.declared.batch.Batch.{Batch}
use Rattle.jaeger_model.specs.declared.span.Span.{Span}
use Rattle.jaeger_model.specs.Parents.{placed, same_trace}
use Rattle.jaeger_model.specs.Texts.{same_text}
use Rattle.trace_model.specs.declared.entry.Entry.{Entry}
use Rattle.trace_model.specs.declared.query.Find.{Find}
use Rattle.trace_model.specs.declared.entry.Work.{Work}
use Rattle.trace_model.specs.declared.entry.Work.TheVariants as brings
use Rattle.trace_model.specs.EntryWork.{batch_brought, placed_brought, service_brought}
use Rattle.trace_model.specs.Events.{Event, came, limited, without_limits}
use Rattle.trace_model.specs.Histories.{arrivals, events}
use Rattle.trace_model.proofs.ArrivedItems.{came_of}
use Rattle.trace_model.specs.Searching.{matches, matching, found_in, ranked_by_start, first_start, cut, has_service_and_operation, is_timed, has_tag, traces}
use Rattle.trace_model.specs.ShownSpans.{ring, shown, spans_of_trace, lasting_after, longer_prefixes, is_in_ring, trace_of}
use Rattle.trace_model.proofs.NameLaws.{any_filter, text_turned}
use Rattle.jaeger_model.proofs.ParentReferences.{trace_stays}
use Rattle.trace_model.specs.Places.{entry_at}
use Rattle.trace_assembly.specs.declared.spot.Spot.{Spot}
use Rattle.trace_assembly.specs.LocatedSpans.{span_at}
use Rattle.trace_assembly.specs.AssembledRows.{is_of}
use Rattle.service_index.proofs.NumbersOfEntry.{arrivals_push}
use Rattle.service_index.specs.KeptNames.{reports_service, reports_operation}
use Rattle.service_index.specs.ServicePlaces.{reporters, places_upto, places_of, service_number_in, service_number_of, AreServiceNumbers}
use Rattle.collected_traces.specs.ProcessConditions.{meets}
use Rattle.journal_traces.specs.MatchingSpans.{any_of, met, met_or_none, met_at, met_along, near_along}
use Rattle.journal_traces.specs.ReportedSpots.{is_reported, are_reported}
use Rattle.collected_traces.specs.EntriesAtPlaces.{spans_named}
use Rattle.collected_traces.proofs.ParentReferences.{matches-adopted}
use Rattle.journal_traces.proofs.NearMatches.{near_covers}
use Rattle.journal_traces.proofs.ServiceNumbersOfSpots.{number_there}
use Rattle.trace_model.proofs.ShownOfTrace.{or_cases}

first_true : (a b c : Bool) → (a && b && c) ≡ true → a ≡ true
first_true true b c e = refl
first_true false b c e = absurd (false≢true e)

or_more : (a b c : Bool) → (b ≡ true → c ≡ true) → (a || b) ≡ true → (a || c) ≡ true
or_more true b c f e = refl
or_more false b c f e = f e

any_lasting : {X : Type 0} (q : X → Bool) (keeps : List (Event X) → Event X → Bool) (before rest : List (Event X))
    → list_any q (without_limits (lasting_after keeps before rest)) ≡ true → list_any q (without_limits rest) ≡ true
any_lasting q keeps before [] h = h
any_lasting q keeps before (came x ∷ rest) h =
    elim (list_all (λ xs. keeps xs (came x)) (longer_prefixes before (came x ∷ rest))) as (λ b.
    list_any q (without_limits (if b then came x ∷ lasting_after keeps (before ++ came x ∷ []) rest else lasting_after keeps (before ++ came x ∷ []) rest))
    ≡ true → (q x || list_any q (without_limits rest)) ≡ true) [
      | true ↦ or_more (q x) (list_any q (without_limits (lasting_after keeps (before ++ came x ∷ []) rest))) (list_any q (without_limits rest))
          (any_lasting q keeps (before ++ came x ∷ []) rest)
      | false ↦ λ k. or_right (q x) (list_any q (without_limits rest)) (any_lasting q keeps (before ++ came x ∷ []) rest k)
    ] h
any_lasting q keeps before (limited m ∷ rest) h =
    elim (list_all (λ xs. keeps xs (limited m)) (longer_prefixes before (limited m ∷ rest))) as (λ b.
    list_any q (without_limits (if b then limited m ∷ lasting_after keeps (before ++ limited m ∷ []) rest else lasting_after keeps
    (before ++ limited m ∷ []) rest)) ≡ true → list_any q (without_limits rest) ≡ true) [
      | true ↦ any_lasting q keeps (before ++ limited m ∷ []) rest
      | false ↦ any_lasting q keeps (before ++ limited m ∷ []) rest
    ] h

any_weaker : {X : Type 0} (p q : X → Bool) → ((x : X) → p x ≡ true → q x ≡ true) → (xs : List X) → list_any p xs ≡ true → list_any q xs ≡ true
any_weaker p q h [] e = e
any_weaker p q h (x ∷ xs) e = elim (p x) as (λ b. p x ≡ b → (b || list_any p xs) ≡ true → (q x || list_any q xs) ≡ true) [
  | true ↦ λ f _. ap (λ b. b || list_any q xs) (h x f)
  | false ↦ λ _ k. or_right (q x) (list_any q xs) (any_weaker p q h xs k)
] refl e

-- the span is one of the trace, and meets the search
abbrev is_hit : Find → TraceId → Placed → Bool
is_hit q t p = same_trace t (trace_of p) && matches q p

-- a span meets no search by another service
match_reported : (q : Find) (p : Placed) → matches q p ≡ true → same_text p.process.service q.service ≡ true
match_reported q p e =
    let named = first_true (has_service_and_operation q p) (is_timed q p) (list_all (has_tag p) q.tags) e in
    text_turned p.process.service q.service
    ∙ (and_parts (same_text q.service p.process.service) (same_text q.operation [] || same_text q.operation p.span.operation) named).0

own_spans : (q : Find) (t : TraceId) (b : Batch) (ss : List Span) → list_any (is_hit q t) (map (placed b) ss) ≡ true
    → (same_text b.process.service q.service ≡ true) × (any_of (met q b.process ss) t ≡ true)
own_spans q t b [] h = absurd (false≢true h)
own_spans q t b (x ∷ xs) h =
    let bare : Placed = record { process = b.process; span = x } in
    let same : matches q (placed b x) ≡ meets q b.process x = matches-adopted q bare in
    let rest : Type 0 = (same_text b.process.service q.service ≡ true)
    × (list_any (is_of t) (cond (meets q b.process x) (x ∷ met q b.process xs) (met q b.process xs)) ≡ true) in
    elim (is_hit q t (placed b x)) as (λ c. is_hit q t (placed b x) ≡ c → (c || list_any (is_hit q t) (map (placed b) xs)) ≡ true → rest) [
      | true ↦ λ e _.
          let w = and_parts (same_trace t (trace_of (placed b x))) (matches q (placed b x)) e in
          let own : is_of t x ≡ true = ap (same_trace t) (sym (trace_stays x)) ∙ w.0 in (
            match_reported q (placed b x) w.1,
            ap (λ c. list_any (is_of t) (cond c (x ∷ met q b.process xs) (met q b.process xs))) (sym same ∙ w.1)
                ∙ ap (λ c. c || list_any (is_of t) (met q b.process xs)) own,
          )
      | false ↦ λ _ k.
          let w = own_spans q t b xs k in (
            w.0,
            elim (meets q b.process x) as (λ c. list_any (is_of t) (cond c (x ∷ met q b.process xs) (met q b.process xs)) ≡ true) [
              | true ↦ or_right (is_of t x) (list_any (is_of t) (met q b.process xs)) w.1
              | false ↦ w.1
            ],
          )
    ] refl h

own_brought : (q : Find) (t : TraceId) (w : Work) → list_any (is_hit q t) (placed_brought w) ≡ true
    → (same_text (service_brought w) q.service ≡ true) × (any_of (met_or_none q (batch_brought w)) t ≡ true)
own_brought q t (brings.Batch b) k = own_spans q t b b.spans k
own_brought q t (brings.TraceLimit n) k = absurd (false≢true k)

reported : (q : Find) (t : TraceId) (h : List Entry) (d : Entry) (n : ℕ) → n ≤ length h → list_any (is_hit q t) (arrivals (take n h)) ≡ true
    → list_any (is_of t) (flat_map (met_at q h) (places_upto q.service (reporters h) n)) ≡ true
reported q t h d zero le e = e
reported q t h d (suc n) le e =
    let s : List ℕ = q.service in
    let x = get_or h n d in
    let below : n < length h = omega arith in
    let own : Bool = same_text (get_or (reporters h) n []) s in
    let is : get_or (reporters h) n [] ≡ service_brought x.work = get_or-map (λ (y : Entry). service_brought y.work) h n d [] below in
    let rest : List ℕ = places_upto s (reporters h) n in
    let met_here : List Span = met_or_none q (batch_brought x.work) in
    let before : Bool = list_any (is_hit q t) (arrivals (take n h)) in
    let here : Bool = list_any (is_hit q t) (placed_brought x.work) in
    let later : before ≡ true → list_any (is_of t) (flat_map (met_at q h) rest) ≡ true = reported q t h d n (omega arith) in
    let one : suc n ≡ n + 1 = omega arith in
    let all : arrivals (take (suc n) h) ≡ arrivals (take n h) ++ placed_brought x.work =
    ap (λ k. arrivals (take k h)) one ∙ ap arrivals (take_more h n d below) ∙ arrivals_push (take n h) x in
    let split : (before || here) ≡ true =
    sym (ap (list_any (is_hit q t)) all ∙ list_any-append (is_hit q t) (arrivals (take n h)) (placed_brought x.work)) ∙ e in
    let spans : met_at q h (suc n) ≡ met_here =
    ap (λ o. met_or_none q (option_and_then (λ (y : Entry). batch_brought y.work) o)) (slice_get-get_or h n d below) in
    elim own as (λ b. own ≡ b → list_any (is_of t) (flat_map (met_at q h) (if b then suc n ∷ rest else rest)) ≡ true) [
      | true ↦ λ _.
          list_any-append (is_of t) (met_at q h (suc n)) (flat_map (met_at q h) rest)
          ∙ ap (λ l. list_any (is_of t) l || list_any (is_of t) (flat_map (met_at q h) rest)) spans
          ∙ or_cases before here split
          (λ k. or_right (list_any (is_of t) met_here) (list_any (is_of t) (flat_map (met_at q h) rest)) (later k))
          (λ k. ap (λ b. b || list_any (is_of t) (flat_map (met_at q h) rest)) (own_brought q t x.work k).1)
      | false ↦ λ none.
          or_cases before here split later
          (λ k. absurd (false≢true (sym none ∙ ap (λ (y : List ℕ). same_text y s) is ∙ (own_brought q t x.work k).0)))
    ] refl

-- a span of a shown trace that matches is an arrival
matched_arrival : (q : Find) (n : ℕ) (es : List (Event Placed)) (t : TraceId) → list_any (matches q) (spans_of_trace n es t) ≡ true
    → list_any (is_hit q t) (without_limits es) ≡ true
matched_arrival q n es t e =
    let own : Placed → Bool = λ p. same_trace t (trace_of p) in
    any_lasting (λ p. own p && matches q p) (is_in_ring trace_of n) [] es (sym (any_filter (matches q) own (shown n es)) ∙ e)

covered : (q : Find) (n : ℕ) (h : List Entry) (t : TraceId) → list_any (matches q) (spans_of_trace n (events h) t) ≡ true
    → any_of (met_along q h (places_of h q.service)) t ≡ true
covered q n [] t e = absurd (false≢true (matched_arrival q n [] t e))
covered q n (x ∷ xs) t e =
    let h : List Entry = x ∷ xs in
    reported q t h x (length h) (omega arith)
    (ap (λ l. list_any (is_hit q t) (arrivals l)) (take_all (length h) h (omega arith)) ∙ ap (list_any (is_hit q t)) (sym (came_of h))
    ∙ matched_arrival q n (events h) t e)

match_among : (q : Find) (f : TraceId → List Placed) (p : TraceId → Bool) → ((t : TraceId) → list_any (matches q) (f t) ≡ true → p t ≡ true)
    → (r : List TraceId) → matching q (map f (filter p r)) ≡ matching q (map f r)
match_among q f p h [] = refl
match_among q f p h (x ∷ xs) =
    let rest = match_among q f p h xs in
    let found : Bool = list_any (matches q) (f x) in
    elim (p x) as (λ b. p x ≡ b → matching q (map f (cond b (x ∷ filter p xs) (filter p xs))) ≡ matching q (f x ∷ map f xs)) [
      | true ↦ λ _. ap (λ l. cond found (f x ∷ l) l) rest
      | false ↦ λ none. elim found as (λ c. found ≡ c → matching q (map f (filter p xs)) ≡ cond c (f x ∷ matching q (map f xs)) (matching q (map f xs))) [
        | true ↦ λ found_one. absurd (false≢true (sym none ∙ h x found_one))
        | false ↦ λ _. rest
      ] refl
    ] refl

-- a search finds the same among the traces that are near as among all
pub found_near : (q : Find) (n : ℕ) (h : List Entry) (r : List TraceId)
    → found_in q (map (spans_of_trace n (events h)) (filter (any_of (near_along q h (places_of h q.service))) r))
    ≡ found_in q (map (spans_of_trace n (events h)) r)
found_near q n h r =
    ap (λ l. cut q.limit (ranked_by_start first_start l))
    (match_among q (spans_of_trace n (events h)) (any_of (near_along q h (places_of h q.service)))
    (λ t e. near_covers q h (places_of h q.service) t (covered q n h t e)) r)

-- ---- the traces of a service by its number
-- the number of a service is the one that is found
number_is : (h : List Entry) (service : List ℕ) (n : ℕ) → Some n ≡ service_number_of h service → service_number_in h service ≡ n
number_is h service n e = by (nat_lt (service_number_in h service) (length (reporters h))) e
  where
    by : (b : Bool) → Some n ≡ cond b (Some (service_number_in h service)) None → service_number_in h service ≡ n
    by true e = let same : n ≡ service_number_in h service = cc e in sym same
    by false e = absurd (cc e)

entry_there : (h : List Entry) (s : Spot) (p : Placed) → span_at h s ≡ Some p → is_some (entry_at h s.place) ≡ true
entry_there h s p e = by (entry_at h s.place) e
  where
    by : (o : Option Entry) → option_and_then (λ (x : Entry). slice_get (placed_brought x.work) s.index) o ≡ Some p → is_some o ≡ true
    by None e = absurd (cc e)
    by (Some x) e = refl

module _ (q : Find) (h : List Entry) (service_numbers : List ℕ) (k : ℕ) (kept : AreServiceNumbers h service_numbers)
    (known : Some k ≡ service_number_of h q.service) where
  -- a span that matches is at a spot of the service
  own_spot : (s : Spot) (p : Placed) → span_at h s ≡ Some p → matches q p ≡ true → is_reported h service_numbers k s ≡ true
  own_spot s p at m =
      let service : p.process.service ≡ q.service = texts_are p.process.service q.service (sym (match_reported q p m)) in
      let number : get_or service_numbers (s.place - 1) 0 ≡ k =
      (number_there h service_numbers s p kept (sym at)).0 ∙ ap (service_number_in h) service ∙ number_is h q.service k known in
      and_from (is_some (entry_at h s.place)) (get_or service_numbers (s.place - 1) 0 == k) (entry_there h s p at)
      (eq-eqb (get_or service_numbers (s.place - 1) 0) k number)

  own_spots : (ss : List Spot) → list_any (matches q) (spans_named h ss) ≡ true → are_reported h service_numbers k ss ≡ true
  own_spots [] e = absurd (false≢true e)
  own_spots (s ∷ ss) e = by (own_spots ss) (span_at h s) refl e
    where
      by : (list_any (matches q) (spans_named h ss) ≡ true → are_reported h service_numbers k ss ≡ true) → (o : Option Placed) → span_at h s ≡ o
          → list_any (matches q) (cons_option o (spans_named h ss)) ≡ true → (is_reported h service_numbers k s || are_reported h service_numbers k ss) ≡ true
      by later None at e = or_right (is_reported h service_numbers k s) (are_reported h service_numbers k ss) (later e)
      by later (Some p) at e = or_cases (matches q p) (list_any (matches q) (spans_named h ss)) e
          (λ m. ap (λ b. b || are_reported h service_numbers k ss) (own_spot s p at m))
          (λ rest. or_right (is_reported h service_numbers k s) (are_reported h service_numbers k ss) (later rest))

  -- a search finds the same among the traces with a spot of the service as among all
  pub found_reported : (n : ℕ) (spots : TraceId → List Spot) (r : List TraceId) → ((t : TraceId) → spans_named h (spots t) ≡ spans_of_trace n (events h) t)
      → found_in q (map (spans_of_trace n (events h)) (filter (λ t. are_reported h service_numbers k (spots t)) r))
      ≡ found_in q (map (spans_of_trace n (events h)) r)
  found_reported n spots r is_in_ring =
      ap (λ l. cut q.limit (ranked_by_start first_start l))
      (match_among q (spans_of_trace n (events h)) (λ t. are_reported h service_numbers k (spots t))
      (λ t e. own_spots (spots t) (ap (list_any (matches q)) (is_in_ring t) ∙ e)) r)

-- ---- if no arrival has the service, or the operation of the service, nothing is found
pub nothing_found : (q : Find) → found_in q [] ≡ []
nothing_found q =
    let none : List (List Placed) = [] in
    elim (q.limit == 0) as (λ b. (if b then none else take q.limit none) ≡ none) [ true ↦ refl | false ↦ take-nil q.limit ]

-- by contraposition
denied : (a b : Bool) → (a ≡ true → b ≡ true) → b ≡ false → a ≡ false
denied true b h e = absurd (false≢true (sym e ∙ h refl))
denied false b h e = refl

none_matches : (q : Find) (f : TraceId → List Placed) → ((t : TraceId) → list_any (matches q) (f t) ≡ false) → (r : List TraceId) → matching q (map f r) ≡ []
none_matches q f h [] = refl
none_matches q f h (x ∷ xs) = ap (λ b. cond b (f x ∷ matching q (map f xs)) (matching q (map f xs))) (h x) ∙ none_matches q f h xs

-- no arrival has the names of the search
unnamed : (q : Find) (n : ℕ) (es : List (Event Placed)) → list_any (has_service_and_operation q) (without_limits es) ≡ false → found_in q (traces n es) ≡ []
unnamed q n es e =
    ap (λ l. cut q.limit (ranked_by_start first_start l))
    (none_matches q (spans_of_trace n es)
    (λ t. denied (list_any (matches q) (spans_of_trace n es t)) (list_any (has_service_and_operation q) (without_limits es))
    (λ m. any_weaker (λ p. same_trace t (trace_of p) && matches q p) (has_service_and_operation q)
    (λ p own. name_of p (and_parts (same_trace t (trace_of p)) (matches q p) own).1) (without_limits es) (matched_arrival q n es t m)) e) (ring n es))
    ∙ nothing_found q
  where
    name_of : (p : Placed) → matches q p ≡ true → has_service_and_operation q p ≡ true
    name_of p m = first_true (has_service_and_operation q p) (is_timed q p) (list_all (has_tag p) q.tags) m

pub unknown_service : (q : Find) (n : ℕ) (es : List (Event Placed)) → reports_service q.service (without_limits es) ≡ false → found_in q (traces n es) ≡ []
unknown_service q n es e =
    unnamed q n es (denied (list_any (has_service_and_operation q) (without_limits es)) (reports_service q.service (without_limits es))
    (any_weaker (has_service_and_operation q) (λ p. same_text q.service p.process.service)
    (λ p m. (and_parts (same_text q.service p.process.service) (same_text q.operation [] || same_text q.operation p.span.operation) m).0) (without_limits es))
    e)

pub unknown_operation : (q : Find) (n : ℕ) (es : List (Event Placed)) → same_text q.operation [] ≡ false
    → reports_operation q.service q.operation (without_limits es) ≡ false → found_in q (traces n es) ≡ []
unknown_operation q n es asked e =
    unnamed q n es (denied (list_any (has_service_and_operation q) (without_limits es)) (reports_operation q.service q.operation (without_limits es))
    (any_weaker (has_service_and_operation q) (λ p. same_text q.service p.process.service && same_text q.operation p.span.operation)
    (λ p m. ap (λ b. same_text q.service p.process.service && (b || same_text q.operation p.span.operation)) (sym asked) ∙ m) (without_limits es)) e)
