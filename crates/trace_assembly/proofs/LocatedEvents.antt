-- Where the spans of a history are.
use Rattle.std.proofs.Common.{◌≡◌, ℕ, suc, ◌+◌, List, [], ◌∷◌, ◌++◌, length, map, refl, sym, ap, subst, ◌∙◌, arith, append_assoc, length-append, Some, ◌<◌}
use Rattle.std.proofs.Common.{take, get_or}
use Rattle.std.specs.List.{AllByRecursion}
use Rattle.std.specs.Prelude.{slice_get}
use Rattle.std.specs.Option.{option_and_then}
use Rattle.std.proofs.lemmas.List.{append-nil, map-append, map_more, take_all, length-map, length-take}
use Rattle.jaeger_model.specs.declared.placed.Placed.{Placed}
use Rattle.jaeger_model.specs.declared.ids.TraceId.{TraceId}
use Rattle.jaeger_model.specs.declared.batch.Batch.{Batch}
use Rattle.jaeger_model.specs.declared.span.Span.{Span}
use Rattle.jaeger_model.specs.Parents.{domain, placed}
use Rattle.trace_model.specs.declared.entry.Entry.{Entry}
use Rattle.trace_model.specs.declared.entry.Work.{Work}
use Rattle.trace_model.specs.declared.entry.Work.TheVariants as brings
use Rattle.trace_model.specs.Events.{Event, came, limited, event_map, without_limits}
use Rattle.trace_model.proofs.ArrivedItems.{came_of}
use Rattle.trace_model.proofs.Lists.{each_append}
use Rattle.trace_model.specs.Histories.{arrivals, events}
use Rattle.trace_model.specs.EntryWork.{events_brought, placed_brought}
use Rattle.trace_model.specs.ShownSpans.{is_in_ring}
use Rattle.trace_assembly.specs.declared.spot.Spot.{Spot}
use Rattle.trace_assembly.specs.LocatedSpans.{located_in, located_by, located_from, located_events, span_at, spans_in}
use Rattle.trace_assembly.specs.LocatedSpans.{spots_in, events_in, located_trace, shown_in}
use Rattle.trace_assembly.specs.LocatedSpans.{own_of, located_upto}
use Rattle.trace_assembly.proofs.Lists.{OfCame, each_came, each_filter, each_lasting, each_without_limits, slice_get_middle}

spans-located_in : (place index : ℕ) (ps : List Placed) → spans_in (located_in place index ps) ≡ ps
spans-located_in place index [] = refl
spans-located_in place index (p ∷ ps) = ap (λ l. p ∷ l) (spans-located_in place (suc index) ps)

pub events-append : (es fs : List (Event (Spot × Placed))) → events_in (es ++ fs) ≡ events_in es ++ events_in fs
events-append es fs = map-append (event_map (λ (l : Spot × Placed). l.1)) es fs

pub events-came : (ls : List (Spot × Placed)) → events_in (map came ls) ≡ map came (spans_in ls)
events-came [] = refl
events-came (l ∷ ls) = ap (λ es. came l.1 ∷ es) (events-came ls)

events-located_by : (place : ℕ) (c : Work) → events_in (located_by place c) ≡ events_brought c
events-located_by place (brings.Batch b) = events-came (located_in place 0 (domain b)) ∙ ap (map came) (spans-located_in place 0 (domain b))
events-located_by place (brings.TraceLimit n) = refl

events-located_from : (place : ℕ) (h : List Entry) → events_in (located_from place h) ≡ events h
events-located_from place [] = refl
events-located_from place (e ∷ es) =
    events-append (located_by place e.work) (located_from (suc place) es)
    ∙ (λ i. events-located_by place e.work i ++ events-located_from (suc place) es i)

-- the located events are those of the history, in their order
pub events-located : (h : List Entry) → events_in (located_events h) ≡ events h
events-located h = events-located_from 1 h

located_from-push : (place last : ℕ) (h : List Entry) (e : Entry) → last ≡ place + length h
    → located_from place (h ++ e ∷ []) ≡ located_from place h ++ located_by last e.work
located_from-push place last [] e at = append-nil (located_by place e.work) ∙ ap (λ k. located_by k e.work) (let same : place ≡ last = omega arith in same)
located_from-push place last (d ∷ h) e at =
    ap (λ l. located_by place d.work ++ l) (located_from-push (suc place) last h e (omega arith))
    ∙ sym (append_assoc (located_by place d.work) (located_from (suc place) h) (located_by last e.work))

-- one more entry
pub located_push_law : (h : List Entry) (e : Entry) → located_events (h ++ e ∷ []) ≡ located_events h ++ located_by (length h + 1) e.work
located_push_law h e = located_from-push 1 (length h + 1) h e (omega arith)

-- one more span of a batch
pub located_in-push : (place index last : ℕ) (ps : List Placed) (p : Placed) → last ≡ index + length ps
    → located_in place index (ps ++ p ∷ []) ≡ located_in place index ps ++ (record { place = place; index = last }, p) ∷ []
located_in-push place index last [] p at = let same : index ≡ last = omega arith in ap (λ k. located_in place k (p ∷ [])) same
located_in-push place index last (q ∷ ps) p at =
    ap (λ l. (record { place = place; index = index }, q) ∷ l) (located_in-push place (suc index) last ps p (omega arith))

abbrev pub LiesIn : List Entry → Spot × Placed → Type 0
LiesIn h l = span_at h l.0 ≡ Some l.1

located_in-lies : (h : List Entry) (e : Entry) (before : ℕ) → slice_get h before ≡ Some e → (done ps : List Placed) → placed_brought e.work ≡ done ++ ps
    → AllByRecursion (LiesIn h) (located_in (suc before) (length done) ps)
located_in-lies h e before at done [] all = tt
located_in-lies h e before at done (p ∷ ps) all =
    let here : span_at h (record { place = suc before; index = length done }) ≡ Some p =
    ap (option_and_then (λ (e : Entry). slice_get (placed_brought e.work) (length done))) at ∙ ap (λ ds. slice_get ds (length done)) all
    ∙ slice_get_middle done p ps in
    let long : length (done ++ p ∷ []) ≡ suc (length done) = omega (arith, length-append done (p ∷ [])) in (
      here,
      subst (λ k. AllByRecursion (LiesIn h) (located_in (suc before) k ps)) long
          (located_in-lies h e before at (done ++ p ∷ []) ps (all ∙ sym (append_assoc done (p ∷ []) ps))),
    )

located_by-lies : (h : List Entry) (e : Entry) (before : ℕ) (c : Work) → e.work ≡ c → slice_get h before ≡ Some e
    → AllByRecursion (OfCame (LiesIn h)) (located_by (suc before) c)
located_by-lies h e before (brings.Batch b) is at =
    each_came (LiesIn h) (located_in (suc before) 0 (domain b)) (located_in-lies h e before at [] (domain b) (ap placed_brought is))
located_by-lies h e before (brings.TraceLimit n) is at = (tt, tt)

located_from-lies : (before rest : List Entry) → AllByRecursion (OfCame (LiesIn (before ++ rest))) (located_from (suc (length before)) rest)
located_from-lies before [] = tt
located_from-lies before (e ∷ es) =
    let long : length (before ++ e ∷ []) ≡ suc (length before) = omega (arith, length-append before (e ∷ [])) in
    let later : AllByRecursion (OfCame (LiesIn (before ++ e ∷ es))) (located_from (suc (suc (length before))) es) =
    subst (λ k. AllByRecursion (OfCame (LiesIn (before ++ e ∷ es))) (located_from (suc k) es)) long
    (subst (λ h. AllByRecursion (OfCame (LiesIn h)) (located_from (suc (length (before ++ e ∷ []))) es)) (append_assoc before (e ∷ []) es)
    (located_from-lies (before ++ e ∷ []) es)) in
    each_append (OfCame (LiesIn (before ++ e ∷ es))) (located_by (suc (length before)) e.work) (located_from (suc (suc (length before))) es)
    (located_by-lies (before ++ e ∷ es) e (length before) e.work refl (slice_get_middle before e es)) later

-- each span of a history is at its spot
pub located-lies : (h : List Entry) → AllByRecursion (OfCame (LiesIn h)) (located_events h)
located-lies h = located_from-lies [] h

-- what is at its spot is found there
pub at_spots : (h : List Entry) (ls : List (Spot × Placed)) → AllByRecursion (LiesIn h) ls → map (span_at h) (spots_in ls) ≡ map (λ p. Some p) (spans_in ls)
at_spots h [] lies = refl
at_spots h (l ∷ ls) lies = λ i. lies.0 i ∷ at_spots h ls lies.1 i

spans_of_events : (es : List (Event (Spot × Placed))) → spans_in (without_limits es) ≡ without_limits (events_in es)
spans_of_events [] = refl
spans_of_events (came l ∷ es) = ap (λ ps. l.1 ∷ ps) (spans_of_events es)
spans_of_events (limited m ∷ es) = spans_of_events es

-- the spans at the spots of a history are its arrivals
pub spans_at_located_law : (h : List Entry) → map (span_at h) (spots_in (without_limits (located_events h))) ≡ map (λ p. Some p) (arrivals h)
spans_at_located_law h =
    at_spots h (without_limits (located_events h)) (each_without_limits (LiesIn h) (located_events h) (located-lies h))
    ∙ ap (map (λ p. Some p)) (spans_of_events (located_events h) ∙ ap without_limits (events-located h) ∙ came_of h)

pub shown-lies : (h : List Entry) (n : ℕ) (t : TraceId) → AllByRecursion (LiesIn h) (own_of t (shown_in n (located_events h)))
shown-lies h n t =
    each_filter (LiesIn h) _ (shown_in n (located_events h))
    (each_without_limits (LiesIn h) _ (each_lasting (OfCame (LiesIn h)) (is_in_ring located_trace n) [] (located_events h) (located-lies h)))

-- ---- one more batch, span by span
pub upto_none : (h : List Entry) (b : Batch) → located_upto h b 0 ≡ located_events h
upto_none h b = append-nil (located_events h)

pub upto_more : (h : List Entry) (b : Batch) (i : ℕ) (s : Span) → i < length b.spans → get_or b.spans i s ≡ s
    → located_upto h b (i + 1) ≡ located_upto h b i ++ came (record { place = length h + 1; index = i }, placed b s) ∷ []
upto_more h b i s below at =
    let long : i ≡ 0 + length (map (placed b) (take i b.spans)) = omega (arith, length-map (take i b.spans) (placed b), length-take i b.spans) in
    let now = located_in (length h + 1) 0 (map (placed b) (take i b.spans)) in
    ap (λ ps. located_events h ++ map came (located_in (length h + 1) 0 ps))
    (map_more (placed b) b.spans i s below ∙ ap (λ x. map (placed b) (take i b.spans) ++ placed b x ∷ []) at)
    ∙ ap (λ ls. located_events h ++ map came ls) (located_in-push (length h + 1) 0 i (map (placed b) (take i b.spans)) (placed b s) long)
    ∙ ap (λ es. located_events h ++ es) (map-append came now ((record { place = length h + 1; index = i }, placed b s) ∷ []))
    ∙ sym (append_assoc (located_events h) (map came now) (came (record { place = length h + 1; index = i }, placed b s) ∷ []))

pub upto_all : (h : List Entry) (e : Entry) (b : Batch) → e.work ≡ brings.Batch b → located_upto h b (length b.spans) ≡ located_events (h ++ e ∷ [])
upto_all h e b is =
    ap (λ ss. located_events h ++ map came (located_in (length h + 1) 0 (map (placed b) ss))) (take_all (length b.spans) b.spans (omega arith))
    ∙ ap (λ c. located_events h ++ located_by (length h + 1) c) (sym is) ∙ sym (located_push_law h e)
