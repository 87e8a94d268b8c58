-- An entry of which no span can meet the search.
use Rattle.std.proofs.Common.{◌≡◌, ℕ, ◌-◌, Bool, true, false, ◌||◌, ◌&&◌, cond, List, [], ◌∷◌, map, get_or, refl, sym, ap, ◌∙◌, Some, Option}
use Rattle.std.specs.Prelude.{option_map}
use Rattle.std.specs.List.{list_any, list_all}
use Rattle.std.specs.Option.{option_and_then}
use Rattle.jaeger_model.specs.declared.batch.Batch.{Batch}
use Rattle.jaeger_model.specs.declared.batch.Process.{Process}
use Rattle.jaeger_model.specs.declared.span.Span.{Span}
use Rattle.jaeger_model.specs.declared.placed.Placed.{Placed}
use Rattle.jaeger_model.specs.Parents.{placed}
use Rattle.jaeger_model.specs.Texts.{same_text}
use Rattle.trace_model.specs.declared.entry.Entry.{Entry}
use Rattle.trace_model.specs.declared.entry.Work.{Work}
use Rattle.trace_model.specs.declared.entry.Work.TheVariants as brings
use Rattle.trace_model.specs.declared.query.Find.{Find}
use Rattle.trace_model.specs.Places.{entry_at}
use Rattle.trace_model.specs.Searching.{matches, is_timed, has_tag}
use Rattle.trace_model.specs.EntryWork.{batch_brought, placed_brought}
use Rattle.arrival_journal.specs.declared.outline.Outline.{Outline}
use Rattle.arrival_journal.specs.Outlines.{outline_in}
use Rattle.collected_traces.specs.ProcessConditions.{meets}
use Rattle.collected_traces.specs.CollectedCandidates.{is_entry_met}
use Rattle.collected_traces.specs.EntriesAtPlaces.{process_at}
use Rattle.collected_traces.proofs.ParentReferences.{matches-adopted}
use Rattle.journal_traces.specs.Told.{AreTold}
use Rattle.journal_traces.specs.MatchingSpans.{met, met_or_none}
use Rattle.journal_traces.specs.SkippedEntries.{may_meet}
use Rattle.journal_traces.specs.ReportedSpots.{is_number}
use Rattle.journal_traces.proofs.OutlineBounds.{passed_there}
use Rattle.journal_traces.proofs.RequestedService.{is_requested_service}

another : (q : Find) (b : Batch) (ss : List Span) → same_text q.service b.process.service ≡ false → list_any (matches q) (map (placed b) ss) ≡ false
another q b [] e = refl
another q b (s ∷ ss) e =
    let bare : Placed = record { process = b.process; span = s } in
    let asked : Bool = same_text q.operation [] || same_text q.operation s.operation in
    let own : matches q (placed b s) ≡ false = matches-adopted q bare ∙ ap (λ c. ((c && asked) && is_timed q bare) && list_all (has_tag bare) q.tags) e in
    λ i. own i || another q b ss e i

unasked_work : (q : Find) (w : Work)
    → ((p : Process) → Some p ≡ option_map (λ (b : Batch). b.process) (batch_brought w) → same_text q.service p.service ≡ false)
    → list_any (matches q) (placed_brought w) ≡ false
unasked_work q (brings.Batch b) f = another q b b.spans (f b.process refl)
unasked_work q (brings.TraceLimit n) f = refl

pub unasked : (q : Find) (h : List Entry) (service_numbers : List ℕ) (service : Option ℕ) (place : ℕ) (e : Entry) → AreTold q h service_numbers service
    → Some e ≡ entry_at h place
    → is_number service (get_or service_numbers (place - 1) 0) ≡ false → is_entry_met q e ≡ false
unasked q h service_numbers service place e correct at none =
    unasked_work q e.work (λ p is.
    let there : Some p ≡ process_at h place =
    is ∙ ap (λ (o : Option Entry). option_map (λ (b : Batch). b.process) (option_and_then (λ (x : Entry). batch_brought x.work) o)) at in
    sym (is_requested_service q h service_numbers service place p correct there) ∙ none)

none_met : (q : Find) (b : Batch) (ss : List Span) → met q b.process ss ≡ [] → list_any (matches q) (map (placed b) ss) ≡ false
none_met q b [] e = refl
none_met q b (s ∷ ss) e = by (none_met q b ss) (meets q b.process s) refl e
  where
    by : (met q b.process ss ≡ [] → list_any (matches q) (map (placed b) ss) ≡ false) → (c : Bool) → meets q b.process s ≡ c
        → cond c (s ∷ met q b.process ss) (met q b.process ss) ≡ [] → list_any (matches q) (map (placed b) (s ∷ ss)) ≡ false
    by later true is none = absurd (cc none)
    by later false is none =
        let own : matches q (placed b s) ≡ false = matches-adopted q (record { process = b.process; span = s }) ∙ is in
        λ i. own i || later none i

none_of : (q : Find) (w : Work) → met_or_none q (batch_brought w) ≡ [] → list_any (matches q) (placed_brought w) ≡ false
none_of q (brings.Batch b) e = none_met q b b.spans e
none_of q (brings.TraceLimit n) e = refl

pub unoutlined : (q : Find) (e : Entry) (o : Option Entry) (ol : Outline) → Some e ≡ o → Some ol ≡ option_map outline_in o → may_meet q ol ≡ false
    → is_entry_met q e ≡ false
unoutlined q e o ol at is none =
    none_of q e.work (ap (λ (x : Option Entry). met_or_none q (option_and_then (λ (y : Entry). batch_brought y.work) x)) at ∙ passed_there q o ol is none)
