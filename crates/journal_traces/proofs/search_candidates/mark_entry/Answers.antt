use Rattle.std.proofs.Common.{rules, refl, ◌≡◌, ◌∙◌, ◌||◌, ap, sym, subst, false, [], List, map, Some}
use Rattle.std.specs.Prelude.{option_map, slice_get, IsSome}
use Rattle.std.proofs.lemmas.Bool.{OnTrue_at, OnFalse_at}
use Rattle.jaeger_model.specs.declared.batch.Batch.{Batch}
use Rattle.jaeger_model.specs.declared.batch.Process.{Process}
use Rattle.jaeger_model.specs.declared.span.Span.{Span}
use Rattle.jaeger_model.specs.Texts.{same_text}
use Rattle.trace_model.specs.declared.entry.Entry.{Entry}
use Rattle.trace_model.specs.declared.query.Find.{Find}
use Rattle.trace_assembly.specs.LocatedSpans.{span_at}
use Rattle.journal_traces.specs.MatchingSpans.{any_of, met, met_or_none, without_tags}
use Rattle.collected_traces.specs.EntriesAtPlaces.{batch_at, process_at}
use Rattle.journal_traces.specs.SpansAtSpots.{placed_in}
use Rattle.journal_traces.proofs.TraceMarks.{marked_none}
use Rattle.journal_traces.proofs.NearMatches.{of_another}
use Rattle.journal_traces.proofs.RequestedOperation.{batch_spans}
use Rattle.journal_traces.proofs.search_candidates.mark_entry.Goals as goal

pub returns-then-is_skipped : goal.returns-then-is_skipped
returns-then-is_skipped c = λ p before.
    let none = OnTrue_at c.if-is_skipped.true c.is_skipped.ensures.passed in
    before ∙ marked_none p c.args.ring.now.ids
    ∙ ap (λ (ss : List Span). map (λ t. p t || any_of ss t) c.args.ring.now.ids) (sym none)

pub is_requested-requires : goal.is_requested-requires
is_requested-requires c =
    let h = c.args.journal.now.held.entries in
    let b : Batch = c.in-Some.batch.now in
    let batch : Some b ≡ batch_at h c.args.place = search rules in
    let process : Some b.process ≡ process_at c.args.conditions.now.1 c.args.place =
    ap (option_map (λ (x : Batch). x.process)) batch ∙ ap (λ (v : Find × List Entry). process_at v.1 c.args.place) (sym c.requires.conditions) in
    subst IsSome process refl

pub mark_spans-requires-clause-there : goal.mark_spans-requires-clause-there
mark_spans-requires-clause-there c = λ index.
    let h = c.args.journal.now.held.entries in
    let b : Batch = c.in-Some.batch.now in
    let batch : Some b ≡ batch_at h c.args.place = search rules in
    let process : c.get-process.result.now ≡ b.process = search rules in
    let spans : c.as_slice-spans.result.now ≡ b.spans = search rules in
    (λ i. option_map (placed_in (process i)) (slice_get (spans i) index)) ∙ batch_spans h c.args.place index b batch
    ∙ ap (λ (v : Find × List Entry). span_at v.1 (record { place = c.args.place; index = index })) (sym c.requires.conditions)

pub mark_spans-requires-clause-service : goal.mark_spans-requires-clause-service
mark_spans-requires-clause-service c =
    let h = c.args.journal.now.held.entries in
    let b : Batch = c.in-Some.batch.now in
    let batch : Some b ≡ batch_at h c.args.place = search rules in
    let process : c.get-process.result.now ≡ b.process = search rules in
    let there : Some b.process ≡ process_at c.args.conditions.now.1 c.args.place =
    ap (option_map (λ (x : Batch). x.process)) batch ∙ ap (λ (v : Find × List Entry). process_at v.1 c.args.place) (sym c.requires.conditions) in
    ap (λ (o : Process). same_text c.args.conditions.now.0.service o.service) process ∙ sym (c.is_requested.ensures b.process there) ∙ c.if-is_requested.true

pub returns-then-is_requested : goal.returns-then-is_requested
returns-then-is_requested c = λ p before.
    let q : Find = c.args.filter.now in
    let h = c.args.journal.now.held.entries in
    let o : Process = c.get-process.result.now in
    let ss : List Span = c.as_slice-spans.result.now in
    let looked = OnFalse_at c.if-is_skipped.false c.is_skipped.ensures.looked_at in
    let same : met (without_tags q) o ss ≡ met_or_none (without_tags q) (batch_at h c.args.place) = search rules in
    let asked = ap (λ (v : Find × List Entry). met (without_tags v.0) o ss) c.requires.conditions in
    c.mark_spans.ensures p before ∙ ap (λ (l : List Span). map (λ t. p t || any_of l t) c.args.ring.now.ids) (asked ∙ same ∙ sym looked)

pub returns-in_default : goal.returns-in_default
returns-in_default c = λ p before.
    let q : Find = c.args.filter.now in
    let h = c.args.journal.now.held.entries in
    let looked = OnFalse_at c.if-is_skipped.false c.is_skipped.ensures.looked_at in
    let none : ◌≡◌ {A = List Span} [] (met_or_none (without_tags q) (batch_at h c.args.place)) = search rules in
    before ∙ marked_none p c.args.ring.now.ids ∙ ap (λ (ss : List Span). map (λ t. p t || any_of ss t) c.args.ring.now.ids) (none ∙ sym looked)

pub returns-else-is_requested : goal.returns-else-is_requested
returns-else-is_requested c = λ p before.
    let q : Find = c.args.filter.now in
    let h = c.args.journal.now.held.entries in
    let b : Batch = c.in-Some.batch.now in
    let looked = OnFalse_at c.if-is_skipped.false c.is_skipped.ensures.looked_at in
    let batch : Some b ≡ batch_at h c.args.place = search rules in
    let there : Some b.process ≡ process_at c.args.conditions.now.1 c.args.place =
    ap (option_map (λ (x : Batch). x.process)) batch ∙ ap (λ (v : Find × List Entry). process_at v.1 c.args.place) (sym c.requires.conditions) in
    let same : met (without_tags q) b.process b.spans ≡ met_or_none (without_tags q) (batch_at h c.args.place) = ap (met_or_none (without_tags q)) batch in
    let other : same_text q.service b.process.service ≡ false =
    ap (λ (v : Find × List Entry). same_text v.0.service b.process.service) (sym c.requires.conditions) ∙ sym (c.is_requested.ensures b.process there)
    ∙ c.if-is_requested.false in
    before ∙ marked_none p c.args.ring.now.ids
    ∙ ap (λ (l : List Span). map (λ t. p t || any_of l t) c.args.ring.now.ids) (sym (of_another q b.process b.spans other) ∙ same ∙ sym looked)
