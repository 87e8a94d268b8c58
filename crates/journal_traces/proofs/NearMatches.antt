-- What meets a search meets it without its tags, in an entry that isn't skipped.
use Rattle.std.proofs.Common.{◌≡◌, ℕ, Bool, true, false, ◌||◌, ◌&&◌, cond, List, [], ◌∷◌, refl, sym, ap, ◌∙◌, Some, None}
use Rattle.std.specs.Prelude.{Option, option_map, if◌then◌else◌}
use Rattle.std.specs.List.{list_any, list_all}
use Rattle.std.specs.Option.{option_and_then}
use Rattle.std.proofs.lemmas.Bool.{false≢true, and_parts, or_right}
use Rattle.std.proofs.lemmas.List.Folds.{list_any-append}
use Rattle.jaeger_model.specs.declared.batch.Batch.{Batch}
use Rattle.jaeger_model.specs.declared.batch.Process.{Process}
use Rattle.jaeger_model.specs.declared.ids.TraceId.{TraceId}
use Rattle.jaeger_model.specs.declared.placed.Placed.{Placed}
use Rattle.jaeger_model.specs.declared.span.Span.{Span}
use Rattle.jaeger_model.specs.Texts.{same_text}
use Rattle.trace_model.specs.declared.entry.Entry.{Entry}
use Rattle.trace_model.specs.declared.query.Find.{Find}
use Rattle.trace_model.specs.Places.{entry_at}
use Rattle.trace_model.specs.Searching.{has_service_and_operation, is_timed, has_tag}
use Rattle.trace_model.specs.EntryWork.{batch_brought}
use Rattle.trace_model.proofs.ShownOfTrace.{or_cases}
use Rattle.span_steps.specs.SpanConditions.{meets_span_conditions}
use Rattle.arrival_journal.specs.declared.outline.Outline.{Outline}
use Rattle.arrival_journal.specs.Outlines.{outline_in}
use Rattle.trace_assembly.specs.AssembledRows.{is_of}
use Rattle.collected_traces.specs.ProcessConditions.{meets}
use Rattle.journal_traces.specs.MatchingSpans.{any_of, met, met_or_none, met_at, met_along, without_tags, near_or_none, near_at, near_along}
use Rattle.journal_traces.specs.SkippedEntries.{may_meet}
use Rattle.journal_traces.proofs.OutlineBounds.{passed_there}

-- ---- an entry by its outline
pub passed_near : (q : Find) (e : Option Entry) (ol : Outline) → Some ol ≡ option_map outline_in e → may_meet q ol ≡ false → near_or_none q e ≡ []
passed_near q None ol is none = refl
passed_near q (Some x) ol is none =
    let same : ol ≡ outline_in x = cc is in
    ap (λ b. if b then met_or_none (without_tags q) (batch_brought x.work) else []) (ap (may_meet q) (sym same) ∙ none)

pub looked_near : (q : Find) (e : Option Entry) (ol : Outline) → Some ol ≡ option_map outline_in e → may_meet q ol ≡ true
    → near_or_none q e ≡ met_or_none (without_tags q) (option_and_then (λ (x : Entry). batch_brought x.work) e)
looked_near q None ol is may = refl
looked_near q (Some x) ol is may =
    let same : ol ≡ outline_in x = cc is in
    ap (λ b. if b then met_or_none (without_tags q) (batch_brought x.work) else []) (ap (may_meet q) (sym same) ∙ may)

pub none_near : (q : Find) (e : Option Entry) → None ≡ option_map outline_in e → near_or_none q e ≡ []
none_near q None is = refl
none_near q (Some x) is = absurd (cc is)

-- ---- a process by its service
pub of_service : (q : Find) (o : Process) (s : Span) → same_text q.service o.service ≡ true
    → meets_span_conditions q (record { process = o; span = s }) ≡ meets (without_tags q) o s
of_service q o s e =
    let asked : Bool = same_text q.operation [] || same_text q.operation s.operation in
    let timed : Bool = is_timed q (record { process = o; span = s }) in
    and_true (asked && timed) ∙ ap (λ b. ((b && asked) && timed) && true) (sym e)
  where
    and_true : (b : Bool) → b ≡ (b && true)
    and_true true = refl
    and_true false = refl

pub of_another : (q : Find) (o : Process) (ss : List Span) → same_text q.service o.service ≡ false → met (without_tags q) o ss ≡ []
of_another q o [] e = refl
of_another q o (s ∷ ss) e =
    let asked : Bool = same_text q.operation [] || same_text q.operation s.operation in
    let timed : Bool = is_timed q (record { process = o; span = s }) in
    let none : meets (without_tags q) o s ≡ false = ap (λ b. ((b && asked) && timed) && true) e in
    ap (λ b. cond b (s ∷ met (without_tags q) o ss) (met (without_tags q) o ss)) none ∙ of_another q o ss e

-- ---- what is found is near
meets_near : (q : Find) (o : Process) (s : Span) → meets q o s ≡ true → meets (without_tags q) o s ≡ true
meets_near q o s e =
    let p : Placed = record { process = o; span = s } in
    let parts = and_parts (has_service_and_operation q p && is_timed q p) (list_all (has_tag p) q.tags) e in
    ap (λ b. b && true) parts.0

met_near : (q : Find) (o : Process) (t : TraceId) (ss : List Span) → any_of (met q o ss) t ≡ true → any_of (met (without_tags q) o ss) t ≡ true
met_near q o t [] e = e
met_near q o t (s ∷ ss) e =
    elim (meets q o s) as (λ b. meets q o s ≡ b → list_any (is_of t) (cond b (s ∷ met q o ss) (met q o ss)) ≡ true
    → list_any (is_of t) (cond (meets (without_tags q) o s) (s ∷ met (without_tags q) o ss) (met (without_tags q) o ss)) ≡ true) [
      | true ↦ λ m f.
          ap (λ b. list_any (is_of t) (cond b (s ∷ met (without_tags q) o ss) (met (without_tags q) o ss))) (meets_near q o s m)
          ∙ or_cases (is_of t s) (any_of (met q o ss) t) f
          (λ own. ap (λ b. b || any_of (met (without_tags q) o ss) t) own)
          (λ rest. or_right (is_of t s) (any_of (met (without_tags q) o ss) t) (met_near q o t ss rest))
      | false ↦ λ _ f.
          elim (meets (without_tags q) o s) as (λ b. list_any (is_of t) (cond b (s ∷ met (without_tags q) o ss) (met (without_tags q) o ss)) ≡ true) [
            | true ↦ or_right (is_of t s) (any_of (met (without_tags q) o ss) t) (met_near q o t ss f)
            | false ↦ met_near q o t ss f
          ]
    ] refl e

brought_near : (q : Find) (t : TraceId) (b : Option Batch) → any_of (met_or_none q b) t ≡ true → any_of (met_or_none (without_tags q) b) t ≡ true
brought_near q t None e = e
brought_near q t (Some b) e = met_near q b.process t b.spans e

entry_near : (q : Find) (t : TraceId) (e : Option Entry) → any_of (met_or_none q (option_and_then (λ (x : Entry). batch_brought x.work) e)) t ≡ true
    → any_of (near_or_none q e) t ≡ true
entry_near q t None found = found
entry_near q t (Some x) found = by (may_meet q (outline_in x)) refl
  where
    by : (b : Bool) → may_meet q (outline_in x) ≡ b → any_of (if b then met_or_none (without_tags q) (batch_brought x.work) else []) t ≡ true
    by true may = brought_near q t (batch_brought x.work) found
    by false none = absurd (false≢true (sym (ap (λ ss. any_of ss t) (passed_there q (Some x) (outline_in x) refl none)) ∙ found))

-- a trace with a span that meets the search is among those that are near
pub near_covers : (q : Find) (h : List Entry) (places : List ℕ) (t : TraceId) → any_of (met_along q h places) t ≡ true
    → any_of (near_along q h places) t ≡ true
near_covers q h [] t e = e
near_covers q h (place ∷ places) t e =
    list_any-append (is_of t) (near_at q h place) (near_along q h places)
    ∙ or_cases (any_of (met_at q h place) t) (any_of (met_along q h places) t) (sym (list_any-append (is_of t) (met_at q h place) (met_along q h places)) ∙ e)
    (λ here. ap (λ b. b || any_of (near_along q h places) t) (entry_near q t (entry_at h place) here))
    (λ rest. or_right (any_of (near_at q h place) t) (any_of (near_along q h places) t) (near_covers q h places t rest))
