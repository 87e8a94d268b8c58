-- The spans of entries at spots, one by one.
use Rattle.std.proofs.Common.{◌≡◌, ℕ, Bool, true, false, ◌||◌, List, [], ◌∷◌, refl, sym, ap, ◌∙◌, Some, None, Option}
use Rattle.std.specs.Prelude.{pos, slice_get}
use Rattle.std.specs.List.{list_any, cons_option}
use Rattle.std.specs.Option.{option_and_then}
use Rattle.jaeger_model.specs.declared.ids.TraceId.{TraceId}
use Rattle.jaeger_model.specs.declared.placed.Placed.{Placed}
use Rattle.jaeger_model.specs.declared.placed.Seen.{Seen}
use Rattle.trace_model.specs.declared.entry.Entry.{Entry}
use Rattle.trace_model.specs.declared.entry.Work.{Work}
use Rattle.trace_model.specs.declared.entry.Work.TheVariants as brings
use Rattle.trace_model.specs.EntryWork.{batch_brought, placed_brought}
use Rattle.trace_model.specs.Places.{entry_at}
use Rattle.jaeger_model.specs.declared.batch.Batch.{Batch}
use Rattle.jaeger_model.specs.Parents.{domain}
use Rattle.trace_model.specs.Searching.{first_start, first_id}
use Rattle.trace_model.specs.BorrowedSpans.{seen, placed_by_its_entry}
use Rattle.jaeger_model.proofs.ParentReferences.{trace_stays}
use Rattle.trace_assembly.specs.declared.spot.Spot.{Spot}
use Rattle.trace_assembly.specs.LocatedSpans.{span_at}
use Rattle.collected_traces.specs.EntriesAtPlaces.{batch_at, spans_named}
use Rattle.collected_traces.proofs.ParentReferences.{start-adopted}

-- ---- the span at a spot is that of the batch of its entry
brought : (w : Work) (i : ℕ) (b : Batch) → Some b ≡ batch_brought w → slice_get (domain b) i ≡ slice_get (placed_brought w) i
brought (brings.Batch x) i b is = let same : b ≡ x = cc is in ap (λ (y : Batch). slice_get (domain y) i) same
brought (brings.TraceLimit n) i b is = absurd (cc is)

not_brought : (w : Work) (i : ℕ) → None ≡ batch_brought w → None ≡ slice_get (placed_brought w) i
not_brought (brings.Batch x) i is = absurd (cc is)
not_brought (brings.TraceLimit n) i is = refl

pub span_there : (h : List Entry) (s : Spot) (b : Batch) → Some b ≡ batch_at h s.place → slice_get (domain b) s.index ≡ span_at h s
span_there h s b is = there (entry_at h s.place) is
  where
    there : (o : Option Entry) → Some b ≡ option_and_then (λ (e : Entry). batch_brought e.work) o
        → slice_get (domain b) s.index ≡ option_and_then (λ (e : Entry). slice_get (placed_brought e.work) s.index) o
    there None is = absurd (cc is)
    there (Some e) is = brought e.work s.index b is

pub no_span_there : (h : List Entry) (s : Spot) → None ≡ batch_at h s.place → None ≡ span_at h s
no_span_there h s is = there (entry_at h s.place) is
  where
    there : (o : Option Entry) → None ≡ option_and_then (λ (e : Entry). batch_brought e.work) o
        → None ≡ option_and_then (λ (e : Entry). slice_get (placed_brought e.work) s.index) o
    there None is = refl
    there (Some e) is = not_brought e.work s.index is

-- ---- one spot less at the front
pub first_none : (h : List Entry) (s : Spot) (ss : List Spot) → span_at h s ≡ None → slice_get (spans_named h ss) 0 ≡ slice_get (spans_named h (s ∷ ss)) 0
first_none h s ss e = ap (λ o. slice_get (cons_option o (spans_named h ss)) 0) (sym e)

any_next : (h : List Entry) (w : Placed → Bool) (s : Spot) (ss : List Spot)
    → list_any w (spans_named h (s ∷ ss)) ≡ (list_any w (spans_named h (s ∷ [])) || list_any w (spans_named h ss))
any_next h w s ss =
    elim (span_at h s) as (λ o. list_any w (cons_option o (spans_named h ss)) ≡ (list_any w (cons_option o []) || list_any w (spans_named h ss))) [
      | None ↦ refl
      | Some p ↦ elim (w p) as (λ b. (b || list_any w (spans_named h ss)) ≡ ((b || false) || list_any w (spans_named h ss))) [ true ↦ refl | false ↦ refl ]
    ]

pub any_here : (h : List Entry) (w : Placed → Bool) (s : Spot) (ss : List Spot) → list_any w (spans_named h (s ∷ [])) ≡ true
    → true ≡ list_any w (spans_named h (s ∷ ss))
any_here h w s ss e = sym (any_next h w s ss ∙ ap (λ b. b || list_any w (spans_named h ss)) e)

pub any_later : (h : List Entry) (w : Placed → Bool) (s : Spot) (ss : List Spot) → list_any w (spans_named h (s ∷ [])) ≡ false
    → list_any w (spans_named h ss) ≡ list_any w (spans_named h (s ∷ ss))
any_later h w s ss e = sym (any_next h w s ss ∙ ap (λ b. b || list_any w (spans_named h ss)) e)

-- ---- the first of the spans
pub first_starts : (ps : List Placed) (s : Seen) → Some (placed_by_its_entry s) ≡ slice_get ps 0 → s.span.now.start ≡ first_start ps
first_starts [] s e = absurd cc
first_starts (p ∷ ps) s e = let same : placed_by_its_entry s ≡ p = cc e in sym (start-adopted (seen s)) ∙ ap (λ (x : Placed). x.span.start) same

pub no_start : (ps : List Placed) → ◌≡◌ {A = Option Placed} None (slice_get ps 0) → pos 0 ≡ first_start ps
no_start [] e = refl
no_start (p ∷ ps) e = absurd cc

pub first_trace : (ps : List Placed) (s : Seen) → Some (placed_by_its_entry s) ≡ slice_get ps 0 → Some s.span.now.trace ≡ first_id ps
first_trace [] s e = absurd cc
first_trace (p ∷ ps) s e = let same : placed_by_its_entry s ≡ p = cc e in ap Some (sym (trace_stays s.span.now) ∙ ap (λ (x : Placed). x.span.trace) same)

pub no_trace : (ps : List Placed) → ◌≡◌ {A = Option Placed} None (slice_get ps 0) → ◌≡◌ {A = Option TraceId} None (first_id ps)
no_trace [] e = refl
no_trace (p ∷ ps) e = absurd cc
