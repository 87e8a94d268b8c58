-- When a parent's id becomes a reference, and what that doesn't change.
use Rattle.std.proofs.Common.{◌≡◌, ◌≢◌, Bool, true, false, ◌||◌, List, [], ◌∷◌, length, map, refl, sym, ap, ap₂, ◌∙◌, true≢false}
use Rattle.std.specs.Prelude.{◌==◌, if◌then◌else◌}
use Rattle.std.specs.Bool.{Decides}
use Rattle.std.specs.List.{list_any, AllByRecursion}
use Rattle.std.proofs.lemmas.Bool.Decides.{Decides-and}
use Rattle.std.proofs.lemmas.List.{length-map}
use Rattle.jaeger_model.specs.declared.ids.TraceId.{TraceId}
use Rattle.jaeger_model.specs.declared.ids.SpanId.{SpanId}
use Rattle.jaeger_model.specs.declared.span.Span.{Span}
use Rattle.jaeger_model.specs.declared.span.SpanRef.{SpanRef}
use Rattle.jaeger_model.specs.declared.batch.Batch.{Batch}
use Rattle.jaeger_model.specs.declared.placed.Placed.{Placed}
use Rattle.jaeger_model.specs.Parents.{NeedsReference, domain, needs_no_reference, no_parent, parent, parent_by_references, parent_reference, placed, refers_to}
use Rattle.jaeger_model.specs.Parents.{same_trace, with_parent, without_references}
use Rattle.jaeger_model.specs.Sameness.{same_id}
use Rattle.jaeger_model.specs.SameLaws.{same_id-decides, same_trace-decides}

-- ---- a test and what it means

refers-decides : (t : TraceId) (p : SpanId) (r : SpanRef) → Decides (refers_to t p r) ((r.trace ≡ t) × (r.id ≡ p))
refers-decides t p r = Decides-and (same_trace r.trace t) (same_id r.id p) (same_trace-decides r.trace t) (same_id-decides r.id p)

abbrev Unnamed : TraceId → SpanId → List SpanRef → Type 0
Unnamed t p rs = AllByRecursion (λ (r : SpanRef). r.trace ≡ t → r.id ≢ p) rs

unnamed : (t : TraceId) (p : SpanId) (rs : List SpanRef) → list_any (refers_to t p) rs ≡ false → Unnamed t p rs
unnamed t p [] h = tt
unnamed t p (r ∷ rs) h = by (refers_to t p r) refl h (unnamed t p rs)
  where
    by : (b : Bool) → refers_to t p r ≡ b → (b || list_any (refers_to t p) rs) ≡ false → (list_any (refers_to t p) rs ≡ false → Unnamed t p rs)
        → Unnamed t p (r ∷ rs)
    by true e found rest = absurd (true≢false found)
    by false e found rest = (λ a b. true≢false (sym ((refers-decides t p r).1 (a, b)) ∙ e), rest found)

none_refers : (t : TraceId) (p : SpanId) (rs : List SpanRef) → Unnamed t p rs → list_any (refers_to t p) rs ≡ false
none_refers t p [] h = refl
none_refers t p (r ∷ rs) h = by (refers_to t p r) refl (none_refers t p rs h.1)
  where
    by : (b : Bool) → refers_to t p r ≡ b → list_any (refers_to t p) rs ≡ false → (b || list_any (refers_to t p) rs) ≡ false
    by true e rest = let both = (refers-decides t p r).0 e in absurd (h.0 both.0 both.1)
    by false e rest = rest

needs : (s : Span) → NeedsReference s → needs_no_reference s ≡ false
needs s h = by (s.parent.0 == 0) refl
  where
    by : (b : Bool) → (s.parent.0 == 0) ≡ b → (b || list_any (refers_to s.trace s.parent) s.references) ≡ false
    by true e = absurd (h.0 ((same_id-decides s.parent no_parent).0 e))
    by false e = none_refers s.trace s.parent s.references h.1

needs_back : (s : Span) → needs_no_reference s ≡ false → NeedsReference s
needs_back s h = by (s.parent.0 == 0) refl h
  where
    by : (b : Bool) → (s.parent.0 == 0) ≡ b → (b || list_any (refers_to s.trace s.parent) s.references) ≡ false → NeedsReference s
    by true e found = absurd (true≢false found)
    by false e found = (λ is. true≢false (sym ((same_id-decides s.parent no_parent).1 is) ∙ e), unnamed s.trace s.parent s.references found)

-- ---- the laws

pub added : (s : Span) → NeedsReference s → with_parent s ≡ record s { references = parent_reference s ∷ s.references }
added s h = rw (needs s h) refl

pub kept : (s : Span) → (NeedsReference s → ⊥) → with_parent s ≡ s
kept s h = by (needs_no_reference s) refl
  where
    by : (b : Bool) → needs_no_reference s ≡ b → (if b then s else record s { references = parent_reference s ∷ s.references }) ≡ s
    by true e = refl
    by false e = absurd (h (needs_back s e))

pub same_number : (b : Batch) → length (domain b) ≡ length b.spans
same_number b = length-map b.spans (placed b)

-- a function of each span of the domain equals another function of the span as it was sent
map_as : {X : Type 0} (f : Placed → X) (g : Span → X) (b : Batch) → ((s : Span) → f (placed b s) ≡ g s) → map f (domain b) ≡ map g b.spans
map_as {X} f g b same = over b.spans
  where
    over : (ss : List Span) → map f (map (placed b) ss) ≡ map g ss
    over [] = refl
    over (s ∷ ss) = ap₂ (λ (x : X) (xs : List X). x ∷ xs) (same s) (over ss)

pub same_process : (b : Batch) → map (λ (p : Placed). p.process) (domain b) ≡ map (λ (s : Span). b.process) b.spans
same_process b = map_as (λ (p : Placed). p.process) (λ (s : Span). b.process) b (λ s. refl)

otherwise : (s : Span) → without_references (with_parent s) ≡ without_references s
otherwise s = by (needs_no_reference s)
  where
    by : (b : Bool) → without_references (if b then s else record s { references = parent_reference s ∷ s.references }) ≡ without_references s
    by true = refl
    by false = refl

pub same_spans : (b : Batch) → map (λ (p : Placed). without_references p.span) (domain b) ≡ map without_references b.spans
same_spans b = map_as (λ (p : Placed). without_references p.span) without_references b otherwise

-- adding the reference a second time changes nothing
pub referred_once : (s : Span) → with_parent (with_parent s) ≡ with_parent s
referred_once s = by (needs_no_reference s) refl
  where
    by : (b : Bool) → needs_no_reference s ≡ b
        → with_parent (if b then s else record s { references = parent_reference s ∷ s.references })
        ≡ (if b then s else record s { references = parent_reference s ∷ s.references })
    by true e = rw e refl
    by false e = kept (record s { references = parent_reference s ∷ s.references }) (λ h. h.1.0 refl refl)

pub trace_stays : (s : Span) → (with_parent s).trace ≡ s.trace
trace_stays s = ap (λ (t : Span). t.trace) (otherwise s)

pub same_parent : (s : Span) → parent (with_parent s) ≡ parent s
same_parent s = ap₂ (λ (t : TraceId) (again : Span). parent_by_references t again.references) (trace_stays s) (referred_once s)

pub same_parents : (b : Batch) → map (λ (p : Placed). parent p.span) (domain b) ≡ map parent b.spans
same_parents b = map_as (λ (p : Placed). parent p.span) parent b same_parent
