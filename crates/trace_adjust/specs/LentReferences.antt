-- A borrowed span: where its reference to its parent is shown.
use Rattle.std.specs.Prelude.{◌≡◌, ◌<◌, List, ◌∷◌, length, swap}
use Rattle.jaeger_model.specs.declared.batch.Process.{Process}
use Rattle.jaeger_model.specs.declared.placed.Placed.{Placed}
use Rattle.jaeger_model.specs.declared.span.Span.{Span}
use Rattle.jaeger_model.specs.declared.span.SpanRef.{SpanRef}
use Rattle.jaeger_model.specs.Parents.{parent, parent_reference}
use Rattle.trace_adjust.specs.declared.lent_placed.ParentReference.{ParentReference}
use Rattle.trace_adjust.specs.declared.lent_placed.ParentReference.TheVariants.{AsReported, Made, MovedFirst}

abbrev pub references_by : ParentReference → Span → List SpanRef
references_by AsReported s = s.references
references_by Made s = parent_reference s ∷ s.references
references_by (MovedFirst i) s = swap s.references 0 i

abbrev pub referred : ParentReference → Span → Span
referred r s = record s { references = references_by r s }

abbrev pub lent_placed : ParentReference → Process → Span → Placed
lent_placed r p s = record { process = p; span = referred r s }

-- the span is shown unchanged but for its references, its start and the times of its logs
pub record IsLent (kept shown : Span) : Type 0 where
  pub trace : kept.trace ≡ shown.trace
  pub id : kept.id ≡ shown.id
  pub parent : kept.parent ≡ shown.parent
  pub operation : kept.operation ≡ shown.operation
  pub flags : kept.flags ≡ shown.flags
  pub duration : kept.duration ≡ shown.duration
  pub tags : kept.tags ≡ shown.tags

-- the reference that moves to the front exists
abbrev pub IsPlace : ParentReference → Span → Type 0
IsPlace AsReported s = Unit {0}
IsPlace Made s = Unit {0}
IsPlace (MovedFirst i) s = i < length s.references

-- the parent stays the same
pub record IsReferred (r : ParentReference) (s : Span) : Type 0 where
  pub parent_stays : parent (referred r s) ≡ parent s
  pub place : IsPlace r s
