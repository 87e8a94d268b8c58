use Rattle.std.proofs.Common.{◌≡◌, Bool, true, ◌||◌, Some, map, take}
use Rattle.jaeger_model.specs.declared.ids.TraceId.{TraceId}
use Rattle.journal_traces.specs.MatchingSpans.{any_of, met, without_tags}
use Rattle.journal_traces.proofs.search_candidates.mark_spans.Given as goal

abbrev pub invariant-loop-span : goal.invariant-loop-span
invariant-loop-span l = record {
  at : l.index ≡ l.span-index;
  marks : (p : TraceId → Bool) → l.initial.marks ≡ map p l.ring.ids
      → l.marks ≡ map (λ t. p t || any_of (met (without_tags l.conditions.0) l.process (take l.span-index l.spans)) t) l.ring.ids;
  before : (t : TraceId) → l.before ≡ Some t → any_of (met (without_tags l.conditions.0) l.process (take l.span-index l.spans)) t ≡ true;
}
