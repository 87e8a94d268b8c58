use Rattle.std.proofs.Common.{◌≡◌, ◌∙◌, List, IfOk, ap, subst}
use Rattle.jaeger_model.specs.declared.ids.TraceId.{TraceId}
use Rattle.trace_model.specs.LimitedHistories.{LimitedHistory}
use Rattle.trace_model.specs.Histories.{events}
use Rattle.trace_model.specs.ShownSpans.{ring}
use Rattle.trace_ring.specs.RingValues.{RingValue}
use Rattle.span_store.proofs.IndexesAreKept.{kept_ring}
use Rattle.span_store.proofs.store.SpanStore.trace_ids.Goals as goal

pub returns : goal.returns
returns c =
    let was = c.self.inside in
    let all : was.shown.newest.ids ≡ ring c.args.self.now.limits.traces (events c.args.self.now.entries) =
    kept_ring was.journal.held was.shown was.starts was.names was.by_service c.self.invariant
    ∙ ap (λ (v : LimitedHistory). ring v.limits.traces (events v.entries)) c.self.view_is in
    subst (λ (ids : List TraceId). IfOk c.ring_ids.result (λ v. v.items ≡ ids)) (ap (λ (w : RingValue). w.ids) c.ring.ensures ∙ all) c.ring_ids.ensures
