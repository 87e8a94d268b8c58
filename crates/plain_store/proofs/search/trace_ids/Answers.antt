use Rattle.std.proofs.Common.{◌≡◌, sym, ◌∙◌, ap, ◌++◌, ◌∷◌, [], List, take}
use Rattle.jaeger_model.specs.declared.ids.TraceId.{TraceId}
use Rattle.trace_model.specs.Searching.{first_id, ids_of}
use Rattle.trace_model.proofs.Lists.{read_some, read_none}
use Rattle.plain_store.proofs.search.trace_ids.Goals as goal
use Rattle.plain_store.proofs.search.trace_ids.Goals.{in-Some+in_ok-push, in_default}

pub loop-trace-preserved : goal.loop-trace-preserved
loop-trace-preserved c = elim c.match-first_id.branch [
  | in-Some+in_ok-push w ↦
      let before : c.loop-trace.ids.items ≡ ids_of (take c.loop-trace.trace-index c.args.traces.now) = c.loop-trace.invariant in
      let more = read_some first_id c.args.traces.now c.loop-trace.trace-index c.trace-item.result w.in-Some.id c.loop-trace-test.true
      (ap first_id (sym c.trace-item.is) ∙ sym c.first_id.ensures ∙ w.in-Some.is) in
      ap (λ v. v.items) w.ids-is ∙ w.in_ok-push.ensures.items ∙ ap (λ (l : List TraceId). l ++ w.in-Some.id ∷ []) before ∙ sym more
  | in_default w ↦
      let before : c.loop-trace.ids.items ≡ ids_of (take c.loop-trace.trace-index c.args.traces.now) = c.loop-trace.invariant in
      let same = read_none first_id c.args.traces.now c.loop-trace.trace-index c.trace-item.result c.loop-trace-test.true
      (ap first_id (sym c.trace-item.is) ∙ sym c.first_id.ensures ∙ w.in_default.is) in
      ap (λ v. v.items) w.ids-is ∙ before ∙ sym same
]
