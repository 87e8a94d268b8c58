use Rattle.std.proofs.Common.{◌≡◌, ◌≤◌, sym, ◌∙◌, ap, map, List, ◌++◌, ◌∷◌, [], take, get_or, length, arith}
use Rattle.std.specs.List.{filter_map}
use Rattle.std.proofs.lemmas.List.{take_all}
use Rattle.jaeger_model.specs.declared.ids.TraceId.{TraceId}
use Rattle.jaeger_model.specs.declared.placed.Placed.{Placed}
use Rattle.trace_model.proofs.Lists.{read_some, read_none}
use Rattle.find_traces.specs.FoundIndices.{id_at, trace_at}
use Rattle.find_traces.proofs.Found.{ids_found}
use Rattle.find_traces.proofs.finding.find_ids.Goals as goal
use Rattle.find_traces.proofs.finding.find_ids.Goals.{in-Some+in_ok-push, in_default}

pub loop-index-preserved : goal.loop-index-preserved
loop-index-preserved g c =
    let before : c.loop-index.ids.items
    ≡ filter_map (id_at (g.T.Searched.traces c.args.traces.now)) (take c.loop-index.index-index c.deref-index-items.result.now) = c.loop-index.invariant in
    elim c.match-id_at.branch [
      | in-Some+in_ok-push w ↦
          ap (λ v. v.items) w.ids-is ∙ w.in_ok-push.ensures.items ∙ ap (λ (l : List TraceId). l ++ w.in-Some.id ∷ []) before
          ∙ sym (read_some (id_at (g.T.Searched.traces c.args.traces.now))
          c.deref-index-items.result.now c.loop-index.index-index 0 w.in-Some.id c.loop-index-test.true
          (sym (c.id_at.ensures ∙ ap (λ (ts : List (List Placed)). id_at ts (get_or c.deref-index-items.result.now c.loop-index.index-index 0))
          c.in_ok-indices.ensures.same_traces) ∙ w.in-Some.is))
      | in_default w ↦
          ap (λ v. v.items) w.ids-is ∙ before
          ∙ sym (read_none (id_at (g.T.Searched.traces c.args.traces.now)) c.deref-index-items.result.now c.loop-index.index-index 0 c.loop-index-test.true
          (sym (c.id_at.ensures ∙ ap (λ (ts : List (List Placed)). id_at ts (get_or c.deref-index-items.result.now c.loop-index.index-index 0))
          c.in_ok-indices.ensures.same_traces) ∙ w.in_default.is))
    ]

pub returns : goal.returns
returns g c =
    let before : c.loop-index.ids.items
    ≡ filter_map (id_at (g.T.Searched.traces c.args.traces.now)) (take c.loop-index.index-index c.deref-index-items.result.now) = c.loop-index.invariant in
    let end : length c.deref-index-items.result.now ≤ c.loop-index.index-index = let h = c.loop-index-test.false in omega arith in
    before ∙ ap (filter_map (id_at (g.T.Searched.traces c.args.traces.now))) (take_all c.loop-index.index-index c.deref-index-items.result.now end)
    ∙ ids_found (g.T.Searched.query c.args.traces.now) (g.T.Searched.traces c.args.traces.now) c.deref-index-items.result.now
    (ap (map (trace_at (g.T.Searched.traces c.args.traces.now))) c.deref-index-items.ensures.value ∙ c.in_ok-indices.ensures.traces)
