use Rattle.std.proofs.Common.{◌∙◌, List, map, ap}
use Rattle.jaeger_model.specs.declared.placed.Placed.{Placed}
use Rattle.find_traces.specs.FoundIndices.{trace_at}
use Rattle.collected_traces.specs.TakenSearch.{traces_taken}
use Rattle.collected_traces.proofs.found_taken.find_taken.Goals as goal

pub returns-clause-found : goal.returns-clause-found
returns-clause-found c =
    let ts : List (List Placed) = traces_taken c.args.search.now in
    c.in_ok-traces.ensures.spans ∙ ap (λ (l : List (List Placed)). map (trace_at l) c.deref.result.now) c.in_ok-indices.ensures.same_traces
    ∙ ap (map (trace_at ts)) c.deref.ensures.value ∙ c.in_ok-indices.ensures.traces
