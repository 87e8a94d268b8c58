use Rattle.std.proofs.Common.{List, ap, length, arith}
use Rattle.std.proofs.lemmas.List.{length-map}
use Rattle.jaeger_model.specs.declared.placed.Placed.{Placed}
use Rattle.trace_model.specs.declared.query.Find.{Find}
use Rattle.find_traces.specs.FoundIndices.{trace_at}
use Rattle.collected_traces.specs.CollectedCandidates.{traces_spotted}
use Rattle.collected_traces.specs.TakenSearch.{traces_taken}
use Rattle.collected_traces.proofs.taken_search.TakenSearchSearched.count.Goals as goal

pub returns : goal.returns
returns c =
    let was = c.self.inside in
    let mapped = length-map was.picked.items (trace_at (traces_spotted was.candidates.now)) in
    let seen = ap (λ (s : Find × List (List Placed)). length (traces_taken s)) c.self.view_is in
    omega arith
