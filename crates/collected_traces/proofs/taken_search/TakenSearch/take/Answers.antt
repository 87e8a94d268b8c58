use Rattle.std.proofs.Common.{◌∙◌, List, map, ap}
use Rattle.jaeger_model.specs.declared.placed.Placed.{Placed}
use Rattle.trace_model.specs.declared.query.Find.{Find}
use Rattle.find_traces.specs.FoundIndices.{trace_at}
use Rattle.collected_traces.specs.CollectedCandidates.{traces_picked}
use Rattle.collected_traces.specs.TakenSearch.{traces_taken}
use Rattle.collected_traces.proofs.TracesAtSpots.{share_by_entry}
use Rattle.collected_traces.proofs.taken_search.TakenSearch.take.Goals as goal

pub returns-clause-spans : goal.returns-clause-spans
returns-clause-spans c =
    let was = c.self.inside in
    let indices = c.args.indices.now in
    c.in_ok-traces.ensures.spans
    ∙ ap (λ picked. map (trace_at (traces_picked was.candidates.now picked)) indices) c.deref.ensures.value
    ∙ ap (λ (s : Find × List (List Placed)). map (trace_at (traces_taken s)) indices) c.self.view_is

pub returns-clause-shared : goal.returns-clause-shared
returns-clause-shared c = share_by_entry c.self.inside.candidates.now.entries c.in_ok-traces.traces c.in_ok-traces.ensures.numbers
