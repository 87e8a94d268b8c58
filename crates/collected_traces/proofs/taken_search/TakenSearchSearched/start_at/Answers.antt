use Rattle.std.proofs.Common.{rules, ◌≡◌, ◌∙◌, List, ap}
use Rattle.jaeger_model.specs.declared.placed.Placed.{Placed}
use Rattle.trace_model.specs.declared.query.Find.{Find}
use Rattle.trace_model.specs.Searching.{first_start}
use Rattle.trace_model.specs.TakenSpans.{placed_taken}
use Rattle.find_traces.specs.FoundIndices.{trace_at}
use Rattle.collected_traces.specs.CollectedCandidates.{trace_spotted, traces_picked}
use Rattle.collected_traces.specs.TakenSearch.{traces_taken}
use Rattle.collected_traces.proofs.taken_search.TakenSearchSearched.start_at.Goals as goal

pub returns : goal.returns
returns c =
    let was = c.self.inside in
    let k = c.args.index in
    let e : c.first_start.result ≡ first_start (trace_at (traces_taken c.args.self.now) k) =
    c.first_start.ensures
    ∙ ap first_start (ap (λ es. placed_taken (trace_spotted es c.spots_picked-spots.result.now)) c.entries.ensures ∙ c.spots_picked-spots.ensures
    ∙ ap (λ picked. trace_at (traces_picked was.candidates.now picked) k) c.deref.ensures.value
    ∙ ap (λ (s : Find × List (List Placed)). trace_at (traces_taken s) k) c.self.view_is) in
    search rules
