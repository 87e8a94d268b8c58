use Rattle.std.proofs.Common.{◌≡◌, ◌∙◌, List, ap}
use Rattle.std.specs.List.{list_any}
use Rattle.std.proofs.lemmas.Result.{IfOk-weaker}
use Rattle.trace_model.specs.declared.entry.Entry.{Entry}
use Rattle.trace_model.specs.declared.query.Find.{Find}
use Rattle.trace_model.specs.Searching.{matches}
use Rattle.find_traces.specs.FoundIndices.{trace_at}
use Rattle.journal_traces.specs.CandidateTraces.{traces_of}
use Rattle.collected_traces.specs.EntriesAtPlaces.{spans_named}
use Rattle.journal_traces.proofs.SpansAtSpots.{trace_there}
use Rattle.journal_traces.proofs.candidates.CandidateSearchSearched.is_found_at.Goals as goal

pub returns-in-Some-clause-found : goal.returns-in-Some-clause-found
returns-in-Some-clause-found c =
    let traces = c.args.self.now in
    let h = traces.store.journal.now.held.entries in
    let q = traces.prepared.now in
    IfOk-weaker c.is_found.result (λ b. b ≡ list_any (matches c.new-judging.result.0) (spans_named c.new-judging.result.1 c.duplicate.result))
    (λ b. b ≡ list_any (matches q) (trace_at (traces_of traces) c.args.index))
    (λ b e. e ∙ ap (λ (j : Find × List Entry). list_any (matches j.0) (spans_named j.1 c.duplicate.result)) c.new-judging.ensures
    ∙ ap (list_any (matches q)) (ap (spans_named h) c.duplicate.ensures
    ∙ trace_there h traces.spots.now c.args.index c.get.result c.in-Some.spots c.get.ensures.lookup c.in-Some.is))
    c.is_found.ensures
