use Rattle.std.proofs.Common.{rules, ◌≡◌, ◌∙◌, ap}
use Rattle.trace_model.specs.Searching.{first_start}
use Rattle.find_traces.specs.FoundIndices.{trace_at}
use Rattle.collected_traces.specs.EntriesAtPlaces.{spans_named}
use Rattle.journal_traces.specs.SpansAtSpots.{traces_named}
use Rattle.journal_traces.proofs.SpansAtSpots.{trace_there}
use Rattle.journal_traces.proofs.candidates.CandidateSearchSearched.start_at.Goals as goal

pub returns-in-Some : goal.returns-in-Some
returns-in-Some c =
    let traces = c.args.self.now in
    let e : c.first_start.result ≡ first_start (trace_at (traces_named traces.store.journal.now.held.entries traces.spots.now) c.args.index) =
    c.first_start.ensures ∙ ap first_start
    (ap (spans_named traces.store.journal.now.held.entries) c.duplicate.ensures
    ∙ trace_there traces.store.journal.now.held.entries traces.spots.now c.args.index c.get.result c.in-Some.spots c.get.ensures.lookup c.in-Some.is) in
    search rules
