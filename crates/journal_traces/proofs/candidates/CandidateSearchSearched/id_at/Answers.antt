use Rattle.std.proofs.Common.{◌∙◌, ap}
use Rattle.trace_model.specs.Searching.{first_id}
use Rattle.collected_traces.specs.EntriesAtPlaces.{spans_named}
use Rattle.journal_traces.proofs.SpansAtSpots.{trace_there}
use Rattle.journal_traces.proofs.candidates.CandidateSearchSearched.id_at.Goals as goal

pub returns-in-Some : goal.returns-in-Some
returns-in-Some c =
    c.first_id.ensures ∙ ap (first_id)
    (ap (spans_named c.args.self.now.store.journal.now.held.entries) c.duplicate.ensures
    ∙ trace_there c.args.self.now.store.journal.now.held.entries c.args.self.now.spots.now c.args.index c.get.result c.in-Some.spots c.get.ensures.lookup
    c.in-Some.is)
