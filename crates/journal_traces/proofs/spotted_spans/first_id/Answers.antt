use Rattle.collected_traces.specs.EntriesAtPlaces.{spans_named}
use Rattle.collected_traces.proofs.EntriesAtPlaces.{first_trace, no_trace}
use Rattle.journal_traces.proofs.spotted_spans.first_id.Goals as goal

pub returns-in-Some : goal.returns-in-Some
returns-in-Some c = first_trace (spans_named c.args.journal.now.held.entries c.args.spots) c.in-Some.seen c.in-Some.ensures

pub returns-in-None : goal.returns-in-None
returns-in-None c = no_trace (spans_named c.args.journal.now.held.entries c.args.spots) c.in-None.ensures
