use Rattle.std.proofs.Common.{rules, ◌≡◌, ◌∙◌}
use Rattle.trace_model.specs.Searching.{first_start}
use Rattle.collected_traces.specs.EntriesAtPlaces.{spans_named}
use Rattle.collected_traces.proofs.EntriesAtPlaces.{first_starts, no_start}
use Rattle.journal_traces.proofs.spotted_spans.first_start.Goals as goal

pub returns-in-Some : goal.returns-in-Some
returns-in-Some c =
    let e : c.start.result ≡ first_start (spans_named c.args.journal.now.held.entries c.args.spots) =
    c.start.ensures ∙ first_starts (spans_named c.args.journal.now.held.entries c.args.spots) c.in-Some.seen c.in-Some.ensures in
    search rules

pub returns-in-None : goal.returns-in-None
returns-in-None c = no_start (spans_named c.args.journal.now.held.entries c.args.spots) c.in-None.ensures
