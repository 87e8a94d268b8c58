-- The traces that a search considers.
use Rattle.std.specs.Prelude.{List}
use Rattle.jaeger_model.specs.declared.placed.Placed.{Placed}
use Rattle.trace_model.specs.declared.query.Find.{Find}
use Rattle.journal_traces.specs.declared.candidates.CandidateSearch.{CandidateSearch}
use Rattle.journal_traces.specs.SpansAtSpots.{traces_named}

abbrev pub traces_of : CandidateSearch → List (List Placed)
traces_of c = traces_named c.store.journal.now.held.entries c.spots.now

-- the search that considers them
abbrev pub query_of : CandidateSearch → Find
query_of c = c.prepared.now
