use Rattle.std.proofs.Common.{◌∙◌, [], List, map, ap}
use Rattle.std.specs.Prelude.{slice_index_or}
use Rattle.jaeger_model.specs.declared.placed.Placed.{Placed}
use Rattle.journal_traces.specs.SpansAtSpots.{traces_named}
use Rattle.span_store.proofs.finding.take_found.Goals as goal

pub returns-clause-found : goal.returns-clause-found
returns-clause-found c =
    let ts : List (List Placed) = traces_named c.args.traces.store.journal.now.held.entries c.args.traces.spots.now in
    c.in_ok-taken.ensures.spans ∙ ap (map (λ i. slice_index_or ts i [])) c.deref.ensures.value ∙ c.in_ok-indices.ensures.traces
