use Rattle.std.proofs.Common.{◌∙◌, ap}
use Rattle.trace_model.specs.declared.query.Find.{Find}
use Rattle.trace_model.specs.Searching.{found_in, ids_of}
use Rattle.collected_traces.specs.TakenSearch.{traces_taken}
use Rattle.span_store.proofs.collected_search.ids_among.Goals as goal

pub returns : goal.returns
returns c =
    c.in_ok-ids.ensures
    ∙ ap ids_of (ap (λ (q : Find). found_in q (traces_taken c.in_ok-search.search)) c.in_ok-search.ensures.query ∙ c.in_ok-search.ensures.found)
