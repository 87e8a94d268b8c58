use Rattle.std.proofs.Common.{◌∙◌, ap}
use Rattle.trace_model.specs.declared.query.Find.{Find}
use Rattle.trace_model.specs.Searching.{found_in}
use Rattle.collected_traces.specs.TakenSearch.{traces_taken}
use Rattle.span_store.proofs.collected_search.found_among.Goals as goal

pub returns-clause-found : goal.returns-clause-found
returns-clause-found c =
    c.in_ok-traces.ensures.found ∙ ap (λ (q : Find). found_in q (traces_taken c.in_ok-search.search)) c.in_ok-search.ensures.query
    ∙ c.in_ok-search.ensures.found
