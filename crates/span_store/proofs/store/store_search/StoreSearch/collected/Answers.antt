use Rattle.std.proofs.Common.{◌≡◌, ◌∙◌, List, ap}
use Rattle.jaeger_model.specs.declared.placed.Placed.{Placed}
use Rattle.trace_model.specs.Searching.{found_in}
use Rattle.collected_traces.specs.CollectedCandidates.{traces_spotted}
use Rattle.journal_traces.specs.SpansAtSpots.{traces_named}
use Rattle.span_store.specs.FoundAnswers.{found_answer}
use Rattle.span_store.specs.StoreSearches.{StoreSearchValue}
use Rattle.span_store.proofs.FoundAmongCandidates.{found_is}
use Rattle.span_store.proofs.store.store_search.StoreSearch.collected.Goals as goal

pub returns : goal.returns
returns c =
    let search : StoreSearchValue = c.args.self.now in
    let ts : List (List Placed) = traces_spotted c.in_ok-traces.traces in
    let query = c.in_ok-traces.ensures.query ∙ ap (λ (v : StoreSearchValue). v.query) c.self.view_is in
    let limits = c.limits.ensures ∙ ap (λ (v : StoreSearchValue). v.held.limits) c.self.view_is in
    let named : ts ≡ traces_named search.held.entries c.args.spots.now =
    c.in_ok-traces.ensures.spans ∙ ap (λ (v : StoreSearchValue). traces_named v.held.entries c.args.spots.now) c.self.view_is in
    c.new.ensures ∙ (λ i. found_answer (limits i) (query i) c.args.ids_alone ts)
    ∙ found_is search.held search.query c.args.ids_alone ts (ap (found_in search.query) named ∙ c.requires)
