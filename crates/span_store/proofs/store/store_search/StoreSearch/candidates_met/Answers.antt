use Rattle.std.proofs.Common.{◌≡◌, ◌∙◌, ap, sym, subst, map, filter, List, ℕ}
use Rattle.jaeger_model.specs.declared.ids.TraceId.{TraceId}
use Rattle.jaeger_model.specs.declared.placed.Placed.{Placed}
use Rattle.trace_model.specs.Histories.{events}
use Rattle.trace_model.specs.Searching.{found_in}
use Rattle.trace_model.specs.ShownSpans.{spans_of_trace}
use Rattle.service_index.specs.ServicePlaces.{places_of}
use Rattle.journal_traces.specs.MatchingSpans.{any_of, near_along}
use Rattle.span_store.specs.FoundAnswers.{FindsTheSame}
use Rattle.span_store.specs.StoreSearches.{StoreSearchValue}
use Rattle.span_store.proofs.IndexesAreKept.{found_kept}
use Rattle.span_store.proofs.CandidatesAreComplete.{found_near}
use Rattle.span_store.proofs.store.store_search.StoreSearch.candidates_met.Goals as goal

pub returns : goal.returns
returns c =
    let was = c.self.inside in
    let h = was.store.journal.now.held in
    let shown = was.store.assembly.now in
    let q = was.query.now in
    let spots = c.in_ok-spots.spots.items in
    let f : TraceId → List Placed = spans_of_trace h.limits.traces (events h.entries) in
    let ids : List TraceId = filter (any_of (near_along q h.entries c.places-places.result)) shown.newest.ids in
    let at : c.places-places.result ≡ places_of h.entries q.service =
    c.places-places.ensures ∙ sym (ap (λ (v : StoreSearchValue). places_of v.held.entries v.query.service) c.self.view_is) in
    let all : FindsTheSame h q spots =
    found_kept q h shown was.store.starts.now was.store.names.now was.store.by_service.now c.self.invariant.kept ids spots c.in_ok-spots.ensures (
    ap (λ (ps : List ℕ). found_in q (map f (filter (any_of (near_along q h.entries ps)) shown.newest.ids))) at
    ∙ found_near q h.limits.traces h.entries shown.newest.ids) in
    subst (λ (v : StoreSearchValue). FindsTheSame v.held v.query spots) c.self.view_is all
