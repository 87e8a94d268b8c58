use Rattle.std.proofs.Common.{◌≡◌, ◌∙◌, ap, sym, subst, filter, List, Some}
use Rattle.jaeger_model.specs.declared.ids.TraceId.{TraceId}
use Rattle.trace_assembly.specs.AssembledRows.{spots_of}
use Rattle.service_index.specs.ServicePlaces.{service_number_of}
use Rattle.journal_traces.specs.ReportedSpots.{are_reported}
use Rattle.span_store.specs.FoundAnswers.{FindsTheSame}
use Rattle.span_store.specs.StoreSearches.{StoreSearchValue}
use Rattle.span_store.proofs.RingFollowsEvents.{trace_stands}
use Rattle.span_store.proofs.IndexesAreKept.{found_kept, kept_spots}
use Rattle.span_store.proofs.CandidatesAreComplete.{found_reported}
use Rattle.span_store.proofs.store.store_search.StoreSearch.candidates_reported.Goals as goal

pub spots_reported-requires-clause-few : goal.spots_reported-requires-clause-few
spots_reported-requires-clause-few c = c.self.invariant.told.few

pub spots_reported-requires-clause-numbers : goal.spots_reported-requires-clause-numbers
spots_reported-requires-clause-numbers c = c.self.invariant.told.numbers

pub returns : goal.returns
returns c =
    let was = c.self.inside in
    let h = was.store.journal.now.held in
    let shown = was.store.assembly.now in
    let starts = was.store.starts.now in
    let names = was.store.names.now in
    let by_service = was.store.by_service.now in
    let q = was.query.now in
    let kept = c.self.invariant.kept in
    let numbers = c.self.invariant.told.numbers in
    let spots = spots_of shown in
    let stands = trace_stands h.limits.traces h.entries spots (kept_spots h shown starts names by_service kept) in
    let ids : List TraceId = filter (λ t. are_reported h.entries by_service.service_numbers c.args.service (spots t)) shown.newest.ids in
    let known : Some c.args.service ≡ service_number_of h.entries q.service =
    c.requires ∙ sym (ap (λ (v : StoreSearchValue). service_number_of v.held.entries v.query.service) c.self.view_is) in
    let all : FindsTheSame h q c.in_ok-spots.spots.items =
    found_kept q h shown starts names by_service kept ids c.in_ok-spots.spots.items c.in_ok-spots.ensures (
    found_reported q h.entries by_service.service_numbers c.args.service numbers known h.limits.traces spots shown.newest.ids stands) in
    subst (λ (v : StoreSearchValue). FindsTheSame v.held v.query c.in_ok-spots.spots.items) c.self.view_is all
