use Rattle.std.proofs.Common.{sym, subst, List}
use Rattle.trace_assembly.specs.declared.spot.Spot.{Spot}
use Rattle.trace_ring.specs.declared.first_starts.ranges.Window.{Window}
use Rattle.journal_traces.specs.TraceRanges.{FailsOutside}
use Rattle.span_store.specs.FoundAnswers.{FindsTheSame}
use Rattle.span_store.specs.StoreSearches.{StoreSearchValue}
use Rattle.span_store.proofs.WindowIsComplete.{found_within, is_hit, outside_fails}
use Rattle.span_store.proofs.store.store_search.StoreSearch.candidates_within.Goals as goal

pub spots_within-requires : goal.spots_within-requires
spots_within-requires c = c.self.invariant.kept.counted.as_many

pub returns : goal.returns
returns c =
    let was = c.self.inside in
    let h = was.store.journal.now.held in
    let shown = was.store.assembly.now in
    let starts = was.store.starts.now in
    let names = was.store.names.now in
    let by_service = was.store.by_service.now in
    let q = was.query.now in
    let kept = c.self.invariant.kept in
    let spots : List (List Spot) = c.in_ok-spots.spots.items in
    let p = is_hit q h shown starts names by_service kept in
    let fails = subst (λ (w : Window). FailsOutside w starts shown p) (sym c.search_window-window.ensures)
    (outside_fails q h shown starts names by_service kept) in
    let all : FindsTheSame h q spots = found_within q h shown starts names by_service kept spots (c.in_ok-spots.ensures p fails) in
    subst (λ (v : StoreSearchValue). FindsTheSame v.held v.query spots) c.self.view_is all
