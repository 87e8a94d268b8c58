use Rattle.std.proofs.Common.{◌≡◌, ◌∙◌, ap, sym, subst, length, List, ℤ}
use Rattle.std.proofs.lemmas.Bool.{OnTrue_at}
use Rattle.jaeger_model.specs.declared.ids.TraceId.{TraceId}
use Rattle.trace_assembly.specs.declared.spot.Spot.{Spot}
use Rattle.trace_model.specs.declared.query.Find.{Find}
use Rattle.trace_model.specs.Histories.{events}
use Rattle.trace_model.specs.Searching.{first_start, found_in}
use Rattle.trace_model.specs.ShownSpans.{spans_of_trace}
use Rattle.journal_traces.specs.SpansAtSpots.{traces_named}
use Rattle.span_store.specs.FoundAnswers.{FindsTheSame}
use Rattle.span_store.specs.StoreSearches.{StoreSearchValue}
use Rattle.span_store.proofs.LatestAreComplete.{found_latest, kept_first}
use Rattle.span_store.proofs.store.store_search.StoreSearch.latest.Goals as goal

pub spots_after-requires : goal.spots_after-requires
spots_after-requires c = c.self.invariant.kept.counted.as_many

pub returns-then-is_full : goal.returns-then-is_full
returns-then-is_full c =
    let was = c.self.inside in
    let h = was.store.journal.now.held in
    let shown = was.store.assembly.now in
    let starts = was.store.starts.now in
    let names = was.store.names.now in
    let by_service = was.store.by_service.now in
    let q = was.query.now in
    let kept = c.self.invariant.kept in
    let first : TraceId → ℤ = λ t. first_start (spans_of_trace h.limits.traces (events h.entries) t) in
    let spots : List (List Spot) = c.in_ok-spots.spots.items in
    let full = OnTrue_at c.if-is_full.true c.is_full.ensures in
    let are = c.in_ok-spots.ensures first (kept_first h shown starts names by_service kept) in
    let among = c.among-latest.ensures in
    let count : length (found_in q (traces_named h.entries spots)) ≡ c.in_ok-found.found =
    sym (c.in_ok-found.ensures
    ∙ (λ i. length (found_in (among.query i) (traces_named (among.entries i) (among.spots i))))
    ∙ ap (λ (v : StoreSearchValue). length (found_in c.in_ok-prepared.prepared (traces_named v.held.entries c.deref-2.result.now))) (sym c.self.view_is)
    ∙ ap (λ (f : Find). length (found_in f (traces_named h.entries c.deref-2.result.now))) c.in_ok-prepared.ensures
    ∙ ap (λ (ss : List (List Spot)). length (found_in q (traces_named h.entries ss))) c.deref-2.ensures.value) in
    let all : FindsTheSame h q spots = found_latest q h shown starts names by_service kept _ spots are full.0 (count ∙ full.1) in
    subst (λ (v : StoreSearchValue). FindsTheSame v.held v.query spots) c.self.view_is all
