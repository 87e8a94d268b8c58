use Rattle.std.proofs.Common.{◌≡◌, ◌∙◌, ap, subst, map, filter, w64}
use Rattle.std.proofs.lemmas.Int.{to_z-of_z}
use Rattle.std.specs.List.{list_any}
use Rattle.trace_model.specs.LimitedHistories.{LimitedHistory}
use Rattle.trace_model.specs.Histories.{events}
use Rattle.trace_model.specs.ServiceLinks.{in_window, links}
use Rattle.trace_model.specs.Searching.{traces}
use Rattle.trace_assembly.specs.AssembledRows.{spots_of}
use Rattle.service_index.specs.ServicePlaces.{service_at, service_number_in}
use Rattle.call_links.specs.NumberedCalls.{links_in}
use Rattle.journal_traces.specs.SpansAtSpots.{trace_named}
use Rattle.trace_model.specs.TakenSpans.{placed_taken}
use Rattle.span_store.proofs.RingFollowsEvents.{trace_stands}
use Rattle.span_store.proofs.IndexesAreKept.{kept_spots, kept_traces}
use Rattle.journal_traces.proofs.SpansAtSpots.{links_chosen}
use Rattle.span_store.proofs.RangesFollowEvents.{named_ranged}
use Rattle.span_store.proofs.store.SpanStore.traces_within.Goals as goal

pub returns-clause-links : goal.returns-clause-links
returns-clause-links c =
    let store = c.view.result in
    let h = store.journal.now.held in
    let kept = c.view.ensures.kept in
    let shown = store.assembly.now in
    let starts = store.starts.now in
    let names = store.names.now in
    let by_service = store.by_service.now in
    let e = to_z-of_z w64 c.args.end_ms c.ranges.end_ms in
    let l = to_z-of_z w64 c.args.lookback_ms c.ranges.lookback_ms in
    let end_ms = c.args.end_ms in
    let lookback_ms = c.args.lookback_ms in
    let spots = spots_of shown in
    let taken = c.in_ok-taken.taken in
    let stands = trace_stands h.limits.traces h.entries spots (kept_spots h shown starts names by_service kept) in
    let seen : map placed_taken taken ≡ filter (list_any (in_window end_ms lookback_ms)) (map (trace_named h.entries spots) shown.newest.ids) =
    rw (e, l) at c.in_ok-taken.ensures.within in
    let all : links_in (map placed_taken taken) ≡ links end_ms lookback_ms (traces h.limits.traces (events h.entries)) =
    ap links_in seen ∙ links_chosen end_ms lookback_ms (map (trace_named h.entries spots) shown.newest.ids)
    ∙ ap (links end_ms lookback_ms)
    ((λ i. map (λ t. stands t i) shown.newest.ids) ∙ kept_traces h shown starts names by_service kept) in
    subst (λ (v : LimitedHistory). links_in (map placed_taken taken) ≡ links end_ms lookback_ms (traces v.limits.traces (events v.entries)))
    c.view.ensures.held all

pub returns-clause-numbered : goal.returns-clause-numbered
returns-clause-numbered c =
    let h = c.view.result.journal.now.held.entries in
    (service_at h, (service_number_in h, c.in_ok-taken.ensures.numbered))

pub take_within-requires-clause-few : goal.take_within-requires-clause-few
take_within-requires-clause-few c = c.view.ensures.few

pub take_within-requires-clause-numbers : goal.take_within-requires-clause-numbers
take_within-requires-clause-numbers c = c.view.ensures.kept.placed.kept.services_numbered

pub take_within-requires-clause-as_many : goal.take_within-requires-clause-as_many
take_within-requires-clause-as_many c = c.view.ensures.kept.counted.as_many

pub take_within-requires-clause-ranged : goal.take_within-requires-clause-ranged
take_within-requires-clause-ranged c =
    let store = c.view.result in
    let h = store.journal.now.held in
    let kept = c.view.ensures.kept in
    named_ranged h.limits.traces h.entries (spots_of store.assembly.now) store.assembly.now.newest.ids store.starts.now
    (kept_spots h store.assembly.now store.starts.now store.names.now store.by_service.now kept) kept.ranged
