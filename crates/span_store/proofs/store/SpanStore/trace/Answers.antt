use Rattle.std.proofs.Common.{rules, ◌≡◌, ◌∙◌, ◌<◌, Some, None, ap, sym, subst, length, arith}
use Rattle.std.specs.Prelude.{option_map}
use Rattle.trace_model.specs.LimitedHistories.{LimitedHistory}
use Rattle.trace_model.specs.declared.answer.Answer.TheVariants.{Trace}
use Rattle.trace_model.specs.declared.limits.Limits.{Limits}
use Rattle.trace_model.specs.Adjusting.{shown_as}
use Rattle.trace_model.specs.Histories.{events}
use Rattle.trace_model.specs.TakenSpans.{placed_taken, numbers_taken}
use Rattle.trace_model.specs.ShownSpans.{spans_of_trace, trace_found}
use Rattle.trace_assembly.specs.AssembledRows.{spots_of}
use Rattle.span_store.proofs.SharedProcesses.{share_processes}
use Rattle.span_store.proofs.RingFollowsEvents.{spots_name, none_found, some_found}
use Rattle.span_store.proofs.store.SpanStore.trace.Goals as goal

pub returns-then-is_empty : goal.returns-then-is_empty
returns-then-is_empty c =
    let held = c.self.inside.journal.held in
    let spots = c.spots-spots.result in
    let none : length spots ≡ 0 = search rules in
    let named = spots_name held.limits.traces held.entries c.self.inside.shown.newest (spots_of c.self.inside.shown)
    c.args.id spots c.self.invariant.follows c.spots-spots.ensures in
    subst (λ (v : LimitedHistory). Trace None
    ≡ Trace (option_map (shown_as v.limits.max_skew c.args.raw) (trace_found v.limits.traces (events v.entries) c.args.id)))
    c.self.view_is
    (ap Trace (none_found (shown_as held.limits.max_skew c.args.raw) held.entries spots
    (spans_of_trace held.limits.traces (events held.entries) c.args.id) named none))

pub returns : goal.returns
returns c =
    let held = c.self.inside.journal.held in
    let spots = c.spots-spots.result in
    let some : 0 < length spots = search rules in
    let named = spots_name held.limits.traces held.entries c.self.inside.shown.newest (spots_of c.self.inside.shown)
    c.args.id spots c.self.invariant.follows c.spots-spots.ensures in
    let there = placed_taken c.in_ok-trace.trace.spans.items in
    let form = c.in_ok-trace.ensures.form in
    let shown : c.in_ok-kept.kept ≡ shown_as held.limits.max_skew c.args.raw there =
    c.in_ok-kept.ensures ∙ (λ i. shown_as (form.0 i) (form.1 i) there)
    ∙ ap (λ (l : Limits). shown_as l.max_skew c.args.raw there) (c.limits-max_skew.ensures ∙ ap (λ (v : LimitedHistory). v.limits) (sym c.self.view_is)) in
    subst (λ (v : LimitedHistory). Trace (Some c.in_ok-kept.kept)
    ≡ Trace (option_map (shown_as v.limits.max_skew c.args.raw) (trace_found v.limits.traces (events v.entries) c.args.id))) c.self.view_is
    (ap Trace (some_found (shown_as held.limits.max_skew c.args.raw) held.entries spots (spans_of_trace held.limits.traces (events held.entries) c.args.id)
    there c.in_ok-kept.kept named c.in_ok-trace.ensures.spans some shown))

pub gather-requires : goal.gather-requires
gather-requires c = omega (arith, c.self.invariant.placed.batches, c.self.invariant.placed.kept.fits, c.len-legal.ensures.legal.batches)

pub kept-requires : goal.kept-requires
kept-requires c =
    let spans = c.in_ok-trace.trace.spans.items in
    share_processes c.self.inside.journal.held.entries (placed_taken spans) (numbers_taken spans) c.in_ok-trace.ensures.places
