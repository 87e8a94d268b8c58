use Rattle.std.proofs.Common.{◌∙◌, w64, sym, ap}
use Rattle.std.specs.List.{list_any}
use Rattle.std.proofs.lemmas.Int.{to_z-of_z}
use Rattle.trace_model.specs.ServiceLinks.{in_window}
use Rattle.collected_traces.specs.EntriesAtPlaces.{spans_named}
use Rattle.collected_traces.proofs.EntriesAtPlaces.{any_later}
use Rattle.journal_traces.proofs.SpansAtSpots.{any_end}
use Rattle.journal_traces.proofs.spotted_spans.reaches_window.Goals as goal

pub loop-spot-preserved : goal.loop-spot-preserved
loop-spot-preserved c =
    let h = c.args.journal.now.held.entries in
    let own = in_window c.args.end_ms c.args.lookback_ms in
    let e = to_z-of_z w64 c.args.end_ms c.ranges.end_ms in
    let l = to_z-of_z w64 c.args.lookback_ms c.ranges.lookback_ms in
    rw (e, l) (
    any_later h own c.in-Some.spot c.next.new.self (sym (rw (e, l) at c.starts_within.ensures) ∙ c.if-starts_within.false)
    ∙ ap (λ s. list_any own (spans_named h s)) (sym c.in-Some.ensures.steps) ∙ (rw (e, l) at c.loop-spot.invariant))

pub returns : goal.returns
returns c =
    let e = to_z-of_z w64 c.args.end_ms c.ranges.end_ms in
    let l = to_z-of_z w64 c.args.lookback_ms c.ranges.lookback_ms in
    any_end c.args.journal.now.held.entries (in_window c.args.end_ms c.args.lookback_ms) c.loop-spot.spot-iterator c.in-None.ensures.steps.0
    ∙ (rw (e, l) at c.loop-spot.invariant)
