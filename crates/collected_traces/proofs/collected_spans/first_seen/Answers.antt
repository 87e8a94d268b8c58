use Rattle.std.proofs.Common.{◌∙◌, sym, ap}
use Rattle.std.specs.Prelude.{slice_get}
use Rattle.trace_model.specs.BorrowedSpans.{placed_by_its_entry}
use Rattle.collected_traces.specs.declared.taken_spot.TakenSpot.{TakenSpot}
use Rattle.collected_traces.specs.CollectedCandidates.{entries_shared}
use Rattle.collected_traces.specs.EntriesAtPlaces.{spans_named}
use Rattle.collected_traces.proofs.TracesAtSpots.{first_left, first_now, no_spots_left, spots_named}
use Rattle.collected_traces.proofs.collected_spans.first_seen.Goals as goal

pub loop-spot-init : goal.loop-spot-init
loop-spot-init c = ap (λ l. slice_get l 0) (spots_named (entries_shared c.args.entries.now) c.args.spots.now)

pub loop-spot-preserved : goal.loop-spot-preserved
loop-spot-preserved c =
    let d : TakenSpot = record { number = 0; index = 0 } in
    first_left (entries_shared c.args.entries.now) c.args.spots.now c.loop-spot.spot-index d c.loop-spot-test.true (sym c.in_default.ensures)
    ∙ c.loop-spot.invariant

pub returns-in-Some : goal.returns-in-Some
returns-in-Some c =
    let d : TakenSpot = record { number = 0; index = 0 } in
    first_now (entries_shared c.args.entries.now) c.args.spots.now c.loop-spot.spot-index d
    (placed_by_its_entry c.in-Some.seen) c.loop-spot-test.true c.in-Some.ensures ∙ c.loop-spot.invariant

pub returns : goal.returns
returns c =
    ap (λ l. slice_get (spans_named (entries_shared c.args.entries.now) l) 0)
    (sym (no_spots_left c.args.spots.now c.loop-spot.spot-index c.loop-spot-test.false)) ∙ c.loop-spot.invariant
