use Rattle.std.proofs.Common.{◌∙◌, sym, ap}
use Rattle.std.specs.List.{list_any}
use Rattle.trace_model.specs.Searching.{matches}
use Rattle.collected_traces.specs.declared.taken_spot.TakenSpot.{TakenSpot}
use Rattle.collected_traces.specs.CollectedCandidates.{entries_shared}
use Rattle.collected_traces.specs.EntriesAtPlaces.{spans_named}
use Rattle.collected_traces.proofs.TracesAtSpots.{any_left, any_now, no_spots_left, spots_named}
use Rattle.collected_traces.proofs.taken_search.is_found.Goals as goal

pub loop-spot-init : goal.loop-spot-init
loop-spot-init c = record {
  any = ap (list_any (matches c.args.prepared.now)) (spots_named (entries_shared c.args.entries.now) c.args.spots.now);
  searching = c.requires;
}

pub loop-spot-preserved : goal.loop-spot-preserved
loop-spot-preserved c =
    let d : TakenSpot = record { number = 0; index = 0 } in
    record {
      any =
          any_left c.args.prepared.now (entries_shared c.args.entries.now) c.args.spots.now c.loop-spot.spot-index d c.loop-spot-test.true
          (sym c.in_ok-is_match.ensures.found ∙ c.if-is_match.false) ∙ c.loop-spot.invariant.any;
      searching = c.is_match.ensures.searching;
    }

pub returns-then-is_match-clause-found : goal.returns-then-is_match-clause-found
returns-then-is_match-clause-found c =
    let d : TakenSpot = record { number = 0; index = 0 } in
    any_now c.args.prepared.now (entries_shared c.args.entries.now) c.args.spots.now c.loop-spot.spot-index d c.loop-spot-test.true
    (sym c.in_ok-is_match.ensures.found ∙ c.if-is_match.true) ∙ c.loop-spot.invariant.any

pub returns-clause-found : goal.returns-clause-found
returns-clause-found c =
    ap (λ l. list_any (matches c.args.prepared.now) (spans_named (entries_shared c.args.entries.now) l))
    (sym (no_spots_left c.args.spots.now c.loop-spot.spot-index c.loop-spot-test.false)) ∙ c.loop-spot.invariant.any
