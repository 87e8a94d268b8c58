use Rattle.std.proofs.Common.{◌≡◌, ◌∙◌, ◌++◌, ◌∷◌, [], ◌+◌, List, Option, None, map, drop, get_or, ap, sym, subst}
use Rattle.std.specs.Prelude.{IfSome}
use Rattle.std.specs.Option.{option_and_then}
use Rattle.trace_model.specs.TakenSpans.{Taken, placed_taken}
use Rattle.trace_assembly.specs.LocatedSpans.{span_at}
use Rattle.trace_assembly.specs.declared.spot.Spot.{Spot}
use Rattle.collected_traces.specs.declared.taken_spot.TakenSpot.{TakenSpot}
use Rattle.collected_traces.specs.TakenTraces.{HasProcess}
use Rattle.collected_traces.specs.CollectedCandidates.{entries_shared, process_numbered, spot_of}
use Rattle.collected_traces.proofs.TracesAtSpots.{spots_left, no_spots_left, spots_named}
use Rattle.collected_traces.proofs.TakingSpans.{IsTaking, taking_more, taking_over, taken_spans, taken_numbers}
use Rattle.collected_traces.proofs.collected_spans.take_spots.Goals as goal
use Rattle.collected_traces.proofs.collected_spans.take_spots.Goals.{in-Some+in_ok-push-in-Some, in-None}

pub loop-spot-preserved : goal.loop-spot-preserved
loop-spot-preserved c =
    let es = entries_shared c.args.entries.now in
    let ss = c.args.spots.now in
    let i = c.loop-spot.spot-index in
    let d : TakenSpot = record { number = 0; index = 0 } in
    let s = get_or ss i d in
    let P : Taken → Type 0 = HasProcess (process_numbered es) in
    let left : List Spot = map spot_of (drop i ss) in
    let rest : List Spot = map spot_of (drop (i + 1) ss) in
    let all : List Spot = map spot_of ss in
    let old : List (List Taken) = c.args.traces.now in
    let G : List (List Taken) → Type 0 = λ now. IsTaking P es old now rest all in
    let steps : left ≡ spot_of s ∷ rest = spots_left ss i d c.loop-spot-test.true in
    elim c.match-branch-3.branch [
      | in-Some+in_ok-push-in-Some w ↦
          let x : Taken = w.in-Some.span in
          let at : x.span ≡ span_at es (spot_of s) = ap (option_and_then (λ (t : Taken). t.span)) (sym w.in-Some.is) ∙ c.in_ok-span.ensures.span in
          let number = subst (λ (o : Option Taken). IfSome o P) w.in-Some.is c.in_ok-span.ensures.number in
          subst G (sym w.traces-is) (taking_more P es old c.loop-spot.traces w.push.new.self (spot_of s)
          left rest all x steps at number w.in_ok-push-in-Some.ensures c.loop-spot.invariant)
      | in-None w ↦
          let none : None ≡ span_at es (spot_of s) = ap (option_and_then (λ (t : Taken). t.span)) (sym w.in-None.is) ∙ c.in_ok-span.ensures.span in
          subst G (sym w.traces-is) (taking_over P es old c.loop-spot.traces (spot_of s) left rest all steps none c.loop-spot.invariant)
    ]

pub returns-clause-spans : goal.returns-clause-spans
returns-clause-spans c =
    let es = entries_shared c.args.entries.now in
    let ss = c.args.spots.now in
    taken_spans (HasProcess (process_numbered es)) es c.args.traces.now c.loop-spot.traces (map spot_of (drop c.loop-spot.spot-index ss)) (map spot_of ss)
    (no_spots_left ss c.loop-spot.spot-index c.loop-spot-test.false) c.loop-spot.invariant
    ∙ ap (λ l. map placed_taken c.args.traces.now ++ l ∷ []) (spots_named es ss)

pub returns-clause-numbers : goal.returns-clause-numbers
returns-clause-numbers c =
    let es = entries_shared c.args.entries.now in
    let ss = c.args.spots.now in
    taken_numbers (HasProcess (process_numbered es)) es c.args.traces.now c.loop-spot.traces (map spot_of (drop c.loop-spot.spot-index ss)) (map spot_of ss)
    c.loop-spot.invariant
