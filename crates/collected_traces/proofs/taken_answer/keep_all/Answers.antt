use Rattle.std.proofs.Common.{◌∙◌, ◌<◌, ◌≤◌, ◌++◌, ◌∷◌, [], List, map, take, length, sym, ap, arith}
use Rattle.std.proofs.lemmas.List.{length-map, map_push, take_all, take_more}
use Rattle.jaeger_model.specs.declared.placed.Placed.{Placed}
use Rattle.trace_model.specs.Adjusting.{adjusted}
use Rattle.trace_model.specs.declared.answer.Shown.{Shown}
use Rattle.trace_model.specs.TakenSpans.{placed_taken}
use Rattle.collected_traces.proofs.taken_answer.keep_all.Goals as goal

pub loop-index-init : goal.loop-index-init
loop-index-init c =
    let process_of = c.requires.process_of in
    record {
      kept = c.in_ok-kept.ensures.items;
      classes = record { process_of = process_of; each = c.requires.each; leads = c.of_recurring-classes.ensures process_of };
    }

pub loop-index-preserved : goal.loop-index-preserved
loop-index-preserved c =
    let xs : List (List Placed) = map placed_taken c.args.traces.now in
    let f : List Placed → List Shown = adjusted c.args.max_skew in
    let i = c.loop-index.index in
    let long = length-map c.args.traces.now placed_taken in
    let within : i < length xs = omega (arith, c.loop-index-test.true, c.count-index-end.ensures) in
    record {
      kept = c.in_ok-push.ensures.items
          ∙ (λ j. c.loop-index.invariant.kept j ++ c.in_ok-kept_at.ensures.trace j ∷ [])
          ∙ sym (ap (map f) (take_more xs i [] within) ∙ map_push f (take i xs) _);
      classes = c.in_ok-kept_at.ensures.classes;
    }

pub returns : goal.returns
returns c =
    let xs : List (List Placed) = map placed_taken c.args.traces.now in
    let long = length-map c.args.traces.now placed_taken in
    let all : length xs ≤ c.loop-index.index = omega (arith, c.loop-index-test.false, c.count-index-end.ensures) in
    c.loop-index.invariant.kept ∙ ap (map (adjusted c.args.max_skew)) (take_all c.loop-index.index xs all)
