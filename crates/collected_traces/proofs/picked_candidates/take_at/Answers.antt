use Rattle.std.proofs.Common.{◌≡◌, ◌∙◌, ◌++◌, ◌∷◌, [], List, map, ap, subst}
use Rattle.std.specs.Prelude.{OnOk}
use Rattle.jaeger_model.specs.declared.placed.Placed.{Placed}
use Rattle.trace_model.specs.declared.entry.Entry.{Entry}
use Rattle.trace_model.specs.TakenSpans.{placed_taken}
use Rattle.collected_traces.specs.CollectedCandidates.{trace_spotted, AreNumberedByEntry}
use Rattle.collected_traces.proofs.picked_candidates.take_at.Goals as goal

pub returns-clause-spans : goal.returns-clause-spans
returns-clause-spans c =
    let same = ap (λ es. placed_taken (trace_spotted es c.spots_picked-spots.result.now)) c.entries.ensures ∙ c.spots_picked-spots.ensures in
    subst (λ (t : List Placed). OnOk c.take_spots.result (map placed_taken c.take_spots.new.traces ≡ map placed_taken c.args.traces.now ++ t ∷ []))
    same c.take_spots.ensures.spans

pub returns-clause-numbers : goal.returns-clause-numbers
returns-clause-numbers c =
    subst (λ (es : List Entry). OnOk c.take_spots.result (AreNumberedByEntry es c.args.traces.now → AreNumberedByEntry es c.take_spots.new.traces))
    c.entries.ensures c.take_spots.ensures.numbers
