use Rattle.std.proofs.Common.{◌∙◌, sym, ap}
use Rattle.std.specs.List.{list_any}
use Rattle.trace_model.specs.Searching.{matches}
use Rattle.collected_traces.specs.EntriesAtPlaces.{spans_named}
use Rattle.collected_traces.proofs.EntriesAtPlaces.{any_here, any_later}
use Rattle.journal_traces.proofs.SpansAtSpots.{any_end}
use Rattle.journal_traces.proofs.spotted_spans.is_found.Goals as goal

pub loop-spot-preserved : goal.loop-spot-preserved
loop-spot-preserved c =
    let h = c.args.judging.now.1 in
    let own = matches c.args.judging.now.0 in
    any_later h own c.in-Some.spot c.next.new.self (sym c.in_ok-is_match.ensures ∙ c.if-is_match.false)
    ∙ ap (λ l. list_any own (spans_named h l)) (sym c.in-Some.ensures.steps) ∙ c.loop-spot.invariant

pub returns-then-is_match : goal.returns-then-is_match
returns-then-is_match c =
    let h = c.args.judging.now.1 in
    let own = matches c.args.judging.now.0 in
    any_here h own c.in-Some.spot c.next.new.self (sym c.in_ok-is_match.ensures ∙ c.if-is_match.true)
    ∙ ap (λ l. list_any own (spans_named h l)) (sym c.in-Some.ensures.steps) ∙ c.loop-spot.invariant

pub returns : goal.returns
returns c =
    any_end c.args.judging.now.1 (matches c.args.judging.now.0) c.loop-spot.spot-iterator c.in-None.ensures.steps.0 ∙ c.loop-spot.invariant
