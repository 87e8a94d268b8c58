use Rattle.std.proofs.Common.{◌∙◌, sym, ap}
use Rattle.std.specs.Prelude.{slice_get}
use Rattle.collected_traces.specs.EntriesAtPlaces.{spans_named}
use Rattle.collected_traces.proofs.EntriesAtPlaces.{first_none}
use Rattle.journal_traces.proofs.spotted_spans.first_seen.Goals as goal

pub loop-spot-preserved : goal.loop-spot-preserved
loop-spot-preserved c =
    let h = c.args.journal.now.held.entries in
    first_none h c.in-Some.spot c.next.new.self (sym c.in_default.ensures) ∙ ap (λ l. slice_get (spans_named h l) 0) (sym c.in-Some.ensures.steps)
    ∙ c.loop-spot.invariant

pub returns : goal.returns
returns c = ap (λ l. slice_get (spans_named c.args.journal.now.held.entries l) 0) (sym c.in-None.ensures.steps.0) ∙ c.loop-spot.invariant
