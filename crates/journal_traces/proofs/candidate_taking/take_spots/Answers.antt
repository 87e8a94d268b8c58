use Rattle.std.proofs.Common.{◌∙◌, sym, subst, List}
use Rattle.trace_model.specs.declared.entry.Entry.{Entry}
use Rattle.trace_assembly.specs.declared.spot.Spot.{Spot}
use Rattle.journal_traces.specs.Numbered.{AreNumbers}
use Rattle.journal_traces.proofs.AddedSpans.{Anything, taking_added}
use Rattle.collected_traces.proofs.TakingSpans.{IsTaking, taking_none}
use Rattle.journal_traces.proofs.candidate_taking.take_spots.Goals as goal

pub loop-spot-init : goal.loop-spot-init
loop-spot-init c =
    let h = c.args.matcher.now.journal.now.held.entries in
    let old = c.args.taken.now.traces in
    let now = c.begin.new.self.traces in
    let numbered : List Entry → Type 0 = λ es. AreNumbers h es c.args.numbers.now in
    let left : List Spot → Type 0 = λ ss. IsTaking Anything h old now ss c.args.spots in
    record {
      numbers = subst numbered (sym c.begin.ensures.entries) c.requires.numbers;
      query = c.begin.ensures.query;
      taking = subst left (sym c.into_iter-spot-iterator.ensures.into_iter_gives) (taking_none Anything h old now c.args.spots c.in_ok-begin.ensures.traces);
    }

pub loop-spot-preserved : goal.loop-spot-preserved
loop-spot-preserved c =
    let h = c.args.matcher.now.journal.now.held.entries in
    record {
      numbers = c.in_ok-take_spot.ensures.numbers;
      query = c.take_spot.ensures.query ∙ c.loop-spot.invariant.query;
      taking =
          taking_added h c.args.taken.now.traces c.loop-spot.taken.traces c.take_spot.new.taken.traces c.in-Some.spot c.loop-spot.spot-iterator c.next.new.self
          c.args.spots c.in-Some.ensures.steps c.in_ok-take_spot.ensures.traces c.loop-spot.invariant.taking;
    }
