use Rattle.std.proofs.Common.{sym, subst, List}
use Rattle.trace_assembly.specs.declared.spot.Spot.{Spot}
use Rattle.journal_traces.specs.WindowTraces.{traces_reported}
use Rattle.journal_traces.proofs.AddedSpans.{Anything, taking_added}
use Rattle.collected_traces.proofs.TakingSpans.{IsTaking, taking_none}
use Rattle.journal_traces.proofs.TracesOfWindows.{begun_known, begun_traces}
use Rattle.journal_traces.proofs.window_taking.take_spots.Goals as goal

pub loop-spot-init : goal.loop-spot-init
loop-spot-init c =
    let h = c.args.store.journal.now.held.entries in
    let old = c.args.taken.now in
    let now = c.begin.new.taken in
    let left : List Spot → Type 0 = λ ss. IsTaking Anything h (traces_reported old) (traces_reported now) ss c.args.spots in
    let begun = begun_traces h old now c.args.numbers.now c.requires.taken c.begin.ensures.entries c.begin.ensures.spots c.in_ok-begin.ensures.starts in
    record {
      taken = begun_known h old now c.args.numbers.now c.requires.taken c.begin.ensures.entries c.begin.ensures.spots c.in_ok-begin.ensures.starts;
      taking =
          subst left (sym c.into_iter-spot-iterator.ensures.into_iter_gives)
          (taking_none Anything h (traces_reported old) (traces_reported now) c.args.spots begun);
    }

pub loop-spot-preserved : goal.loop-spot-preserved
loop-spot-preserved c =
    let h = c.args.store.journal.now.held.entries in
    record {
      taken = c.in_ok-take_spot.ensures.taken;
      taking =
          taking_added h (traces_reported c.args.taken.now) (traces_reported c.loop-spot.taken) (traces_reported c.take_spot.new.taken)
          c.in-Some.spot c.loop-spot.spot-iterator c.next.new.self c.args.spots c.in-Some.ensures.steps c.in_ok-take_spot.ensures.traces
          c.loop-spot.invariant.taking;
    }
