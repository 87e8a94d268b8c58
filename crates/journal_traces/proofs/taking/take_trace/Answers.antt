use Rattle.std.proofs.Common.{◌∙◌, ◌≡◌, Option, sym, subst, ap}
use Rattle.std.specs.Prelude.{IfSome}
use Rattle.std.specs.Option.{option_and_then}
use Rattle.trace_model.specs.TakenSpans.{Taken}
use Rattle.trace_assembly.specs.LocatedSpans.{span_at}
use Rattle.collected_traces.specs.EntriesAtPlaces.{process_at}
use Rattle.collected_traces.specs.TakenTraces.{HasProcess}
use Rattle.collected_traces.proofs.TakingSpans.{taking_more}
use Rattle.journal_traces.proofs.taking.take_trace.Goals as goal

pub loop-spot-preserved-in-Continue-branch-4 : goal.loop-spot-preserved-in-Continue-branch-4
loop-spot-preserved-in-Continue-branch-4 c =
    let h = c.args.journal.now.held.entries in
    let x = c.in-Some-2.span in
    let at : x.span ≡ span_at h c.in-Some.spot = ap (option_and_then (λ (t : Taken). t.span)) (sym c.in-Some-2.is) ∙ c.in_ok-span.ensures.span in
    let number = subst (λ (o : Option Taken). IfSome o (HasProcess (process_at h))) c.in-Some-2.is c.in_ok-span.ensures.number in
    taking_more (HasProcess (process_at h))
    h c.args.traces.now c.loop-spot.traces c.push.new.self c.in-Some.spot c.loop-spot.spot-iterator c.next.new.self c.args.spots x c.in-Some.ensures.steps
    at number c.in_ok-push.ensures c.loop-spot.invariant
