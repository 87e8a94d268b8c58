use Rattle.std.proofs.Common.{◌≡◌, ◌∙◌, ◌++◌, List, sym, ap, subst, Some, None, Option}
use Rattle.std.specs.Prelude.{IfSome}
use Rattle.std.specs.Option.{option_and_then}
use Rattle.jaeger_model.specs.declared.placed.Placed.{Placed}
use Rattle.trace_model.specs.BorrowedSpans.{placed_by_its_entry}
use Rattle.trace_model.specs.TakenSpans.{Taken, placed_taken, numbers_taken}
use Rattle.trace_model.proofs.TakenSpans.{one_more}
use Rattle.trace_assembly.specs.LocatedSpans.{span_at}
use Rattle.collected_traces.specs.EntriesAtPlaces.{process_at, spans_named}
use Rattle.journal_traces.specs.SpansAtSpots.{AreReportedAt}
use Rattle.collected_traces.specs.TakenTraces.{HasProcess}
use Rattle.collected_traces.proofs.Processes.{leads_more}
use Rattle.journal_traces.proofs.SpansAtSpots.{named_some, named_none, named_end}
use Rattle.collected_traces.proofs.TakenSpans.{own_process}
use Rattle.journal_traces.proofs.gathering.gather.Goals as goal

pub loop-spot-preserved : goal.loop-spot-preserved
loop-spot-preserved c =
    let h = c.args.journal.now.held.entries in
    let done = placed_taken c.loop-spot.spans.items in
    let none : ◌≡◌ {A = Option Placed} (span_at h c.in-Some.spot) None =
    sym c.in_ok-span.ensures.span ∙ ap (option_and_then (λ (t : Taken). t.span)) c.in_default.is in
    record {
      spans =
          named_none h done c.in-Some.spot c.next.new.self none ∙ ap (λ l. done ++ spans_named h l) (sym c.in-Some.ensures.steps) ∙ c.loop-spot.invariant.spans;
      places = c.loop-spot.invariant.places;
    }

pub loop-spot-preserved-in-Continue-branch-4 : goal.loop-spot-preserved-in-Continue-branch-4
loop-spot-preserved-in-Continue-branch-4 c =
    let h = c.args.journal.now.held.entries in
    let ts = c.loop-spot.spans.items in
    let x = c.in-Some-2.span in
    let p = placed_by_its_entry c.reported-seen.result in
    let there : Some p ≡ x.span = c.reported-seen.ensures in
    let at : x.span ≡ span_at h c.in-Some.spot = ap (option_and_then (λ (t : Taken). t.span)) (sym c.in-Some-2.is) ∙ c.in_ok-span.ensures.span in
    let has = subst (λ (o : Option Taken). IfSome o (HasProcess (process_at h))) c.in-Some-2.is c.in_ok-span.ensures.number in
    let put = c.in_ok-push.ensures.items in
    record {
      spans =
          ap (λ l. placed_taken l ++ spans_named h c.next.new.self) put ∙ ap (λ ps. ps ++ spans_named h c.next.new.self) (one_more ts x p (sym there))
          ∙ named_some h (placed_taken ts) c.in-Some.spot c.next.new.self p (sym (there ∙ at))
          ∙ ap (λ l. placed_taken ts ++ spans_named h l) (sym c.in-Some.ensures.steps) ∙ c.loop-spot.invariant.spans;
      places =
          subst (λ (l : List Taken). AreReportedAt h (placed_taken l) (numbers_taken l)) (sym put)
          (leads_more (process_at h) ts x p (sym there) (own_process (process_at h) x p there has) c.loop-spot.invariant.places);
    }

pub returns-clause-spans : goal.returns-clause-spans
returns-clause-spans c =
    named_end c.args.journal.now.held.entries (placed_taken c.loop-spot.spans.items) c.loop-spot.spot-iterator c.in-None.ensures.steps.0
    ∙ c.loop-spot.invariant.spans
