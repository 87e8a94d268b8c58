use Rattle.std.proofs.Common.{◌≡◌, ◌∙◌, ◌++◌, ◌∷◌, ◌<◌, [], Bool, List, get_or, sym, ap, length, arith}
use Rattle.jaeger_model.specs.declared.ids.TraceId.{TraceId}
use Rattle.trace_ring.specs.RingValues.{RingValue}
use Rattle.trace_assembly.specs.declared.spot.Spot.{Spot}
use Rattle.trace_assembly.specs.AssembledRows.{spots_of}
use Rattle.journal_traces.specs.ReportedSpots.{are_reported}
use Rattle.journal_traces.proofs.TraceMarks.{picked, passed}
use Rattle.journal_traces.proofs.SpansAtSpots.{no_id}
use Rattle.journal_traces.proofs.service_candidates.spots_reported.Goals as goal
use Rattle.journal_traces.proofs.service_candidates.spots_reported.Goals.{then-are_reported+in_ok-push, else-are_reported}

pub loop-index-preserved : goal.loop-index-preserved
loop-index-preserved c =
    let f = spots_of c.args.assembly.now in
    let own : List Spot → Bool = are_reported c.args.journal.now.held.entries c.args.by_service.now.service_numbers c.args.service_number in
    let p : TraceId → Bool = λ t. own (f t) in
    let ids = c.args.assembly.now.newest.ids in
    let i = c.loop-index.index in
    let le : i < length ids = omega (arith, c.loop-index-test.true, c.len-traces.ensures.length ∙ ap (λ (w : RingValue). length w.ids) c.ring.ensures) in
    let at : c.spots_at-spots.result ≡ f (get_or ids i no_id) = c.spots_at-spots.ensures in
    let read = c.are_reported.ensures ∙ ap own (c.duplicate.ensures ∙ at) in
    elim c.if-are_reported.branch [
      | then-are_reported+in_ok-push w ↦
          ap (λ v. v.items) w.found-is ∙ w.in_ok-push.ensures.items
          ∙ (λ j. c.loop-index.invariant j ++ at j ∷ []) ∙ sym (picked f p ids i no_id le (sym read ∙ w.if-are_reported.true))
      | else-are_reported w ↦ ap (λ v. v.items) w.found-is ∙ c.loop-index.invariant ∙ sym (passed f p ids i no_id le (sym read ∙ w.if-are_reported.false))
    ]
