use Rattle.std.proofs.Common.{◌∙◌, ◌++◌, ◌∷◌, ◌<◌, [], false, sym, ap, length, arith}
use Rattle.trace_ring.specs.RingValues.{RingValue}
use Rattle.trace_assembly.specs.AssembledRows.{spots_of}
use Rattle.journal_traces.proofs.TraceMarks.{mark_read, picked, passed}
use Rattle.journal_traces.proofs.SpansAtSpots.{no_id}
use Rattle.journal_traces.proofs.search_candidates.marked_spots.Goals as goal
use Rattle.journal_traces.proofs.search_candidates.marked_spots.Goals.{then-marks-index+in_ok-push, else-marks-index}

pub loop-index-preserved : goal.loop-index-preserved
loop-index-preserved c = λ p e.
    let f = spots_of c.args.assembly.now in
    let ids = c.args.assembly.now.newest.ids in
    let i = c.loop-index.index in
    let le : i < length ids = omega (arith, c.loop-index-test.true, c.len-index-end.ensures.length ∙ ap (λ (w : RingValue). length w.ids) c.ring.ensures) in
    let read = mark_read p ids c.args.marks.now i no_id false le e in
    elim c.if-marks-index.branch [
      | then-marks-index+in_ok-push w ↦
          ap (λ v. v.items) w.spots-is ∙ w.in_ok-push.ensures.items
          ∙ (λ j. c.loop-index.invariant p e j ++ w.spots_at.ensures j ∷ []) ∙ sym (picked f p ids i no_id le (sym read ∙ w.if-marks-index.true))
      | else-marks-index w ↦ ap (λ v. v.items) w.spots-is ∙ c.loop-index.invariant p e ∙ sym (passed f p ids i no_id le (sym read ∙ w.if-marks-index.false))
    ]
