use Rattle.std.proofs.Common.{◌∙◌, sym, arith, ◌<◌, length}
use Rattle.trace_ring.proofs.RingPlaces.{row_within}
use Rattle.journal_traces.proofs.TraceMarks.{marked_put, marked_absent}
use Rattle.journal_traces.proofs.search_candidates.mark_trace.Goals as goal

pub returns-in-Some : goal.returns-in-Some
returns-in-Some c = λ p before. marked_put p c.args.ring.now.ids c.args.trace c.in-Some.index c.args.marks.now c.requires.once (sym c.in-Some.ensures) before

pub returns-in_default : goal.returns-in_default
returns-in_default c = λ p before. before ∙ marked_absent p c.args.ring.now.ids c.args.trace (sym c.in_default.ensures)

pub bounds-marks-index : goal.bounds-marks-index
bounds-marks-index c =
    let below : c.in-Some.index < length c.args.ring.now.ids = row_within c.args.trace c.args.ring.now.ids c.in-Some.index (sym c.in-Some.ensures) in
    omega arith
