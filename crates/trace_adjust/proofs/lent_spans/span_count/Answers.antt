use Rattle.std.proofs.Common.{arith, map}
use Rattle.std.proofs.lemmas.List.{length-map}
use Rattle.trace_model.specs.TakenSpans.{placed_taken}
use Rattle.trace_adjust.specs.LentSpans.{placed_as}
use Rattle.trace_adjust.proofs.Deltas.{length_shifted}
use Rattle.trace_adjust.proofs.ExistingSpans.{there_count}
use Rattle.trace_adjust.proofs.lent_spans.span_count.Goals as goal

pub returns : goal.returns
returns c = λ deltas.
    let m = c.args.trace.now in
    let ps = placed_taken m.spans.items in
    omega (
      arith,
      c.len.ensures,
      m.spans.ok.0,
      there_count m.spans.items c.requires,
      length-map ps (placed_as m.raw),
      length_shifted m.max_skew deltas (map (placed_as m.raw) ps),
    )
