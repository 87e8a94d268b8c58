use Rattle.std.proofs.Common.{◌∙◌, ap, sym}
use Rattle.trace_adjust.specs.LentSpans.{shifted_all}
use Rattle.trace_adjust.proofs.Deltas.{all_zero, none_moves}
use Rattle.trace_adjust.proofs.lending.needed.Goals as goal

pub returns-then-are_zero : goal.returns-then-are_zero
returns-then-are_zero c = λ m ps.
    ap (λ ds. shifted_all m ds ps) c.new.ensures.items
    ∙ none_moves m c.args.deltas.items ps (ap all_zero (sym c.deref.ensures.value) ∙ sym c.are_zero.ensures ∙ c.if-are_zero.true)
