use Rattle.std.proofs.Common.{◌∙◌, [], length, sym, ap, subst}
use Rattle.trace_model.specs.Adjusting.{spans_of, shown_adjusted}
use Rattle.trace_model.specs.SharedProcesses.{ShareProcesses}
use Rattle.trace_adjust.proofs.ShiftedSpans.{as_many_shown}
use Rattle.trace_adjust.proofs.skew.adjust_skew.Goals as goal

pub all_shifted-requires : goal.all_shifted-requires
all_shifted-requires c = subst (λ ss. ShareProcesses (spans_of ss) c.args.process_keys.now) (sym c.in_ok-copies_of.ensures) c.requires

pub swap_with_slice-requires : goal.swap_with_slice-requires
swap_with_slice-requires c =
    let trace = c.args.trace.now in
    sym (
    ap length (c.deref_mut.ensures.value ∙ c.in_ok-shifted.ensures ∙ ap (shown_adjusted c.args.max_skew) c.in_ok-copies_of.ensures)
    ∙ as_many_shown c.args.max_skew (spans_of trace) [] trace)

pub returns-clause-ok : goal.returns-clause-ok
returns-clause-ok c =
    c.swap_with_slice.ensures.after ∙ c.deref_mut.ensures.value ∙ c.in_ok-shifted.ensures ∙ ap (shown_adjusted c.args.max_skew) c.in_ok-copies_of.ensures
