use Rattle.std.proofs.Common.{◌∙◌, sym, ap, subst}
use Rattle.std.proofs.lemmas.Result.{IfOk-weaker}
use Rattle.trace_model.specs.Adjusting.{spans_of, with_parent_first, shown_adjusted}
use Rattle.std.specs.Prelude.{map}
use Rattle.trace_model.specs.SharedProcesses.{ShareProcesses}
use Rattle.trace_model.proofs.SharingShown.{first_shares}
use Rattle.trace_adjust.proofs.ShiftedSpans.{fresh}
use Rattle.trace_adjust.proofs.skew.adjusted.Goals as goal

pub all_shifted-requires : goal.all_shifted-requires
all_shifted-requires c =
    subst (λ ss. ShareProcesses (spans_of ss) c.args.process_keys.now) (sym c.in_ok-spans.ensures)
    (first_shares c.args.trace.items c.args.process_keys.now c.requires)

pub returns : goal.returns
returns c =
    IfOk-weaker c.all_shifted.result _ _ (λ v is.
    is ∙ ap (shown_adjusted c.args.max_skew) c.in_ok-spans.ensures ∙ fresh c.args.max_skew (map with_parent_first c.args.trace.items))
    c.all_shifted.ensures
