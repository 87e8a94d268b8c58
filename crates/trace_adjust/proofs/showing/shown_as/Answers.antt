use Rattle.std.proofs.Common.{◌∙◌, sym, subst}
use Rattle.trace_model.specs.Adjusting.{spans_of}
use Rattle.trace_model.specs.SharedProcesses.{ShareProcesses}
use Rattle.trace_model.proofs.SharingShown.{adjusted_shares, unadjusted_shares}
use Rattle.trace_adjust.proofs.showing.shown_as.Goals as goal

pub new-requires : goal.new-requires
new-requires c =
    subst (λ ss. ShareProcesses (spans_of ss) c.args.process_keys.items) (sym c.in_ok-shown.ensures)
    (unadjusted_shares c.args.spans.items c.args.process_keys.items c.requires)

pub new-requires-2 : goal.new-requires-2
new-requires-2 c =
    subst (λ ss. ShareProcesses (spans_of ss) c.args.process_keys.items) (sym (c.from_vec.ensures ∙ c.in_ok-shown-2.ensures))
    (adjusted_shares c.args.max_skew c.args.spans.items c.args.process_keys.items c.requires)
