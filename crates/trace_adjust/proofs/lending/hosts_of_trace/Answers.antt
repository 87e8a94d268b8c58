use Rattle.std.proofs.Common.{◌∙◌, ap, map, sym, subst}
use Rattle.trace_model.specs.Adjusting.{with_parent_first}
use Rattle.trace_model.specs.TakenSpans.{numbers_taken, placed_taken}
use Rattle.trace_model.specs.SharedProcesses.{ShareProcesses}
use Rattle.trace_model.proofs.SharingShown.{lent_shares}
use Rattle.trace_adjust.proofs.lending.hosts_of_trace.Goals as goal

pub host_numbers-requires : goal.host_numbers-requires
host_numbers-requires c =
    let ts = c.args.trace.now.spans.items in
    let spans = placed_taken ts in
    subst (λ ps. ShareProcesses ps c.deref-2.result.now) (sym c.requires.lent)
    (subst (ShareProcesses (map with_parent_first spans))
    (sym (c.deref-2.ensures.value ∙ c.in_ok-keys.ensures ∙ ap numbers_taken c.deref.ensures.value)) (lent_shares spans (numbers_taken ts) c.requires.shares))
