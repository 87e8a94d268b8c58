use Rattle.std.proofs.Common.{◌≡◌, ◌∙◌, List, ap, subst, sym}
use Rattle.trace_model.specs.declared.answer.Shown.{Shown}
use Rattle.trace_model.specs.declared.answered_trace.KeptTrace.{KeptTrace}
use Rattle.trace_model.specs.Adjusting.{spans_of}
use Rattle.trace_model.specs.KeptTraces.{kept_value}
use Rattle.trace_model.specs.SharedProcesses.{ShareProcesses}
use Rattle.trace_model.specs.TakenSpans.{numbers_taken, placed_taken}
use Rattle.trace_model.proofs.SharingShown.{shown_shares}
use Rattle.trace_adjust.specs.LentSpans.{AreThere, shown_by_deltas}
use Rattle.trace_adjust.proofs.lending.lend.Goals as goal

pub of-requires : goal.of-requires
of-requires c =
    let t = c.args.trace.value in
    let keys = numbers_taken t.spans.items in
    let deltas = c.in_ok-deltas.deltas.items in
    let shown = shown_shares t.max_skew t.raw (placed_taken t.spans.items) keys c.requires in
    let are : shown_by_deltas t deltas ≡ kept_value t =
    subst (λ (kept : KeptTrace). shown_by_deltas kept deltas ≡ kept_value kept) c.deref-3.ensures c.in_ok-deltas.ensures in
    record {
      there = subst AreThere (c.deref-2.ensures.value ∙ ap (λ (kept : KeptTrace). kept.spans.items) c.deref.ensures) c.see_each.ensures;
      shares = subst (λ (ss : List Shown). ShareProcesses (spans_of ss) keys) (sym are) shown;
    }
