use Rattle.std.proofs.Common.{◌≡◌, ◌∙◌, [], ◌∷◌, w64, sym, false}
use Rattle.std.specs.List.{list_any}
use Rattle.std.proofs.lemmas.Bool.{OnTrue_from, not-true}
use Rattle.std.proofs.lemmas.Int.{to_z-of_z}
use Rattle.trace_model.specs.ServiceLinks.{in_window}
use Rattle.collected_traces.specs.EntriesAtPlaces.{spans_named}
use Rattle.journal_traces.proofs.WindowBounds.{none_starts}
use Rattle.journal_traces.proofs.spotted_spans.is_outside.Goals as goal

pub returns-in-Some : goal.returns-in-Some
returns-in-Some c =
    let h = c.args.journal.now.held.entries in
    let e = to_z-of_z w64 c.args.end_ms c.ranges.end_ms in
    let l = to_z-of_z w64 c.args.lookback_ms c.ranges.lookback_ms in
    OnTrue_from _ (list_any (in_window c.args.end_ms c.args.lookback_ms) (spans_named h (c.args.spot ∷ [])) ≡ false)
    (λ no. none_starts c.args.end_ms c.args.lookback_ms h c.args.spot c.in-Some.outline (sym c.in-Some.is ∙ c.outline.ensures)
    (sym (rw (e, l) at c.may_reach.ensures) ∙ not-true c.may_reach.result no))
