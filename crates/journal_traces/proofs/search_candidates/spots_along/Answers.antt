use Rattle.std.proofs.Common.{◌∙◌, ap, sym, Bool, length}
use Rattle.std.proofs.lemmas.List.{length-map}
use Rattle.jaeger_model.specs.declared.ids.TraceId.{TraceId}
use Rattle.journal_traces.specs.MatchingSpans.{any_of, near_along}
use Rattle.journal_traces.proofs.search_candidates.spots_along.Goals as goal

pub marked_spots-requires : goal.marked_spots-requires
marked_spots-requires c =
    let p : TraceId → Bool = any_of (near_along c.args.query.now c.args.store.journal.now.held.entries c.args.places) in
    sym (ap length (c.deref.ensures.value ∙ c.in_ok-marks.ensures) ∙ length-map c.args.store.assembly.now.newest.ids p)

pub returns : goal.returns
returns c =
    let p : TraceId → Bool = any_of (near_along c.args.query.now c.args.store.journal.now.held.entries c.args.places) in
    c.marked_spots.ensures p (c.deref.ensures.value ∙ c.in_ok-marks.ensures)
