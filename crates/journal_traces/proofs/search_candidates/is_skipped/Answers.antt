use Rattle.std.proofs.Common.{◌≡◌, ◌∙◌, [], sym}
use Rattle.std.proofs.lemmas.Bool.{OnTrue_from, OnFalse_from, not-true, not-false}
use Rattle.trace_model.specs.Places.{entry_at}
use Rattle.journal_traces.specs.MatchingSpans.{met_or_none, without_tags, near_at}
use Rattle.collected_traces.specs.EntriesAtPlaces.{batch_at}
use Rattle.journal_traces.proofs.NearMatches.{passed_near, looked_near, none_near}
use Rattle.journal_traces.proofs.search_candidates.is_skipped.Goals as goal

pub returns-in-Some-clause-passed : goal.returns-in-Some-clause-passed
returns-in-Some-clause-passed c =
    let q = c.args.filter.now in
    let h = c.args.journal.now.held.entries in
    OnTrue_from _ (near_at q h c.args.place ≡ [])
    (λ no. passed_near q (entry_at h c.args.place) c.in-Some.outline (sym c.in-Some.is ∙ c.outline.ensures)
    (sym c.may_meet.ensures ∙ not-true c.may_meet.result no))

pub returns-in-Some-clause-looked_at : goal.returns-in-Some-clause-looked_at
returns-in-Some-clause-looked_at c =
    let q = c.args.filter.now in
    let h = c.args.journal.now.held.entries in
    OnFalse_from _ (near_at q h c.args.place ≡ met_or_none (without_tags q) (batch_at h c.args.place))
    (λ yes. looked_near q (entry_at h c.args.place) c.in-Some.outline (sym c.in-Some.is ∙ c.outline.ensures)
    (sym c.may_meet.ensures ∙ not-false c.may_meet.result yes))

pub returns-in-None-clause-passed : goal.returns-in-None-clause-passed
returns-in-None-clause-passed c = none_near c.args.filter.now (entry_at c.args.journal.now.held.entries c.args.place) (sym c.in-None.is ∙ c.outline.ensures)
