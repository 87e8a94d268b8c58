use Rattle.std.proofs.Common.{◌≡◌, ◌∙◌, ◌∷◌, sym, ap, [], List, Some}
use Rattle.std.specs.List.{list_any, cons_option}
use Rattle.std.proofs.lemmas.Result.{IfOk-weaker}
use Rattle.trace_model.specs.declared.entry.Entry.{Entry}
use Rattle.trace_model.specs.declared.query.Find.{Find}
use Rattle.trace_model.specs.Searching.{matches}
use Rattle.trace_model.specs.BorrowedSpans.{seen}
use Rattle.trace_assembly.specs.LocatedSpans.{span_at}
use Rattle.trace_model.specs.BorrowedSpans.{placed_by_its_entry}
use Rattle.collected_traces.specs.EntriesAtPlaces.{spans_named}
use Rattle.collected_traces.proofs.ParentReferences.{matches-adopted}
use Rattle.collected_traces.proofs.TakenSpans.{or_same}
use Rattle.journal_traces.proofs.judging.Judging.is_match_at.Goals as goal

pub is_match-requires : goal.is_match-requires
is_match-requires c =
    let s = c.in-Some.seen in
    let at : Some (placed_by_its_entry s) ≡ span_at c.args.self.now.1 c.args.spot =
    c.in-Some.ensures ∙ ap (λ (j : Find × List Entry). span_at j.1 c.args.spot) c.self.view_is in
    at

pub returns-in-Some : goal.returns-in-Some
returns-in-Some c =
    let q = c.args.self.now.0 in
    let h = c.args.self.now.1 in
    let s = c.in-Some.seen in
    let at : Some (placed_by_its_entry s) ≡ span_at h c.args.spot =
    c.in-Some.ensures ∙ ap (λ (j : Find × List Entry). span_at j.1 c.args.spot) c.self.view_is in
    IfOk-weaker c.is_match.result (λ b. b ≡ matches q (seen s)) (λ b. b ≡ list_any (matches q) (spans_named h (c.args.spot ∷ [])))
    (λ b e. e ∙ sym (matches-adopted q (seen s)) ∙ or_same (matches q (placed_by_its_entry s)) ∙ ap (λ o. list_any (matches q) (cons_option o [])) at)
    c.is_match.ensures
