use Rattle.std.proofs.Common.{◌≡◌, ◌∙◌, ℕ, ◌+◌, ◌<◌, ◌||◌, length, ap, refl, sym, take, get_or, true, Some, arith}
use Rattle.std.specs.Prelude.{option_map}
use Rattle.std.proofs.lemmas.Option.{slice_get_read}
use Rattle.journal_traces.specs.SpansAtSpots.{placed_in}
use Rattle.collected_traces.specs.ProcessConditions.{meets}
use Rattle.journal_traces.specs.MatchingSpans.{any_of, met, without_tags, same_before}
use Rattle.journal_traces.proofs.TraceMarks.{marked_none, marked_more, marked_again, marked_all, reached_own, reached_still, news, no_news, before_is}
use Rattle.journal_traces.proofs.search_candidates.mark_spans.Goals as goal
use Rattle.journal_traces.proofs.search_candidates.mark_spans.Goals.{then-is_new_match, else-is_new_match}

pub loop-span-init : goal.loop-span-init
loop-span-init c = record {
  at = refl;
  marks = λ p e. e ∙ marked_none p c.args.ring.now.ids;
  before = λ t e. absurd cc;
}

pub loop-span-preserved : goal.loop-span-preserved
loop-span-preserved c =
    let q = without_tags c.args.conditions.now.0 in
    let o = c.args.process.now in
    let ss = c.args.spans.now in
    let i = c.loop-span.span-index in
    let s = c.span-item.result in
    let le = c.loop-span-test.true in
    let is : s ≡ get_or ss i s = c.span-item.is in
    let r = c.args.ring.now.ids in
    let again = same_before c.loop-span.before s.trace in
    elim c.if-is_new_match.branch [
      | then-is_new_match w ↦
          let meeting : meets q o s ≡ true = news again (meets q o s) (sym c.is_new_match-is_new_match.ensures ∙ w.if-is_new_match.true) in
          record {
            at = ap (λ (k : ℕ). k + 1) c.loop-span.invariant.at;
            marks =
                λ p e. w.marks-is ∙ w.mark_trace.ensures (λ t. p t || any_of (met q o (take i ss)) t) (c.loop-span.invariant.marks p e)
                ∙ marked_more q o ss i s le is p r meeting;
            before = λ t e. let own : Some s.trace ≡ Some t = sym w.before-is ∙ e in reached_own q o ss i s le is t meeting (cc own);
          }
      | else-is_new_match w ↦
          let there : meets q o s ≡ true → any_of (met q o (take i ss)) s.trace ≡ true =
          λ m. c.loop-span.invariant.before s.trace
          (before_is c.loop-span.before s.trace (no_news again (meets q o s) (sym c.is_new_match-is_new_match.ensures ∙ w.if-is_new_match.false) m)) in
          record {
            at = ap (λ (k : ℕ). k + 1) c.loop-span.invariant.at;
            marks = λ p e. w.marks-is ∙ c.loop-span.invariant.marks p e ∙ marked_again q o ss i s le is p r there;
            before = λ t e. reached_still q o ss i s le is t there (c.loop-span.invariant.before t (sym w.before-is ∙ e));
          }
    ]

pub is_new_match-is_new_match-requires-clause-there : goal.is_new_match-is_new_match-requires-clause-there
is_new_match-is_new_match-requires-clause-there c =
    let place = c.args.place in
    let o = c.args.process.now in
    let ss = c.args.spans.now in
    let s = c.span-item.result in
    let index = c.loop-span.index in
    let h = c.args.conditions.now.1 in
    let below : index < length ss = omega (arith, c.loop-span-test.true, c.loop-span.invariant.at) in
    let is : s ≡ get_or ss index s = c.span-item.is ∙ ap (λ (k : ℕ). get_or ss k s) (sym c.loop-span.invariant.at) in
    ap (option_map (placed_in o)) (sym (slice_get_read ss (length ss) index s refl below is)) ∙ c.requires.there index

pub returns : goal.returns
returns c =
    λ p e. c.loop-span.invariant.marks p e
    ∙ marked_all (without_tags c.args.conditions.now.0) c.args.process.now p c.args.ring.now.ids c.args.spans.now c.loop-span.span-index c.loop-span-test.false
