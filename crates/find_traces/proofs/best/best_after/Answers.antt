use Rattle.std.proofs.Common.{◌≡◌, ◌+◌, ◌-◌, ◌<◌, ◌≤◌, true, false, length, take, sym, ap, subst, ◌∙◌, arith}
use Rattle.std.specs.Prelude.{filter}
use Rattle.std.specs.Bool.{OnTrue, OnFalse}
use Rattle.std.specs.BTreeSet.{insert_key}
use Rattle.find_traces.specs.FoundIndices.{trace_at}
use Rattle.find_traces.specs.Keys.{key_of, reversed, reverse_key_of, reverse_key_cmp}
use Rattle.find_traces.specs.BestKeys.{is_match_after}
use Rattle.find_traces.proofs.OfferedKeys.{best_of, is_wanted, from_place, match_offered, none_offered}
use Rattle.find_traces.proofs.LimitedAnswers.{wanted_ranked}
use Rattle.find_traces.proofs.best.best_after.Goals as goal

pub loop-index-preserved-in-Continue-branch-2 : goal.loop-index-preserved-in-Continue-branch-2
loop-index-preserved-in-Continue-branch-2 g c =
    let q = g.T.Searched.query c.args.traces.now in
    let ts = g.T.Searched.traces c.args.traces.now in
    let i = c.loop-index.index - 1 in
    let back : i + 1 ≡ c.loop-index.index = omega (arith, c.loop-index-test.true) in
    let below : i < length ts = omega (arith, c.loop-index-test.true, c.loop-index.auto.index, c.count-index.ensures) in
    let was = c.loop-index.invariant in
    let n = c.args.limit in
    let old = c.loop-index.best.keys.keys in
    let kept = was.keys ∙ ap (λ p. take n (best_of (filter (is_wanted q ts c.args.last) (from_place ts p)))) (sym back) in
    let key = c.key_at-key.ensures ∙ ap (λ l. key_of (i, trace_at l i)) was.same_traces in
    let is_later =
    is_match_after (g.T.Searched.query c.loop-index.traces) (g.T.Searched.traces c.loop-index.traces) c.args.last (reversed c.key_at-key.result) in
    let chosen = subst (λ b. OnTrue b (is_later ≡ true)) c.if-branch.true c.in_ok-is_chosen.ensures.chosen in
    let wanted : is_wanted q ts c.args.last (i, trace_at ts i) ≡ true =
    sym (λ j. is_match_after (was.same_query j) (was.same_traces j) c.args.last (reversed (key j))) ∙ chosen in
    record {
      keys =
          c.in_ok-offer.ensures.keys
          ∙ (λ j. take (was.limit j) (insert_key reverse_key_cmp old (reversed (key j))))
          ∙ match_offered q ts c.args.last n old i below kept wanted;
      limit = c.in_ok-offer.ensures.limit ∙ was.limit;
      same_traces = c.in_ok-is_chosen.ensures.same_traces ∙ was.same_traces;
      same_query = c.in_ok-is_chosen.ensures.same_query ∙ was.same_query;
    }

pub loop-index-preserved : goal.loop-index-preserved
loop-index-preserved g c =
    let q = g.T.Searched.query c.args.traces.now in
    let ts = g.T.Searched.traces c.args.traces.now in
    let i = c.loop-index.index - 1 in
    let back : i + 1 ≡ c.loop-index.index = omega (arith, c.loop-index-test.true) in
    let below : i < length ts = omega (arith, c.loop-index-test.true, c.loop-index.auto.index, c.count-index.ensures) in
    let was = c.loop-index.invariant in
    let n = c.args.limit in
    let old = c.loop-index.best.keys.keys in
    let kept = was.keys ∙ ap (λ p. take n (best_of (filter (is_wanted q ts c.args.last) (from_place ts p)))) (sym back) in
    let key = c.key_at-key.ensures ∙ ap (λ l. key_of (i, trace_at l i)) was.same_traces in
    let is_later =
    is_match_after (g.T.Searched.query c.loop-index.traces) (g.T.Searched.traces c.loop-index.traces) c.args.last (reversed c.key_at-key.result) in
    let left =
    subst (λ b. OnFalse b (is_later ≡ true → take c.loop-index.best.limit (insert_key reverse_key_cmp old (reversed c.key_at-key.result)) ≡ old))
    c.if-branch.false c.in_ok-is_chosen.ensures.left in
    let same : is_wanted q ts c.args.last (i, trace_at ts i) ≡ true
    → take n (insert_key reverse_key_cmp old (reverse_key_of (i, trace_at ts i))) ≡ old = λ wanted.
    sym (λ j. take (was.limit j) (insert_key reverse_key_cmp old (reversed (key j))))
    ∙ left ((λ j. is_match_after (was.same_query j) (was.same_traces j) c.args.last (reversed (key j))) ∙ wanted) in
    record {
      keys = none_offered q ts c.args.last n old i below kept same;
      limit = was.limit;
      same_traces = c.in_ok-is_chosen.ensures.same_traces ∙ was.same_traces;
      same_query = c.in_ok-is_chosen.ensures.same_query ∙ was.same_query;
    }

pub returns-clause-keys : goal.returns-clause-keys
returns-clause-keys g c =
    let q = g.T.Searched.query c.args.traces.now in
    let ts = g.T.Searched.traces c.args.traces.now in
    let none : c.loop-index.index ≡ 0 = omega (arith, c.loop-index-test.false) in
    c.loop-index.invariant.keys
    ∙ ap (λ p. take c.args.limit (best_of (filter (is_wanted q ts c.args.last) (from_place ts p)))) none
    ∙ ap (take c.args.limit) (wanted_ranked q ts c.args.last)
