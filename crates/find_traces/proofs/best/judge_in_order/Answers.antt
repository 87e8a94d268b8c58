use Rattle.std.proofs.Common.{◌≡◌, List, [], ◌∷◌, ◌++◌, sym, ap, ◌∙◌}
use Rattle.std.specs.declared.cmp.Reverse.{Reverse}
use Rattle.find_traces.specs.declared.key.Key.{Key}
use Rattle.find_traces.specs.Keys.{found_at, reversed, reverse_key_index}
use Rattle.find_traces.specs.BestKeys.{is_match}
use Rattle.find_traces.proofs.LimitedAnswers.{one_more, one_match, no_match}
use Rattle.find_traces.proofs.best.judge_in_order.Goals as goal

pub loop-key-preserved-in-Continue-branch-3 : goal.loop-key-preserved-in-Continue-branch-3
loop-key-preserved-in-Continue-branch-3 g c =
    let p = is_match (g.T.Searched.query c.args.traces.now) (g.T.Searched.traces c.args.traces.now) in
    let i = c.loop-key.invariant in
    let x : Reverse Key = reversed c.in-Some.key in
    let left = c.pop.new.self.keys.keys in
    let split = i.all ∙ ap (λ l. i.judged ++ l) c.in-Some.ensures.best in
    let judged : c.in_ok-is_found_at.field-0 ≡ p x =
    c.in_ok-is_found_at.ensures.found ∙ (λ j. found_at (i.same_query j) (i.same_traces j) c.in-Some.key.index) in
    record {
      judged = i.judged ++ x ∷ [];
      all = one_more p reverse_key_index i.judged c.args.keys.keys.keys left x split;
      found =
          c.in_ok-push.ensures.items ∙ ap (λ l. l ++ c.in-Some.key.index ∷ []) i.found
          ∙ sym (one_match p reverse_key_index i.judged c.args.keys.keys.keys left x split (sym judged ∙ c.if-branch.true));
      same_traces = c.in_ok-is_found_at.ensures.same_traces ∙ i.same_traces;
      same_query = c.in_ok-is_found_at.ensures.same_query ∙ i.same_query;
    }

pub loop-key-preserved : goal.loop-key-preserved
loop-key-preserved g c =
    let p = is_match (g.T.Searched.query c.args.traces.now) (g.T.Searched.traces c.args.traces.now) in
    let i = c.loop-key.invariant in
    let x : Reverse Key = reversed c.in-Some.key in
    let left = c.pop.new.self.keys.keys in
    let split = i.all ∙ ap (λ l. i.judged ++ l) c.in-Some.ensures.best in
    let judged : c.in_ok-is_found_at.field-0 ≡ p x =
    c.in_ok-is_found_at.ensures.found ∙ (λ j. found_at (i.same_query j) (i.same_traces j) c.in-Some.key.index) in
    record {
      judged = i.judged ++ x ∷ [];
      all = one_more p reverse_key_index i.judged c.args.keys.keys.keys left x split;
      found = i.found ∙ sym (no_match p reverse_key_index i.judged c.args.keys.keys.keys left x split (sym judged ∙ c.if-branch.false));
      same_traces = c.in_ok-is_found_at.ensures.same_traces ∙ i.same_traces;
      same_query = c.in_ok-is_found_at.ensures.same_query ∙ i.same_query;
    }
