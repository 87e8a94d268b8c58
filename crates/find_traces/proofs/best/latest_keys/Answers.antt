use Rattle.std.proofs.Common.{◌≡◌, ◌+◌, ◌-◌, ◌<◌, length, take, sym, ap, subst, ◌∙◌, arith}
use Rattle.std.specs.Bool.{OnFalse}
use Rattle.std.specs.BTreeSet.{insert_key}
use Rattle.find_traces.specs.FoundIndices.{trace_at}
use Rattle.find_traces.specs.Keys.{reversed, reverse_key_cmp}
use Rattle.find_traces.proofs.OfferedKeys.{best_of, from_place, offered, one_before, all_after}
use Rattle.find_traces.proofs.best.latest_keys.Goals as goal

pub loop-index-preserved-then-would_keep_after : goal.loop-index-preserved-then-would_keep_after
loop-index-preserved-then-would_keep_after g c =
    let ts = g.T.Searched.traces c.args.traces.now in
    let i = c.loop-index.index - 1 in
    let back : i + 1 ≡ c.loop-index.index = omega (arith, c.loop-index-test.true) in
    let below : i < length ts = omega (arith, c.loop-index-test.true, c.loop-index.auto.index, c.count-index.ensures) in
    let was = c.loop-index.invariant in
    let n = c.args.limit in
    let old = c.loop-index.latest.keys.keys in
    let kept = was.keys ∙ ap (λ p. take n (best_of (from_place ts p))) (sym back) in
    record {
      keys =
          c.in_ok-offer.ensures.keys
          ∙ (λ j. take (was.limit j) (insert_key reverse_key_cmp old (reversed (c.key_at-key.ensures j))))
          ∙ offered n old (i, trace_at ts i) (from_place ts (i + 1)) (all_after ts i) kept
          ∙ ap (λ l. take n (best_of l)) (sym (one_before ts i below));
      limit = c.in_ok-offer.ensures.limit ∙ was.limit;
      worst = c.worst_if_full-worst.ensures;
    }

pub loop-index-preserved : goal.loop-index-preserved
loop-index-preserved g c =
    let ts = g.T.Searched.traces c.args.traces.now in
    let i = c.loop-index.index - 1 in
    let back : i + 1 ≡ c.loop-index.index = omega (arith, c.loop-index-test.true) in
    let below : i < length ts = omega (arith, c.loop-index-test.true, c.loop-index.auto.index, c.count-index.ensures) in
    let was = c.loop-index.invariant in
    let n = c.args.limit in
    let old = c.loop-index.latest.keys.keys in
    let kept = was.keys ∙ ap (λ p. take n (best_of (from_place ts p))) (sym back) in
    let left =
    subst (λ b. OnFalse b (take c.loop-index.latest.limit (insert_key reverse_key_cmp old (reversed c.key_at-key.result)) ≡ old))
    c.if-would_keep_after.false c.would_keep_after.ensures in
    record {
      keys =
          sym left
          ∙ (λ j. take (was.limit j) (insert_key reverse_key_cmp old (reversed (c.key_at-key.ensures j))))
          ∙ offered n old (i, trace_at ts i) (from_place ts (i + 1)) (all_after ts i) kept
          ∙ ap (λ l. take n (best_of l)) (sym (one_before ts i below));
      limit = was.limit;
      worst = was.worst;
    }
