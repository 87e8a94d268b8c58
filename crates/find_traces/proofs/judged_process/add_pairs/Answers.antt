use Rattle.std.proofs.Common.{◌∙◌}
use Rattle.jaeger_model.specs.Tags.{tag_text}
use Rattle.find_traces.specs.RequestedPairs.{pair_of, pairs_lent}
use Rattle.find_traces.proofs.RequestedPairs.{met_same, tag_more, wants_none}
use Rattle.find_traces.proofs.judged_process.add_pairs.Goals as goal
use Rattle.find_traces.proofs.judged_process.add_pairs.Goals.{then-may_request_key+in_ok-add_pair, else-may_request_key}

pub loop-tag-preserved : goal.loop-tag-preserved
loop-tag-preserved c = λ a.
    let q = c.args.prepared.now in
    let others = pairs_lent c.args.others.now.keys in
    let first = pairs_lent c.args.pairs.now.keys in
    let old = pairs_lent c.loop-tag.pairs.keys in
    let i = c.loop-tag.tag-index in
    let t = c.tag-item.result in
    let le = c.loop-tag-test.true in
    elim c.if-may_request_key.branch [
      | then-may_request_key+in_ok-add_pair w ↦
          rw w.pairs-is
          (tag_more q others (pairs_lent w.add_pair.new.pairs.keys) old first c.args.tags.now i t le c.tag-item.is a (w.in_ok-add_pair.ensures a)
          (c.loop-tag.invariant a))
      | else-may_request_key w ↦
          let absent = wants_none q others (pair_of t) (w.if-may_request_key.ensures (tag_text t.value)) in
          rw w.pairs-is
          (tag_more q others old old first c.args.tags.now i t le c.tag-item.is a (met_same q others old (pair_of t) absent a) (c.loop-tag.invariant a))
    ]
