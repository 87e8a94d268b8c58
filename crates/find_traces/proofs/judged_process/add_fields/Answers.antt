use Rattle.std.proofs.Common.{◌∙◌, ◌||◌, ◌&&◌, ap}
use Rattle.find_traces.specs.RequestedPairs.{is_in, wants, has_pair, pairs_lent}
use Rattle.find_traces.proofs.RequestedPairs.{log_more}
use Rattle.find_traces.proofs.judged_process.add_fields.Goals as goal

pub loop-log-preserved : goal.loop-log-preserved
loop-log-preserved c = λ a.
    let q = c.args.prepared.now in
    let others = pairs_lent c.args.others.now.keys in
    let put = c.in_ok-add_pairs.ensures a ∙ ap (λ ts. is_in (pairs_lent c.loop-log.pairs.keys) a || (wants q others a && has_pair ts a)) c.as_slice.ensures in
    log_more q others (pairs_lent c.add_pairs.new.pairs.keys) (pairs_lent c.loop-log.pairs.keys) (pairs_lent c.args.pairs.now.keys) c.args.logs.now
    c.loop-log.log-index c.log-item.result
    c.loop-log-test.true c.log-item.is a put (c.loop-log.invariant a)
