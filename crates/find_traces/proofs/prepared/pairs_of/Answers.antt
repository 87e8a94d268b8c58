use Rattle.find_traces.proofs.RequestedPairs.{pair_laws, put_more}
use Rattle.find_traces.proofs.prepared.pairs_of.Goals as goal

pub loop-pair-preserved : goal.loop-pair-preserved
loop-pair-preserved c = λ a.
    put_more pair_laws (λ a. a) c.insert.new.self.keys c.loop-pair.pairs.keys c.args.requested.now c.loop-pair.pair-index c.pair-item.result c.in_ok-copy.copy
    c.loop-pair-test.true c.pair-item.is
    c.in_ok-copy.ensures a (c.in_ok-insert.ensures.updates.0 a) (c.loop-pair.invariant a)
