use Rattle.std.proofs.Common.{rules}
use Rattle.find_traces.proofs.RequestedPairs.{text_laws, put_more}
use Rattle.find_traces.proofs.prepared.keys_of.Goals as goal

pub loop-pair-preserved : goal.loop-pair-preserved
loop-pair-preserved c = λ k.
    put_more text_laws (λ a. a.0) c.insert.new.self.keys c.loop-pair.keys.keys c.args.requested.now c.loop-pair.pair-index c.pair-item.result c.in_ok-key.key
    c.loop-pair-test.true c.pair-item.is
    (search rules) k (c.in_ok-insert.ensures.updates.0 k) (c.loop-pair.invariant k)
