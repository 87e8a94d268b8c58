use Rattle.std.proofs.Common.{length, rules}
use Rattle.find_traces.proofs.RequestedPairs.{length_laws, put_more}
use Rattle.find_traces.proofs.prepared.lengths_of.Goals as goal

pub loop-pair-preserved : goal.loop-pair-preserved
loop-pair-preserved c = λ n.
    put_more length_laws (λ a. length a.1)
    c.insert.new.self.keys c.loop-pair.lengths.keys c.args.requested.now c.loop-pair.pair-index c.pair-item.result c.len-length.result c.loop-pair-test.true
    c.pair-item.is
    (search rules) n (c.in_ok-insert.ensures.updates.0 n) (c.loop-pair.invariant n)
