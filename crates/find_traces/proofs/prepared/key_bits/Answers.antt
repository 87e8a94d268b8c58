use Rattle.std.proofs.Common.{◌∙◌, ap, bit_or}
use Rattle.std.proofs.lemmas.List.{take_all}
use Rattle.find_traces.specs.RequestedPairs.{key_bits}
use Rattle.find_traces.proofs.RequestedPairs.{bits_put}
use Rattle.find_traces.proofs.prepared.key_bits.Goals as goal

pub loop-pair-preserved : goal.loop-pair-preserved
loop-pair-preserved c =
    (λ i. bit_or (c.loop-pair.invariant i) (c.bit_of_key-bits.ensures i))
    ∙ bits_put c.args.requested.now c.loop-pair.pair-index c.pair-item.result c.loop-pair-test.true c.pair-item.is

pub returns : goal.returns
returns c = c.loop-pair.invariant ∙ ap key_bits (take_all c.loop-pair.pair-index c.args.requested.now c.loop-pair-test.false)
