use Rattle.std.proofs.Common.{length, ap, arith}
use Rattle.trace_assembly.specs.ChainLists.{ChainsValue}
use Rattle.trace_assembly.proofs.ChainLinks.{length_chains}
use Rattle.trace_assembly.proofs.chains.Chains.rows.Goals as goal

pub returns : goal.returns
returns c =
    let t = c.self.inside in
    let l = length_chains t.links.marks.items t.ends.items in
    let seen = ap (λ (w : ChainsValue). length w.chains) c.self.view_is in omega arith
