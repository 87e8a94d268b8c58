use Rattle.std.proofs.Common.{◌≡◌, false, refl}
use Rattle.std.proofs.lemmas.Result.{err_from_is_err_and}
use Rattle.thrift_binary.specs.Skipping.{is_container}
use Rattle.wire_pieces.proofs.Steps.{refused-wire}
use Rattle.wire_pieces.proofs.SkipSteps.{begun-bad, begun-leaf, comes-to-state}
use Rattle.wire_pieces.proofs.skip.Skipping.begin.Goals as goal

pub returns-then-is_container-clause-progress : goal.returns-then-is_container-clause-progress
returns-then-is_container-clause-progress c = rw (← c.push.ensures.items) c.enter.ensures.progress

pub returns-in_err-self-clause-progress : goal.returns-in_err-self-clause-progress
returns-in_err-self-clause-progress c =
    let isnt : is_container c.args.code ≡ false = cc in
    let p = err_from_is_err_and c.from_residual.result c.from_residual.ensures.1 in
    λ piece. rw (p.1, p.2) (refused-wire _ _ _ _ c.in_err-self.ensures.reads.0 (begun-bad _ _ piece isnt c.in_err-self.ensures.reads.1))

pub returns-clause-progress : goal.returns-clause-progress
returns-clause-progress c =
    let isnt : is_container c.args.code ≡ false = cc in
    λ piece. comes-to-state _ _ _ _ refl c.push.ensures.items _ piece piece (begun-leaf _ _ _ piece isnt c.in_ok-self.ensures.reads)
