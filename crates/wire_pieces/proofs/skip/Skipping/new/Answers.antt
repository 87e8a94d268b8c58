use Rattle.std.proofs.Common.{◌∙◌, ap, ◌++◌, [], ◌∷◌}
use Rattle.wire_pieces.specs.declared.skip.Frame.TheVariants.{Elements}
use Rattle.wire_pieces.proofs.SkipSteps.{skipping-fresh}
use Rattle.wire_pieces.proofs.skip.Skipping.new.Goals as goal

pub returns : goal.returns
returns c = record { fresh = λ w. rw (c.push.ensures.items, c.new-around.ensures) (skipping-fresh c.args.code w c.requires.table) }
