use Rattle.std.proofs.Common.{rules}
use Rattle.std.proofs.lemmas.Fn.{filter_same}
use Rattle.commands.specs.JudgedLines.{is_written}
use Rattle.commands.proofs.get.batches.drop_blanks.Goals as goal

pub returns : goal.returns
returns c = filter_same _ is_written _ (λ x b f' k. search rules) _ _ c.retain.ensures.filtered
