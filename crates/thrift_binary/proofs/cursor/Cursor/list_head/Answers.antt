use Rattle.std.proofs.Common.{rules}
use Rattle.thrift_binary.specs.Reading.{list_at}
use Rattle.thrift_binary.proofs.SkippedAreValues.{list_head_beginning}
use Rattle.thrift_binary.proofs.cursor.Cursor.list_head.Goals as goal

pub returns-clause-exact : goal.returns-clause-exact
unfolding list_at
returns-clause-exact c = search rules

pub returns-clause-spelled : goal.returns-clause-spelled
returns-clause-spelled c = list_head_beginning _ (_, _) _ (returns-clause-exact c)
