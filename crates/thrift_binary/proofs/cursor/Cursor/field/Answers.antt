use Rattle.std.proofs.Common.{rules}
use Rattle.thrift_binary.specs.Reading.{field_at}
use Rattle.thrift_binary.proofs.ReadBytesSpell.{field_beginning}
use Rattle.thrift_binary.proofs.cursor.Cursor.field.Goals as goal

pub returns-clause-exact : goal.returns-clause-exact
unfolding field_at
returns-clause-exact c = search rules

pub returns-clause-spelled : goal.returns-clause-spelled
returns-clause-spelled c = field_beginning _ _ _ _ (returns-clause-exact c)
