use Rattle.std.proofs.Common.{rules}
use Rattle.thrift_binary.specs.Reading.{string_at}
use Rattle.thrift_binary.specs.Spelling.{IsString}
use Rattle.thrift_binary.proofs.ReadBytesSpell.{reads_spelled, string_beginning}
use Rattle.thrift_binary.proofs.cursor.Cursor.read_bytes.Goals as goal

pub returns-clause-exact : goal.returns-clause-exact
unfolding string_at
returns-clause-exact c = search rules

pub returns-clause-spelled : goal.returns-clause-spelled
returns-clause-spelled c = reads_spelled (λ x. x.now) string_at IsString string_beginning c.args.self.now c.take.result _ (returns-clause-exact c)
