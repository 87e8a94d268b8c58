use Rattle.std.proofs.Common.{rules}
use Rattle.thrift_binary.specs.Skipping.{skip_at}
use Rattle.thrift_binary.proofs.ValuesAreSkipped.{skip_reads_found, skip_reads_complete}
use Rattle.thrift_binary.proofs.cursor.Cursor.skip.Goals as goal

pub returns-then-is_empty-clause-exact : goal.returns-then-is_empty-clause-exact
unfolding skip_at
returns-then-is_empty-clause-exact c = search rules

pub returns-then-is_empty-clause-complete : goal.returns-then-is_empty-clause-complete
returns-then-is_empty-clause-complete c =
    skip_reads_complete c.args.code c.args.self.now c.refuse.result c.refuse.new.self (returns-then-is_empty-clause-exact c)

pub returns-clause-exact : goal.returns-clause-exact
unfolding skip_at
returns-clause-exact c = search rules

pub returns-clause-found : goal.returns-clause-found
returns-clause-found c = skip_reads_found c.args.code c.args.self.now c.value.result c.value.new.self (returns-clause-exact c)

pub returns-clause-complete : goal.returns-clause-complete
returns-clause-complete c = skip_reads_complete c.args.code c.args.self.now c.value.result c.value.new.self (returns-clause-exact c)
