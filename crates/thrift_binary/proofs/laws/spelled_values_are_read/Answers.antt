use Rattle.thrift_binary.proofs.SpellingsAreRead.{bool_again, i32_again, i64_again, double_again, string_again, field_head_again, stop_again}
use Rattle.thrift_binary.proofs.Lists.{list_head_read}
use Rattle.thrift_binary.proofs.ValuesAreSkipped.{skip_again}
use Rattle.thrift_binary.proofs.laws.spelled_values_are_read.Goals as goal

pub returns-clause-bool : goal.returns-clause-bool
returns-clause-bool c = bool_again

pub returns-clause-i32 : goal.returns-clause-i32
returns-clause-i32 c = i32_again

pub returns-clause-i64 : goal.returns-clause-i64
returns-clause-i64 c = i64_again

pub returns-clause-double : goal.returns-clause-double
returns-clause-double c = double_again

pub returns-clause-bytes : goal.returns-clause-bytes
returns-clause-bytes c = λ t r bytes is. string_again t bytes r is

pub returns-clause-field : goal.returns-clause-field
returns-clause-field c = field_head_again

pub returns-clause-stop : goal.returns-clause-stop
returns-clause-stop c = stop_again

pub returns-clause-list_head : goal.returns-clause-list_head
returns-clause-list_head c = list_head_read

pub returns-clause-skipped : goal.returns-clause-skipped
returns-clause-skipped c = skip_again
