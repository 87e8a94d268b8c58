use Rattle.thrift_binary.proofs.Written.{bool_written, i32_written, i64_written, double_written, string_written, field_written, list_head_written}
use Rattle.thrift_binary.proofs.Written.{fields_written}
use Rattle.thrift_binary.proofs.laws.written_values_spell.Goals as goal

pub returns-clause-bool : goal.returns-clause-bool
returns-clause-bool c = bool_written

pub returns-clause-i32 : goal.returns-clause-i32
returns-clause-i32 c = i32_written

pub returns-clause-i64 : goal.returns-clause-i64
returns-clause-i64 c = i64_written

pub returns-clause-double : goal.returns-clause-double
returns-clause-double c = double_written

pub returns-clause-bytes : goal.returns-clause-bytes
returns-clause-bytes c = string_written

pub returns-clause-field : goal.returns-clause-field
returns-clause-field c = field_written

pub returns-clause-list_head : goal.returns-clause-list_head
returns-clause-list_head c = list_head_written

pub returns-clause-fields : goal.returns-clause-fields
returns-clause-fields c = fields_written
