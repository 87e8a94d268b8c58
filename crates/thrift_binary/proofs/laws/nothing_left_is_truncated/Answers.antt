use Rattle.std.proofs.Common.{refl}
use Rattle.thrift_binary.specs.Reading.{bool_at, size_at, string_at, field_at, list_at}
use Rattle.thrift_binary.specs.Skipping.{skip_at}
use Rattle.thrift_binary.proofs.laws.nothing_left_is_truncated.Goals as goal

pub returns-clause-bool : goal.returns-clause-bool
unfolding bool_at
returns-clause-bool c = refl

pub returns-clause-bytes : goal.returns-clause-bytes
unfolding string_at size_at
returns-clause-bytes c = refl

pub returns-clause-field : goal.returns-clause-field
unfolding field_at
returns-clause-field c = refl

pub returns-clause-list_head : goal.returns-clause-list_head
unfolding list_at
returns-clause-list_head c = refl

pub returns-clause-skipped : goal.returns-clause-skipped
unfolding skip_at
returns-clause-skipped c = λ k. refl
