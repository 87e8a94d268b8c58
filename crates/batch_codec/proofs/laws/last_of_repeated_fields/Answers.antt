use Rattle.batch_codec.proofs.LastOf.{tag_last, log_last, reference_last, process_last, span_last, batch_last}
use Rattle.batch_codec.proofs.laws.last_of_repeated_fields.Goals as goal

pub returns-clause-tag : goal.returns-clause-tag
returns-clause-tag c = tag_last

pub returns-clause-log : goal.returns-clause-log
returns-clause-log c = log_last

pub returns-clause-reference : goal.returns-clause-reference
returns-clause-reference c = reference_last

pub returns-clause-process : goal.returns-clause-process
returns-clause-process c = process_last

pub returns-clause-span : goal.returns-clause-span
returns-clause-span c = span_last

pub returns-clause-batch : goal.returns-clause-batch
returns-clause-batch c = batch_last
