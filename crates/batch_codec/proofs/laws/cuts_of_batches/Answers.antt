use Rattle.batch_codec.proofs.CutLaws.{faults_have_places, trailing_has_a_place, truncated_begins_truncated, batches_end}
use Rattle.batch_codec.proofs.laws.cuts_of_batches.Goals as goal

pub returns-clause-faults : goal.returns-clause-faults
returns-clause-faults c = faults_have_places

pub returns-clause-trailing : goal.returns-clause-trailing
returns-clause-trailing c = trailing_has_a_place

pub returns-clause-truncated : goal.returns-clause-truncated
returns-clause-truncated c = truncated_begins_truncated

pub returns-clause-whole : goal.returns-clause-whole
returns-clause-whole c = batches_end
