use Rattle.thrift_binary.specs.declared.fault.WireError.TheVariants.{Truncated}
use Rattle.thrift_binary.specs.Reading.{list_at}
use Rattle.thrift_binary.proofs.Cuts.{faults_have_places, values_have_ends, short_stays_short}
use Rattle.thrift_binary.proofs.CutReadings.{list_head_cut}
use Rattle.thrift_binary.proofs.laws.cuts_of_list_heads.Goals as goal

pub returns-clause-faults : goal.returns-clause-faults
returns-clause-faults c = faults_have_places Truncated list_at list_head_cut

pub returns-clause-values : goal.returns-clause-values
returns-clause-values c = values_have_ends Truncated list_at list_head_cut

pub returns-clause-truncated : goal.returns-clause-truncated
returns-clause-truncated c = short_stays_short Truncated list_at list_head_cut
