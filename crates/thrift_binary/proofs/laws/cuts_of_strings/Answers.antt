use Rattle.thrift_binary.specs.declared.fault.WireError.TheVariants.{Truncated}
use Rattle.thrift_binary.specs.Reading.{string_at}
use Rattle.thrift_binary.proofs.Cuts.{faults_have_places, values_have_ends, short_stays_short}
use Rattle.thrift_binary.proofs.CutReadings.{string_cut}
use Rattle.thrift_binary.proofs.laws.cuts_of_strings.Goals as goal

pub returns-clause-faults : goal.returns-clause-faults
returns-clause-faults c = faults_have_places Truncated string_at string_cut

pub returns-clause-values : goal.returns-clause-values
returns-clause-values c = values_have_ends Truncated string_at string_cut

pub returns-clause-truncated : goal.returns-clause-truncated
returns-clause-truncated c = short_stays_short Truncated string_at string_cut
