use Rattle.thrift_binary.specs.declared.fault.WireError.TheVariants.{Truncated}
use Rattle.thrift_binary.specs.Skipping.{skip_at}
use Rattle.thrift_binary.proofs.Cuts.{faults_have_places, values_have_ends, short_stays_short}
use Rattle.thrift_binary.proofs.CutSkip.{skip_cut}
use Rattle.thrift_binary.proofs.laws.cuts_of_skipped_values.Goals as goal

pub returns-clause-faults : goal.returns-clause-faults
returns-clause-faults c = λ t. faults_have_places Truncated (skip_at t) (skip_cut t)

pub returns-clause-values : goal.returns-clause-values
returns-clause-values c = λ t. values_have_ends Truncated (skip_at t) (skip_cut t)

pub returns-clause-truncated : goal.returns-clause-truncated
returns-clause-truncated c = λ t. short_stays_short Truncated (skip_at t) (skip_cut t)
