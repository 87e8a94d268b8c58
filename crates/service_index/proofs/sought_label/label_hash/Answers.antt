use Rattle.std.proofs.Common.{rules}
use Rattle.service_index.specs.Probes.{hash_of}
use Rattle.service_index.proofs.sought_label.label_hash.Goals as goal

pub returns : goal.returns
unfolding hash_of
returns c = search rules
