use Rattle.std.proofs.Common.{rules}
use Rattle.hash_tables.specs.IdProbes.{hash_of}
use Rattle.hash_tables.proofs.sought_id.id_hash.Goals as goal

pub returns : goal.returns
unfolding hash_of
returns c = search rules
