use Rattle.std.proofs.Common.{rules}
use Rattle.sent_batches.specs.BatchHashes.{hash_of}
use Rattle.sent_batches.proofs.hashing.number_hash.Goals as goal

pub returns : goal.returns
unfolding hash_of
returns c = search rules
