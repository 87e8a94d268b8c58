use Rattle.batch_codec.proofs.BatchSpelled.{decoded_found, decoded_complete}
use Rattle.batch_codec.proofs.batch.decode.Goals as goal

pub returns-clause-found : goal.returns-clause-found
returns-clause-found c = decoded_found _ _ c.read_batch.ensures

pub returns-clause-complete : goal.returns-clause-complete
returns-clause-complete c = decoded_complete _ _ c.read_batch.ensures
