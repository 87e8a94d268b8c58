use Rattle.batch_codec.proofs.BatchSpelled.{decodes_what_is_spelled}
use Rattle.batch_codec.proofs.laws.decoding_is_spelling.Goals as goal

pub returns : goal.returns
returns c = record { same = decodes_what_is_spelled }
