-- Decoding and the relation of spelling.
use Rattle.std.specs.Prelude.{◌≡◌, ◌↔◌, ℕ, List, Ok}
use Rattle.jaeger_model.specs.declared.batch.Batch.{Batch}
use Rattle.batch_codec.specs.Batches.{IsBatch}
use Rattle.batch_codec.specs.BatchReading.{decoded}

-- decoding returns a batch exactly if the bytes spell it, so they spell at most one batch
abbrev pub DecodesWhatIsSpelled : Type 0
DecodesWhatIsSpelled = (w : List ℕ) (b : Batch) → (decoded w ≡ Ok b) ↔ IsBatch w b
