-- What a feeder returns for the bytes that are still to come.
use Rattle.std.specs.Prelude.{ℕ, List, ◌++◌, Result}
use Rattle.jaeger_model.specs.declared.batch.Batch.{Batch}
use Rattle.batch_codec.specs.declared.fault.DecodeError.{DecodeError}
use Rattle.batch_feeder.specs.declared.feeder.Feeder.{Feeder}
use Rattle.batch_feeder.specs.FeederResults.{answers_of}

-- what it returns if exactly these bytes are still to come
abbrev pub answers : Feeder → List ℕ → Result Batch DecodeError
answers f w = answers_of f.state (f.waiting.items ++ w)
