-- The batch that a hexadecimal text encodes.
use Rattle.std.specs.Prelude.{ℕ, List, Result, Ok, Err}
use Rattle.hex.specs.Hex.{decode_of}
use Rattle.hex.specs.declared.error.FromHexError.{FromHexError}
use Rattle.jaeger_model.specs.declared.batch.Batch.{Batch}
use Rattle.batch_codec.specs.declared.fault.DecodeError.{DecodeError}
use Rattle.batch_codec.specs.BatchReading.{decoded}
use Rattle.batch_codec.specs.declared.hex_fault.HexFault.{HexFault}
use Rattle.batch_codec.specs.declared.hex_fault.HexFault.TheVariants.{BadHex, Undecodable}

abbrev pub of_batch : Result Batch DecodeError → Result Batch HexFault
of_batch (Ok batch) = Ok batch
of_batch (Err fault) = Err (Undecodable fault)

abbrev pub of_bytes : Result (List ℕ) FromHexError → Result Batch HexFault
of_bytes (Ok bytes) = of_batch (decoded bytes)
of_bytes (Err fault) = Err BadHex

unfoldable pub batch_in : List ℕ → Result Batch HexFault
batch_in text = of_bytes (decode_of text)
