-- Why a text isn't a batch, as text.
use Rattle.std.specs.Prelude.{ℕ, List, ◌++◌, codes}
use Rattle.batch_codec.specs.Faults.{fault_text as decode_text}
use Rattle.batch_codec.specs.declared.hex_fault.HexFault.{HexFault}
use Rattle.batch_codec.specs.declared.hex_fault.HexFault.TheVariants.{BadHex, Undecodable}

abbrev pub hex_fault_text : HexFault → List ℕ
hex_fault_text BadHex = codes "bad hex"
hex_fault_text (Undecodable fault) = codes "refused " ++ decode_text fault
