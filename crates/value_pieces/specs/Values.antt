-- Partially received values.
use Rattle.std.specs.Prelude.{ℕ, List, Result, Ok, Err, Bool, if◌then◌else◌}
use Rattle.std.specs.Str.{is_utf8}
use Rattle.thrift_binary.specs.declared.fault.WireError.TheVariants.{BadText}
use Rattle.thrift_binary.specs.Reading.{◌>>=◌, lift}
use Rattle.thrift_binary.specs.Reading as wires
use Rattle.wire_pieces.specs.Strings.{string_from}
use Rattle.wire_pieces.specs.Skipped.{skipping}
use Rattle.batch_codec.specs.declared.fault.DecodeError.{DecodeError}
use Rattle.batch_codec.specs.declared.fault.DecodeError.TheVariants.{Wire}
use Rattle.batch_codec.specs.Decoding.{Reading, wire}
use Rattle.value_pieces.specs.declared.values.PartialBool.{PartialBool}
use Rattle.value_pieces.specs.declared.texts.PartialText.{PartialText}
use Rattle.value_pieces.specs.declared.texts.PartialBinary.{PartialBinary}
use Rattle.value_pieces.specs.declared.skipped.PartialSkipped.{PartialSkipped}

abbrev pub bool_from : PartialBool → Reading Bool
bool_from p w = lift wire (wires.bool_at w)

-- a string whose bytes have arrived must be UTF-8
abbrev pub checked_text : List ℕ × List ℕ → Result (List ℕ × List ℕ) DecodeError
checked_text x = if is_utf8 x.0 then Ok (x.0, x.1) else Err (Wire BadText)

abbrev pub partial_text : PartialText → Reading (List ℕ)
partial_text p w = lift wire (string_from p.part w) >>= checked_text

abbrev pub partial_binary : PartialBinary → Reading (List ℕ)
partial_binary p w = lift wire (string_from p.part w)

-- a skipped value
abbrev pub skip_from : PartialSkipped → Reading (Unit {0})
skip_from p w = lift wire (skipping p.part w)

-- and changes nothing
abbrev pub partial_skipped : {S : Type 0} → S → PartialSkipped → Reading S
partial_skipped s p w = skip_from p w >>= λ x. Ok (s, x.1)
