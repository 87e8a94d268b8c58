-- Partially received single values.
use Rattle.std.specs.Prelude.{ℕ, ℤ, List, ◌++◌}
use Rattle.std.specs.Int.{w16}
use Rattle.thrift_binary.specs.Reading.{Read, signed_at, size_at}
use Rattle.wire_pieces.specs.declared.numbers.Size.{Size}

-- after the bytes of a signed number of 16 bits that have arrived
abbrev pub i16_from : List ℕ → List ℕ → Read ℤ
i16_from got w = signed_at w16 2 (got ++ w)

abbrev pub size_from : Size → List ℕ → Read ℕ
size_from p w = size_at (p.bytes ++ w)
