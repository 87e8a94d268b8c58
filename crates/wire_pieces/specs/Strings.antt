-- A partially received string or binary.
use Rattle.std.specs.Prelude.{ℕ, List, [], ◌++◌, Ok}
use Rattle.thrift_binary.specs.Reading.{Read, ◌>>=◌, bytes_at}
use Rattle.wire_pieces.specs.Numbers.{size_from}
use Rattle.wire_pieces.specs.declared.strings.StringStep.{StringStep}
use Rattle.wire_pieces.specs.declared.strings.StringStep.TheVariants.{Size, Body}
use Rattle.wire_pieces.specs.declared.strings.StringPart.{StringPart}

-- n bytes after those that have arrived
unfoldable pub bytes_end : List ℕ → ℕ → List ℕ → Read (List ℕ)
bytes_end got n w = bytes_at n w >>= λ t. Ok (got ++ t.0, t.1)

abbrev pub bytes_from : StringStep → List ℕ → Read (List ℕ)
bytes_from (Size p) w = size_from p w >>= λ n. bytes_end [] n.0 n.1
bytes_from (Body b) w = bytes_end b.got.items b.left w

abbrev pub string_from : StringPart → List ℕ → Read (List ℕ)
string_from s w = bytes_from s.step w
