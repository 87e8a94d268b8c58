-- The bytes of a text, whether they are stored inline or not.
use Rattle.std.specs.Prelude.{ℕ, List, string_bytes}
use Rattle.jaeger_model.specs.declared.text.Bytes.{Bytes}
use Rattle.jaeger_model.specs.declared.text.Bytes.TheVariants.{Inline, Heap}

abbrev pub bytes_of : Bytes → List ℕ
bytes_of (Inline s) = s
bytes_of (Heap s) = string_bytes s
