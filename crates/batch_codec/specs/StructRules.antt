-- The rules by which the fields of a struct make a value.
use Rattle.std.specs.Prelude.{ℕ, ℤ, List}
use Rattle.thrift_binary.specs.Spelling.{Field}

-- A struct of `jaeger.thrift`: its slots before the first field, how a field changes them, and which value the slots
-- make at the stop byte.
pub record StructRule (S X : Type 0) : Type 1 where
  pub none : S
  pub changes : S → Field → S → Type 0
  pub makes : S → X → Type 0

-- The fields that a struct knows: their types and ids, and the slots after a list of fields, of which the last one of
-- each type and id counts.
pub record KnownFields (S : Type 0) : Type 1 where
  pub types : List (ℕ × ℤ)
  pub last : S → List Field → S → Type 0
