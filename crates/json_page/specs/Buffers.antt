-- A buffer of bytes.
use Rattle.std.specs.Prelude.{ℕ, List}

-- its bytes, and the number of bytes that fit without more memory
pub record Buffered : Type 0 where
  pub items : List ℕ
  pub room : ℕ
