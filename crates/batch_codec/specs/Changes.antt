-- Values before and after a call.
use Rattle.std.specs.Prelude.{ℕ, ℤ, List}

pub record Change (A : Type 0) : Type 0 where
  pub before : A
  pub after : A

abbrev pub change : {A : Type 0} → A → A → Change A
change before after = record { before = before; after = after }

-- a call that reads a field: its type and id, the slots of its struct, and the bytes of the cursor
pub record FieldChange (S : Type 0) : Type 0 where
  pub code : ℕ
  pub id : ℤ
  pub slots : Change S
  pub cursor : Change (List ℕ)
