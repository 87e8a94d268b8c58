-- A text in parts.
use Rattle.std.specs.Prelude.{◌≡◌, ℕ, List, [], ◌++◌}

-- the next part, and the text after it
pub record Parted : Type 0 where
  pub part : List ℕ
  pub rest : List ℕ

-- what is still to come
abbrev pub to_come : Parted → List ℕ
to_come p = p.part ++ p.rest

-- the part is empty only if nothing follows it
abbrev pub IsEmptyOnlyAtEnd : List ℕ → List ℕ → Type 0
IsEmptyOnlyAtEnd part rest = part ≡ [] → rest ≡ []
