-- The value of a list that only its owner adds to, and of what was seen of it.
use Rattle.std.specs.Prelude.{ℕ, List, [], ◌∷◌, ◌++◌}
use Rattle.logbook.specs.Pages.{Book}

-- which list it is: the book that holds it, and the key of its first link
pub record LogBook : Type 0 where
  pub book : Book
  pub first : ℕ

-- its items, and which list it is
pub record LogValue (A : Type 0) : Type 0 where
  pub book : LogBook
  pub items : List A

-- a prefix of its items, which was seen, and which list it is
pub record SeenValue (A : Type 0) : Type 0 where
  pub book : LogBook
  pub log : List A

-- one more item at its end
abbrev pub with_item : {A : Type 0} → LogValue A → A → LogValue A
with_item l item = record l { items = l.items ++ item ∷ [] }
