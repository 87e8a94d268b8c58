-- Lists in the log of a book, the rule of the book, and the claims of its steps.
use Rattle.std.specs.Prelude.{◌≡◌, ◌≢◌, ℕ, ◌<◌, ◌==◌, true, List, [], ◌∷◌, ◌++◌, length, if◌then◌else◌, All, option_to_list}
use mathlib.Core.List.{IsPrefix}
use Rattle.logbook.specs.Pages.{Cell, cell, Step, View, Book, Named, Nib, may_make, may_write}
use Rattle.read_side.specs.declared.log_steps.Link.{Link}
use Rattle.read_side.specs.CountedLogs.{LogBook}

-- The list that a key begins: its first link is the first that has the key, and each further one the next that has the key which the one before it
-- names. Other links are passed over.
-- the item of this link, if it has the key
abbrev pub item_at : {A : Type 0} → ℕ → Link A → List A
item_at key l = if l.key == key then option_to_list l.item else []

-- the key to be looked for after this link
abbrev pub key_after : {A : Type 0} → ℕ → Link A → ℕ
key_after key l = if l.key == key then l.next else key

-- the items of the list
abbrev pub items_from : {A : Type 0} → ℕ → List (Link A) → List A
items_from key [] = []
items_from key (l ∷ log) = item_at key l ++ items_from (key_after key l) log

-- the key that its next link will have
abbrev pub next_key : {A : Type 0} → ℕ → List (Link A) → ℕ
next_key key [] = key
next_key key (l ∷ log) = next_key (key_after key l) log

-- no link has the key
abbrev pub LacksKey : {A : Type 0} → ℕ → List (Link A) → Type 0
LacksKey key log = All (λ l. l.key ≢ key) log

-- the word with this key is at home
abbrev pub IsHome : List Cell → ℕ → Type 0
IsHome cells key = (key < length cells) × ((cell cells key).1 ≡ true)

-- the first word is at home, and so is the word of each link
pub record AreHome {A : Type 0} (cells : List Cell) (log : List (Link A)) : Type 0 where
  pub head : IsHome cells 0
  pub links : All (λ l. IsHome cells l.key) log

-- the first word of a book
abbrev pub first_word : Book → Named
first_word b = record { tracked = true; key = 0; book = b }

-- the key that is the log of a book
abbrev pub key_in : List ℕ → ℕ
key_in [] = 0
key_in (key ∷ rest) = key

abbrev pub book_at : Book → List ℕ → LogBook
book_at b keys = record { book = b; first = key_in keys }

-- what the owner of a list has: its first word, what was seen of it and of its first link's key, the pen, and the
-- number of its items
pub record OwnedLog (A : Type 0) : Type 0 where
  pub head : Named
  pub book : Book
  pub log : List (Link A)
  pub first_key : ℕ
  pub pen_book : Book
  pub pen : Nib
  pub len : ℕ

-- the owner steps through the first word, and has the pen for the word of the list's next link
pub record IsOwned {A : Type 0} (l : OwnedLog A) : Type 0 where
  pub head_is : l.head ≡ first_word l.book
  pub pen_book_is : l.pen_book ≡ l.book
  pub right_is : l.pen.right ≡ may_write
  pub key_is : l.pen.key ≡ next_key l.first_key l.log
  pub len_is : l.len ≡ length (items_from l.first_key l.log)

-- the right to make a word was got; no link has its key
abbrev pub MakesWord : {A : Type 0} → Step (Link A) → View (Link A) ℕ → ℕ → View (Link A) ℕ → Type 0
MakesWord s v found w = (w.1.0.right ≡ may_make) × LacksKey w.1.0.key w.0

-- the link was added, and no link before it has its key
abbrev pub AddsLink : {A : Type 0} → Step (Link A) → View (Link A) ℕ → ℕ → View (Link A) ℕ → Type 0
AddsLink {A} s v found w = (before : List (Link A)) × IsPrefix v.0 before × LacksKey s.ask.key before × (w.0 ≡ before ++ s.ask ∷ [])

-- the pen is as it was, and no link has its key
abbrev pub LooksAtAll : {A : Type 0} → Step (Link A) → View (Link A) ℕ → ℕ → View (Link A) ℕ → Type 0
LooksAtAll s v found w = (w.1.0 ≡ v.1.0) × LacksKey v.1.0.key w.0
