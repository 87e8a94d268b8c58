-- How places lead to rows. A place has 0 if it is free, else a row plus one.
use Rattle.std.specs.Prelude.{◌≡◌, ℕ, ◌+◌, ◌-◌, ◌*◌, ◌%◌, ◌<◌, ◌≤◌, Bool, true, false, cond, nat_lt, nat_eq, List, Option, Some, None, length, get_or, count_by}
use Rattle.std.specs.Prelude.{take}

-- two tables of places, which take turns: the places of the one in use, and those of the next one; the number of
-- places that the next one will have, and the number of rows, from the first one on, that were moved to it
pub record Slots : Type 0 where
  pub used : List ℕ
  pub next : List ℕ
  pub places : ℕ
  pub moved : ℕ

-- the value of places: both tables, and the number of rows that there is room for in all
pub record Places : Type 0 where
  pub slots : Slots
  pub room : ℕ

-- where the walk for a hash begins, among n places
abbrev pub start_of : ℕ → ℕ → ℕ
start_of hash places = hash % places

-- after the last place comes the first
abbrev pub place_after : ℕ → ℕ → ℕ
place_after places at = cond (nat_eq (at + 1) places) 0 (at + 1)

-- the number of steps of a walk from start to a place
abbrev pub steps : ℕ → ℕ → ℕ → ℕ
steps places start k = cond (nat_lt k start) (places + k - start) (k - start)

abbrev pub is_taken : ℕ → Bool
is_taken slot = nat_lt 0 slot

-- each place that a walk from start reaches in fewer steps has such a mark
abbrev pub EachBefore : (ℕ → Type 0) → List ℕ → ℕ → ℕ → Type 0
EachBefore HasMark slots start n = (j : ℕ) → j < length slots → steps (length slots) start j < n → HasMark (get_or slots j 0)

-- each such place is taken
abbrev pub AreTaken : List ℕ → ℕ → ℕ → Type 0
AreTaken = EachBefore (λ mark. 0 < mark)

-- the walk from start reaches this mark before any free place
abbrev pub Reaches : List ℕ → ℕ → ℕ → Type 0
Reaches slots start mark = (k : ℕ) × (k < length slots) × (get_or slots k 0 ≡ mark) × AreTaken slots start (steps (length slots) start k)

-- the result of a walk among n rows: a row that is sought, or none such among those that it reaches
abbrev pub Walked : List ℕ → ℕ → ℕ → (ℕ → Bool) → Option ℕ → Type 0
Walked slots start rows is_sought (Some row) = (row < rows) × (is_sought row ≡ true)
Walked slots start rows is_sought None = (row : ℕ) → Reaches slots start (row + 1) → is_sought row ≡ false

-- the places of a table lead to the rows of these hashes; more than half of them are free
pub record LeadsIn (hashes : List ℕ) (slots : List ℕ) : Type 0 where
  pub half : 2 * length hashes < length slots
  pub taken : count_by is_taken slots ≡ length hashes
  pub known : (k : ℕ) → get_or slots k 0 ≤ length hashes
  pub found : (row : ℕ) → row < length hashes → Reaches slots (start_of (get_or hashes row 0) (length slots)) (row + 1)

-- the next table, which will have this number of places, leads to the rows that were moved to it; no row is moved
-- before it has all of them
pub record IsPrepared (hashes : List ℕ) (places : ℕ) (next : List ℕ) (moved : ℕ) : Type 0 where
  pub within : length next ≤ places
  pub some : moved ≤ length hashes
  pub full : 0 < moved → length next ≡ places
  pub leads : 0 < length next → LeadsIn (take moved hashes) next

-- the table in use leads to the rows of these hashes, and the next one to those of them that were moved
pub record LeadsTo (hashes : List ℕ) (slots : Slots) : Type 0 where
  pub used : LeadsIn hashes slots.used
  pub prepared : IsPrepared hashes slots.places slots.next slots.moved

-- a row that is sought, or none of n is
abbrev pub Found : ℕ → (ℕ → Bool) → Option ℕ → Type 0
Found rows is_sought (Some row) = (row < rows) × (is_sought row ≡ true)
Found rows is_sought None = (row : ℕ) → row < rows → is_sought row ≡ false

-- no two rows are equal
abbrev pub AreOnce : {A : Type 0} → A → List A → Type 0
AreOnce default rows = (i j : ℕ) → i < j → j < length rows → get_or rows i default ≡ get_or rows j default → ⊥
