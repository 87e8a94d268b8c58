-- How numbers are found in a table by their labels.
use Rattle.std.specs.Prelude.{ℕ, ◌^◌, ◌<◌, ◌≤◌, cond, nat_lt, List, [], ◌∷◌, ◌++◌, map, length, get_or, fold}
use Rattle.std.specs.List.{position_or_len}
use Rattle.std.specs.Hash as fed
use Rattle.std.specs.Hash.DefaultHasher as sip
use Rattle.std.specs.RandomState.{initial_hasher}
use Rattle.std.specs.declared.random_state.RandomState.{RandomState}
use Rattle.hash_tables.specs.RowPlaces.{Slots, LeadsTo, AreOnce}
use Rattle.service_index.specs.Labels.{LabelValue, same_label, Labelling, service_number_alone}

-- the value of a table: the numbers in the order of adding, the number of those that there is room for in all, and
-- the places that lead to them
pub record Table : Type 0 where
  pub numbers : List ℕ
  pub room : ℕ
  pub keys : RandomState
  pub slots : Slots

-- the hash of a label under the keys
unfoldable pub hash_of : RandomState → LabelValue → ℕ
hash_of keys l = sip.finish (fold sip.write (initial_hasher keys) (fed.u32 l.service_number ++ fed.str l.name ++ fed.str l.kind))

abbrev pub hashes_of : RandomState → List LabelValue → List ℕ
hashes_of keys known = map (hash_of keys) known

abbrev pub no_label : LabelValue
no_label = service_number_alone 0

abbrev pub label_at : List LabelValue → ℕ → LabelValue
label_at known row = get_or known row no_label

-- each of the numbers is below the count
pub record AreNumbersBelow (count : ℕ) (numbers : List ℕ) : Type 0 where
  pub held : (r : ℕ) → r < length numbers → get_or numbers r 0 < count

-- the table leads to its numbers by these labels, which are all different
pub record IsLabelTable (labels : Labelling) (table : Table) : Type 0 where
  pub fits : table.room < 2 ^ 32
  pub within : length table.numbers ≤ table.room
  pub numbers : AreNumbersBelow labels.count table.numbers
  pub once : AreOnce no_label (map labels.at table.numbers)
  pub leads : LeadsTo (hashes_of table.keys (map labels.at table.numbers)) table.slots

-- the row of a label, or the number of rows
abbrev pub row_of : Labelling → List ℕ → LabelValue → ℕ
row_of labels numbers label = position_or_len (same_label label) (map labels.at numbers)

-- one more number, unless its label is known
abbrev pub with_number : Labelling → List ℕ → ℕ → List ℕ
with_number labels numbers n = cond (nat_lt (row_of labels numbers (labels.at n)) (length numbers)) numbers (numbers ++ n ∷ [])
