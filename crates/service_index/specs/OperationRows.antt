-- The rows of the operations of arrivals.
use Rattle.std.specs.Prelude.{◌≡◌, ℕ, ◌==◌, ◌<◌, ◌≤◌, Bool, List, [], ◌∷◌, map, codes, length, get_or}
use Rattle.std.specs.List.{list_any}
use Rattle.service_index.specs.declared.operation_rows.OperationRows.{OperationRows}
use Rattle.service_index.specs.Labels.{Names, Labelling, operation_label, operation_labels}
use Rattle.service_index.specs.Probes.{row_of}

-- the rows of the operations of the first numbers, each of which is a row of the table
pub record AreOperationRows (names : Names) (numbers rows : List ℕ) : Type 0 where
  pub within : length rows ≤ names.count
  pub each : (n : ℕ) → n < length rows → get_or rows n 0 ≡ row_of (operation_labels names) numbers ((operation_labels names).at n)
  pub known : (n : ℕ) → n < length rows → get_or rows n 0 < length numbers

-- the row is one of these
abbrev pub is_among : List ℕ → ℕ → Bool
is_among rows row = list_any (λ r. r == row) rows

-- the rows of an operation, one for each kind
abbrev pub rows_in : OperationRows → List ℕ
rows_in o = o.rows

-- the kinds that an operation may have
abbrev pub all_kinds : List (List ℕ)
all_kinds = [] ∷ codes "client" ∷ codes "server" ∷ codes "producer" ∷ codes "consumer" ∷ codes "internal" ∷ []

-- the rows of an operation of the service of this number
abbrev pub rows_of_kinds : Labelling → List ℕ → ℕ → List ℕ → List ℕ
rows_of_kinds labels numbers service_number name = map (λ kind. row_of labels numbers (operation_label service_number name kind)) all_kinds
