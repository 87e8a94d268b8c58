-- The rows and numbers by which a ring finds its traces.
use Rattle.std.specs.Prelude.{◌≡◌, ℕ, ◌+◌, ◌%◌, ◌^◌, ◌<◌, ◌≤◌, List, length, get_or, map}
use Rattle.jaeger_model.specs.declared.ids.TraceId.{TraceId}
use Rattle.hash_tables.specs.RowPlaces.{AreOnce}
use Rattle.hash_tables.specs.IdRows.{Rows, no_id, id_at}

-- the traces of these rows
abbrev pub window : List TraceId → List ℕ → List TraceId
window ids rows = map (λ row. id_at ids row) rows

-- the row at a position has the number of the position, counted from first at the oldest one; the greatest number is
-- followed by 0
pub record IsRing (room : ℕ) (table : Rows) (rows : List ℕ) (first : ℕ) (numbers : List ℕ) : Type 0 where
  pub fits : room < 2 ^ 32
  pub start : first < 2 ^ 64
  pub same_room : table.room ≡ room
  pub within : length table.ids ≤ room
  pub as_many : length numbers ≡ length table.ids
  pub short : length rows ≤ room
  pub once : AreOnce no_id table.ids
  pub below : (p : ℕ) → p < length rows → get_or rows p 0 < length table.ids
  pub numbered : (p : ℕ) → p < length rows → get_or numbers (get_or rows p 0) 0 ≡ (first + p) % 2 ^ 64
