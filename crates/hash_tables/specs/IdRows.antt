-- The value of a table of ids.
use Rattle.std.specs.Prelude.{◌≡◌, ℕ, List, [], ◌∷◌, ◌++◌, Some, None, length, get_or, position}
use Rattle.jaeger_model.specs.declared.ids.TraceId.{TraceId}
use Rattle.jaeger_model.specs.Parents.{same_trace}
use Rattle.hash_tables.specs.declared.id_table.Entered.{Entered}
use Rattle.hash_tables.specs.declared.id_table.Entered.TheVariants.{Known, Added}

-- the ids in the order in which they were added, and the number of ids that there is room for in all
pub record Rows : Type 0 where
  pub ids : List TraceId
  pub room : ℕ

abbrev pub no_id : TraceId
no_id = record { high = 0; low = 0 }

-- the id of a row
abbrev pub id_at : List TraceId → ℕ → TraceId
id_at ids row = get_or ids row no_id

-- the id had this row, and nothing changed; or it wasn't there, and comes after the others now
abbrev pub IsEntered : List TraceId → TraceId → Entered → List TraceId → Type 0
IsEntered ids id (Known row) now = (position (same_trace id) ids ≡ Some row) × (now ≡ ids)
IsEntered ids id (Added row) now = (position (same_trace id) ids ≡ None) × (row ≡ length ids) × (now ≡ ids ++ id ∷ [])
