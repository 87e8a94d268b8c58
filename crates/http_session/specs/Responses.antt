-- A response that is written in parts.
use Rattle.std.specs.Prelude.{ℕ, List, [], ◌∷◌, Option, Some, None}
use Rattle.query_json.specs.Parts.{Parted, to_come}

-- the next part of a response: its head, or what is left of it, and then the answer's parts
abbrev pub parted_by : List ℕ → Option Parted → Parted
parted_by [] None = record { part = []; rest = [] }
parted_by [] (Some answer) = answer
parted_by (b ∷ bs) None = record { part = b ∷ bs; rest = [] }
parted_by (b ∷ bs) (Some answer) = record { part = b ∷ bs; rest = to_come answer }
