-- The value of rows of services that are linked to one another.
use Rattle.std.specs.Prelude.{ℕ, nat_lt, List, [], ◌∷◌, ◌++◌, length, set, if◌then◌else◌}

-- for each service the link to its newest row, for each row the link to the one before it of its service; and the
-- number of rows that there is room for. A link is a row plus one, or 0 for none
pub record LinkedRows : Type 0 where
  pub newest : List ℕ
  pub earlier : List ℕ
  pub room : ℕ

-- the links to the newest rows after one of a service is added; the service has rows or is the next one
abbrev pub newest_with : List ℕ → ℕ → ℕ → List ℕ
newest_with newest service link = if nat_lt service (length newest) then set newest service link else newest ++ link ∷ []
