-- A response that waits to be written.
use Rattle.std.specs.Prelude.{◌≡◌, ℕ, List, ◌++◌, drop, Option}
use Rattle.std.specs.Io.KnownBytes.{Appends}
use Rattle.query_json.specs.Parts.{Parted}

-- what was not written yet, after this number of bytes of the current part
abbrev pub unsent : Parted → ℕ → Parted
unsent response sent = record { part = drop sent response.part; rest = response.rest }

-- the connection took the first of the waiting bytes
abbrev pub TakesFirst : Option (List ℕ) → Option (List ℕ) → List ℕ → List ℕ → Type 0
TakesFirst old new waited waits = (front : List ℕ) × Appends old new front × (waited ≡ front ++ waits)
