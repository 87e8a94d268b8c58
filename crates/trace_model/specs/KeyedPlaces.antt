-- Places that are stored by the keys of processes.
use Rattle.std.specs.Prelude.{◌==◌, ℕ, Option, Some, None}
use Rattle.std.specs.Prelude.{if◌then◌else◌}

-- the places by the keys, with one more stored for a key, if that is known
abbrev pub stored_under : Option ℕ → ℕ → (ℕ → Option ℕ) → ℕ → Option ℕ
stored_under None place old key = old key
stored_under (Some own) place old key = if own == key then Some place else old key
