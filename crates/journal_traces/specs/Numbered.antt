-- Numbers of the entries of a history among those that are collected.
use Rattle.std.specs.Prelude.{◌≡◌, ℕ, zero, suc, List, [], ◌∷◌, length, get_or, slice_get, Option, Some, None}
use Rattle.trace_model.specs.declared.entry.Entry.{Entry}

-- the number before this one, if there is one
abbrev pub preceding : ℕ → Option ℕ
preceding zero = None
preceding (suc n) = Some n

-- the count of entries that have a number
abbrev pub numbered : List (Option ℕ) → ℕ
numbered [] = 0
numbered (None ∷ ns) = numbered ns
numbered (Some n ∷ ns) = suc (numbered ns)

-- each entry of a history that has a number is the collected entry with this number
pub record AreNumbers (h es : List Entry) (numbers : List (Option ℕ)) : Type 0 where
  pub as_many : length numbers ≡ length h
  pub counted : numbered numbers ≡ length es
  pub each : (k n : ℕ) (e : Entry) → get_or numbers k None ≡ Some n → slice_get h k ≡ Some e → slice_get es n ≡ Some e
