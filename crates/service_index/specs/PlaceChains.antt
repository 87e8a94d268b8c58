-- Places that lead from one to the next.
use Rattle.std.specs.Prelude.{ℕ, zero, suc, ◌<◌, ◌≤◌, List, [], ◌∷◌, length, get_or}

-- at most n places from this one on; the place that follows that of an entry is at the index of the number of
-- entries before it, and 0 is the end
abbrev pub along : ℕ → List ℕ → ℕ → List ℕ
along zero earlier at = []
along (suc n) earlier zero = []
along (suc n) earlier (suc k) = suc k ∷ along n earlier (get_or earlier k 0)

-- the place is one of these or the end, and each leads back
pub record IsBack (earlier : List ℕ) (at : ℕ) : Type 0 where
  pub within : at ≤ length earlier
  pub back : (k : ℕ) → k < length earlier → get_or earlier k 0 ≤ k
