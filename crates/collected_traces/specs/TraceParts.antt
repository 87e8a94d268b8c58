-- The items of several traces in one list, which is cut at the start of each trace.
use Rattle.std.specs.Prelude.{◌≤◌, ℕ, List, [], ◌∷◌, length, slice_range}

-- the start of the next trace, or the end of the items
abbrev pub next_start : ℕ → List ℕ → ℕ
next_start end [] = end
next_start end (s ∷ ss) = s

-- the items from each start up to the next one
abbrev pub cut_at : {X : Type 0} → List X → List ℕ → List (List X)
cut_at items [] = []
cut_at items (s ∷ ss) = slice_range items s (next_start (length items) ss) ∷ cut_at items ss

-- none of the starts is after the next one
abbrev pub AreStarts : ℕ → List ℕ → Type 0
AreStarts end [] = Unit {0}
AreStarts end (s ∷ ss) = (s ≤ next_start end ss) × AreStarts end ss
