-- How the spots of a row are linked.
use Rattle.std.specs.Prelude.{◌≡◌, ℕ, zero, suc, ◌+◌, ◌-◌, ◌^◌, ◌<◌, ◌≤◌, cond, nat_eq, List, [], ◌∷◌, length, get_or, drop, map}
use Rattle.std.specs.List.{range_with_len}
use Rattle.trace_assembly.specs.declared.spot.Spot.{Spot}
use Rattle.trace_assembly.specs.declared.chains.Mark.{Mark}
use Rattle.trace_assembly.specs.declared.chains.Ends.{Ends}

abbrev pub spot_in : Mark → Spot
spot_in x = record { place = x.place; index = x.index }

-- the spots of a row, in the order of adding
abbrev pub chain_in : ℕ → List Mark → List Spot
chain_in row [] = []
chain_in row (x ∷ xs) = cond (nat_eq x.row row) (spot_in x ∷ chain_in row xs) (chain_in row xs)

-- those from the mark at an index on, which is given plus one; 0 is the end
abbrev pub from : List Mark → ℕ → ℕ → List Spot
from marks row zero = []
from marks row (suc at) = chain_in row (drop at marks)

abbrev pub no_mark : Mark
no_mark = record { row = 0; index = 0; place = 0 }

abbrev pub mark_at : List Mark → ℕ → Mark
mark_at marks at = get_or marks at no_mark

abbrev pub no_ends : Ends
no_ends = record { first = 0; last = 0 }

abbrev pub ends_at : List Ends → ℕ → Ends
ends_at ends row = get_or ends row no_ends

abbrev pub chains_of : List Mark → List Ends → List (List Spot)
chains_of marks ends = map (λ row. from marks row (ends_at ends row).first) (range_with_len 0 (length ends))

-- a mark of the row is at this index, given plus one, or it is the end
pub record IsPlace (marks : List Mark) (row at : ℕ) : Type 0 where
  pub within : at ≤ length marks
  pub own : 0 < at → (mark_at marks (at - 1)).row ≡ row

-- from here on each mark of the row leads to the next one
pub record IsLinked (marks : List Mark) (next : List ℕ) (row at : ℕ) : Type 0 where
  pub as_many : length next ≡ length marks
  pub start : IsPlace marks row at
  pub places : (k : ℕ) → 0 < at → at ≤ k + 1 → k < length marks → (mark_at marks k).row ≡ row → IsPlace marks row (get_or next k 0)
  pub later : (k : ℕ) → 0 < at → at ≤ k + 1 → k < length marks → (mark_at marks k).row ≡ row → 0 < get_or next k 0 → k + 1 < get_or next k 0
  pub leads : (k : ℕ) → 0 < at → at ≤ k + 1 → k < length marks → (mark_at marks k).row ≡ row
      → from marks row (get_or next k 0) ≡ chain_in row (drop (k + 1) marks)

-- the last mark of a chain
pub record IsLastMark (marks : List Mark) (row first last : ℕ) : Type 0 where
  pub place : IsPlace marks row last
  pub after : first ≤ last
  pub none : chain_in row (drop last marks) ≡ []

pub record IsChained (room : ℕ) (ends : List Ends) (marks : List Mark) (next : List ℕ) : Type 0 where
  pub fits : room < 2 ^ 32
  pub within : length marks ≤ room
  pub as_many : length next ≡ length marks
  pub linked : (row : ℕ) → row < length ends → IsLinked marks next row (ends_at ends row).first
  pub last : (row : ℕ) → row < length ends → 0 < (ends_at ends row).first → IsLastMark marks row (ends_at ends row).first (ends_at ends row).last
