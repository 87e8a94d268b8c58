-- Deltas of which some are known, in two lists.
use Rattle.std.specs.Prelude.{◌≡◌, Bool, true, false, ℤ, pos, List, [], ◌∷◌, map, Option, Some, None, option_map}
use Rattle.std.specs.Prelude.{if◌then◌else◌}
use Rattle.trace_adjust.specs.declared.known_deltas.KnownDelta.{KnownDelta}
use Rattle.trace_adjust.specs.declared.known_deltas.Mark.{Mark}
use Rattle.trace_adjust.specs.declared.known_deltas.Mark.TheVariants.{Unknown, Stays, Moves}

-- the delta, if it is known by its mark
abbrev pub known_by : Mark → ℤ → Option KnownDelta
known_by Unknown d = None
known_by Stays d = Some (record { delta = d; moves = false })
known_by Moves d = Some (record { delta = d; moves = true })

abbrev pub mark_when : Bool → Mark
mark_when moves = if moves then Moves else Stays

abbrev pub mark_of : Option KnownDelta → Mark
mark_of None = Unknown
mark_of (Some k) = mark_when k.moves

-- the deltas that are known by their marks
abbrev pub known_where : List Mark → List ℤ → List (Option KnownDelta)
known_where [] ds = []
known_where (m ∷ ms) [] = []
known_where (m ∷ ms) (d ∷ ds) = known_by m d ∷ known_where ms ds

abbrev pub delta_of : Option KnownDelta → Option ℤ
delta_of o = option_map (λ (k : KnownDelta). k.delta) o

abbrev pub or_zero : Option ℤ → ℤ
or_zero None = pos 0
or_zero (Some d) = d

abbrev pub delta_or_zero : Option KnownDelta → ℤ
delta_or_zero o = or_zero (delta_of o)

abbrev pub deltas_in : List (Option KnownDelta) → List (Option ℤ)
deltas_in ks = map delta_of ks

-- both lists have one element for each delta, and a delta that isn't known is 0
pub record AreParts (marks : List Mark) (deltas : List ℤ) : Type 0 where
  pub marked : marks ≡ map mark_of (known_where marks deltas)
  pub zero_else : deltas ≡ map delta_or_zero (known_where marks deltas)
