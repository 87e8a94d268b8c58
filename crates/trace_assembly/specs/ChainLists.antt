-- The value of chains.
use Rattle.std.specs.Prelude.{ℕ, List}
use Rattle.trace_assembly.specs.declared.spot.Spot.{Spot}

-- the spots of each row in the order of adding, the number that was added in all, and the number that may be
pub record ChainsValue : Type 0 where
  pub chains : List (List Spot)
  pub used : ℕ
  pub room : ℕ
