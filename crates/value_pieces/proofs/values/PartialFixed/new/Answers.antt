use Rattle.std.proofs.Common.{ℕ, List, ◌++◌, ap}
use Rattle.value_pieces.proofs.values.PartialFixed.new.Goals as goal

pub returns : goal.returns
returns g c = record { fresh = λ w. ap (λ (b : List ℕ). g.V.Fixed.at (b ++ w)) c.new.ensures.nothing }
