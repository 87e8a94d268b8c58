use Rattle.std.proofs.Common.{take}
use Rattle.std.specs.List.{All}
use mathlib.Core.List.{IsPrefix}
use Rattle.read_side.proofs.prefix.longest.Given as goal

abbrev pub invariant-loop-other : goal.invariant-loop-other
invariant-loop-other g l = IsPrefix l.fn.first l.longest × All (λ p. IsPrefix p l.longest) (take l.other-index l.fn.others)
