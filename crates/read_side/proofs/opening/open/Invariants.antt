use Rattle.std.proofs.Common.{◌≡◌, ◌≤◌, vec_len, vec_capacity}
use Rattle.std.specs.List.{All}
use Rattle.read_side.specs.Passes.{new_pass}
use Rattle.read_side.proofs.opening.open.Given as goal

abbrev pub invariant-loop-made : goal.invariant-loop-made
invariant-loop-made g l = All (λ p. p ≡ new_pass) l.passes.items × (vec_len l.passes ≡ l._made) × (l.readers ≤ vec_capacity l.passes)
