use Rattle.std.proofs.Common.{◌≡◌, ◌<◌, length, vec_len}
use Rattle.std.specs.Prelude.{fold}
use Rattle.std.specs.List.{AllByRecursion}
use Rattle.jaeger_model.specs.declared.placed.Placed.{Placed}
use Rattle.plain_store.specs.RootPaths.{next_clock, downward, clock_down}
use Rattle.plain_store.proofs.adjust.clock_down.Given as goal

abbrev pub invariant-loop-place : goal.invariant-loop-place
invariant-loop-place l = record {
  within : AllByRecursion (λ k. k < length l.trace) l.path.items;
  so_far : (d : Placed) → fold (next_clock l.max_skew) l.clock (downward l.trace l.path.items d) ≡ clock_down l.max_skew l.trace l.fn.path.items d;
}

abbrev pub decreases-loop-place : goal.decreases-loop-place
decreases-loop-place l = vec_len l.path
