use Rattle.std.proofs.Common.{◌≡◌, ◌-◌, ◌++◌, length}
use Rattle.std.specs.Prelude.{option_map}
use Rattle.plain_store.specs.RootPaths.{path}
use Rattle.plain_store.proofs.adjust.path_up.Given as goal

abbrev pub invariant-loop-step : goal.invariant-loop-step
invariant-loop-step l =
    path (length l.parents) l.parents l.start ≡ option_map (λ above. l.path.items ++ above) (path (length l.parents - l._step) l.parents l.at)
