use Rattle.std.proofs.Common.{◌≡◌, ℕ, ◌-◌, ◌<◌, ◌≤◌, List, [], map, length, get_or, drop}
use Rattle.jaeger_model.specs.Texts.{sorted_set}
use Rattle.trace_model.specs.Names.{operation_cmp}
use Rattle.service_index.specs.ListedNames.{operations_of}
use Rattle.service_index.specs.Labels.{Names}
use Rattle.service_index.specs.Probes.{AreNumbersBelow}
use Rattle.service_index.specs.Indexes.{owners, operations_at, IsChain, IsNewest}
use Rattle.service_index.proofs.index.numbers_along.Given as goal

abbrev pub invariant-loop-at : goal.invariant-loop-at
invariant-loop-at l = record {
  within : l.at ≤ length l.numbers;
  held : (count : ℕ) → AreNumbersBelow count l.numbers → AreNumbersBelow count l.along.items;
  along : (names : Names) → IsChain (owners names l.numbers) l.earlier → (service : List ℕ)
      → IsNewest (owners names l.numbers) service l.newest (length l.numbers)
      → (0 < l.at → get_or (owners names l.numbers) (l.at - 1) [] ≡ service)
      × (sorted_set operation_cmp (operations_at names l.along.items) ≡ sorted_set operation_cmp (operations_of service (map names.at (drop l.at l.numbers))));
}

-- proposed from the loop's first test
abbrev pub decreases-loop-at : goal.decreases-loop-at
decreases-loop-at l = l.at
