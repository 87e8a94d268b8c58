use Rattle.std.proofs.Common.{◌≡◌, ℕ, take}
use Rattle.std.specs.Prelude.{option_map}
use Rattle.std.specs.Ordering.{nat_cmp}
use Rattle.std.specs.BTreeMap.{get}
use Rattle.call_links.specs.NumberedCalls.{service_seen, service_of}
use Rattle.call_links.proofs.calls.first_spans.Given as goal

abbrev pub invariant-loop-span : goal.invariant-loop-span
invariant-loop-span l = (id : ℕ) → option_map service_seen (get nat_cmp l.first id) ≡ service_of id (take l.span-index l.trace)
