use Rattle.std.proofs.Common.{◌≡◌, ◌++◌, take}
use Rattle.std.specs.List.{filter_map}
use Rattle.trace_model.specs.ServiceLinks.{call_from, parent_in}
use Rattle.plain_store.proofs.links.add_calls.Given as goal

abbrev pub invariant-loop-placed : goal.invariant-loop-placed
invariant-loop-placed l = l.calls.items ≡ l.fn.calls.items ++ filter_map (λ p. call_from p (parent_in l.trace p)) (take l.placed-index l.trace)
