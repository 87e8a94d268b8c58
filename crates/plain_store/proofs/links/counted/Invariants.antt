use Rattle.std.proofs.Common.{◌≡◌, List, ℕ, take, map, count_by}
use Rattle.jaeger_model.specs.Texts.{sorted_set}
use Rattle.trace_model.specs.declared.answer.Link.{Link}
use Rattle.trace_model.specs.ServiceLinks.{call_cmp, same_call}
use Rattle.plain_store.proofs.links.counted.Given as goal

abbrev pub invariant-loop-caller : goal.invariant-loop-caller
invariant-loop-caller l = l.pairs.items ≡ sorted_set call_cmp (take l.caller-index l.calls)

abbrev pub link_of : List (List ℕ × List ℕ) → List ℕ × List ℕ → Link
link_of cs c = record { parent = c.0; child = c.1; calls = count_by (same_call c) cs }

abbrev pub invariant-loop-pair : goal.invariant-loop-pair
invariant-loop-pair l = l.links.items ≡ map (link_of l.calls) l.yielded
