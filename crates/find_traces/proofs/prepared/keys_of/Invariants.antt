use Rattle.std.proofs.Common.{◌≡◌, ℕ, List, take}
use Rattle.std.specs.List.{list_any}
use Rattle.std.specs.Ordering.{eq_by_cmp}
use Rattle.jaeger_model.specs.Texts.{text_cmp}
use Rattle.find_traces.proofs.prepared.keys_of.Given as goal

abbrev pub invariant-loop-pair : goal.invariant-loop-pair
invariant-loop-pair l =
    (k : List ℕ) → list_any (eq_by_cmp text_cmp k) l.keys.keys ≡ list_any (λ (a : List ℕ × List ℕ). eq_by_cmp text_cmp k a.0) (take l.pair-index l.requested)
