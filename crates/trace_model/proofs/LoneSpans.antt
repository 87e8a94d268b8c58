-- A trace of one span: no clock moves it.
use Rattle.std.proofs.Common.{◌≡◌, ℕ, [], ◌∷◌, map, refl, sym, ap}
use Rattle.std.specs.Prelude.{Option, Some, None, option_and_then}
use Rattle.std.specs.List.{cons_option}
use Rattle.jaeger_model.specs.declared.placed.Placed.{Placed}
use Rattle.trace_model.specs.Adjusting.{adjusted, chain, chain_through, clock_along, clock_of, shifted_by, unadjusted, with_parent_first}
use Rattle.trace_model.specs.KeptTraces.{lone_value}
use Rattle.trace_model.specs.ServiceLinks.{parent_in}
use Rattle.trace_model.specs.TakenSpans.{Taken, placed_taken}

still_alone : (m : ℕ) (p : Placed) (up : Option Placed)
    → shifted_by m p (option_and_then (clock_along m) (chain_through p (λ q. None) up)) ≡ unadjusted p
still_alone m p None = refl
still_alone m p (Some q) = refl

-- the span's only chain has the span alone, or there is none, since its parent would be itself
alone : (m : ℕ) (p : Placed) → shifted_by m p (clock_of m (p ∷ []) p) ≡ unadjusted p
unfolding chain
alone m p = still_alone m p (parent_in (p ∷ []) p)

by_span : (m : ℕ) (o : Option Placed) → map unadjusted (map with_parent_first (cons_option o [])) ≡ adjusted m (cons_option o [])
by_span m None = refl
by_span m (Some p) = ap (λ s. s ∷ []) (sym (alone m (with_parent_first p)))

pub lone_adjusted : (m : ℕ) (t : Taken) → lone_value t ≡ adjusted m (placed_taken (t ∷ []))
lone_adjusted m t = by_span m t.span
