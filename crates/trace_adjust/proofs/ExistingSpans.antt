-- Spans that exist.
use Rattle.std.proofs.Common.{◌≡◌, ◌<◌, ◌∙◌, ℕ, Bool, List, [], ◌∷◌, ◌++◌, length, get_or, map, sym, ap, arith}
use Rattle.std.specs.Prelude.{Option, Some, option_map}
use Rattle.std.proofs.lemmas.List.{get_or-map, length-map, map-append}
use Rattle.jaeger_model.specs.declared.placed.Placed.{Placed}
use Rattle.trace_model.specs.TakenSpans.{Taken, placed_taken}
use Rattle.trace_model.proofs.TakenSpans.{one_more}
use Rattle.trace_adjust.specs.LentSpans.{AreThere, placed_as}

abbrev pub span_in : Taken → Option Placed
span_in t = t.span

pub there_count : (ts : List Taken) → AreThere ts → length (placed_taken ts) ≡ length ts
there_count ts there = sym (length-map (placed_taken ts) Some) ∙ ap length there ∙ length-map ts span_in

-- one more span that exists
pub one_more_there : (ts : List Taken) (t : Taken) (p : Placed) → AreThere ts → t.span ≡ Some p → AreThere (ts ++ t ∷ [])
one_more_there ts t p there is =
    ap (map Some) (one_more ts t p is) ∙ map-append Some (placed_taken ts) (p ∷ []) ∙ (λ i. there i ++ sym is i ∷ [])
    ∙ sym (map-append span_in ts (t ∷ []))

-- what is read there, whatever is read past them
there_at : (ts : List Taken) (i : ℕ) (k : Option Placed) (p : Placed) → AreThere ts → i < length ts
    → get_or (map span_in ts) i k ≡ Some (get_or (placed_taken ts) i p)
there_at ts i k p there within =
    ap (λ os. get_or os i k) (sym there) ∙ get_or-map Some (placed_taken ts) i p k (omega (arith, within, there_count ts there))

-- one of them, as it is borrowed
pub lent_there : (raw : Bool) (ts : List Taken) (i : ℕ) (k : Option Placed) (p : Placed) → AreThere ts → i < length ts
    → Some p ≡ option_map (placed_as raw) (get_or (map span_in ts) i k) → p ≡ get_or (map (placed_as raw) (placed_taken ts)) i p
lent_there raw ts i k p there within is =
    let here : Some p ≡ Some (placed_as raw (get_or (placed_taken ts) i p)) = is ∙ ap (option_map (placed_as raw)) (there_at ts i k p there within) in
    let same : p ≡ placed_as raw (get_or (placed_taken ts) i p) = cc (here) in
    same ∙ sym (get_or-map (placed_as raw) (placed_taken ts) i p p (omega (arith, within, there_count ts there)))
