-- The traces at the places of late starts are those that start late.
use Rattle.std.proofs.Common.{◌≡◌, ℕ, suc, zero, ℤ, ◌+◌, ◌<◌, Bool, true, false, cond, List, [], ◌∷◌, map, length, get_or, drop, sym, ap, ◌∙◌, refl, arith}
use Rattle.std.specs.Prelude.{filter, int_lt, if◌then◌else◌}
use Rattle.std.proofs.lemmas.List.{get_or-drop, drop-drop}
use Rattle.jaeger_model.specs.declared.ids.TraceId.{TraceId}
use Rattle.trace_assembly.specs.declared.spot.Spot.{Spot}
use Rattle.journal_traces.proofs.SpansAtSpots.{no_id}
use Rattle.trace_ring.specs.FirstStarts.{positions_from, positions_after}

-- each of the places is one of a start
within_from : (time : ℤ) (k : ℕ) (ss : List ℤ) (i : ℕ) → i < length (positions_from time k ss) → get_or (positions_from time k ss) i 0 < k + length ss
within_from time k [] i h = absurd (omega arith)
within_from time k (s ∷ ss) i h = by (within_from time (suc k) ss) (int_lt time s) i h
  where
    by : ((j : ℕ) → j < length (positions_from time (suc k) ss) → get_or (positions_from time (suc k) ss) j 0 < suc k + length ss) → (b : Bool) (j : ℕ)
        → j < length (if b then k ∷ positions_from time (suc k) ss else positions_from time (suc k) ss)
        → get_or (if b then k ∷ positions_from time (suc k) ss else positions_from time (suc k) ss) j 0 < k + length (s ∷ ss)
    by later true zero l = omega arith
    by later true (suc j) l = let next = later j (omega arith) in omega arith
    by later false j l = let next = later j l in omega arith

pub within : (time : ℤ) (ss : List ℤ) (i : ℕ) → i < length (positions_after time ss) → get_or (positions_after time ss) i 0 < length ss
within time ss i h = let there = within_from time 0 ss i h in omega arith

placed_from : (f : TraceId → List Spot) (start : TraceId → ℤ) (time : ℤ) (all : List TraceId) (k : ℕ) (ids : List TraceId) → drop k all ≡ ids
    → map (λ p. f (get_or all p no_id)) (positions_from time k (map start ids)) ≡ map f (filter (λ t. int_lt time (start t)) ids)
placed_from f start time all k [] at = refl
placed_from f start time all k (x ∷ xs) at =
    let here : k + 0 ≡ k = omega arith in
    let next : k + 1 ≡ suc k = omega arith in
    let own : get_or all k no_id ≡ x = ap (λ n. get_or all n no_id) (sym here) ∙ sym (get_or-drop k all 0 no_id) ∙ ap (λ l. get_or l 0 no_id) at in
    let after : drop (suc k) all ≡ xs = ap (λ n. drop n all) (sym next) ∙ sym (drop-drop 1 k all) ∙ ap (drop 1) at in
    let rest = placed_from f start time all (suc k) xs after in
    elim (int_lt time (start x)) as (λ b. map
    (λ p. f (get_or all p no_id)) (if b then k ∷ positions_from time (suc k) (map start xs) else positions_from time (suc k) (map start xs))
    ≡ map f (cond b (x ∷ filter (λ t. int_lt time (start t)) xs) (filter (λ t. int_lt time (start t)) xs))) [
      | true ↦ λ i. f (own i) ∷ rest i
      | false ↦ rest
    ]

pub placed : (f : TraceId → List Spot) (start : TraceId → ℤ) (time : ℤ) (ids : List TraceId)
    → map (λ p. f (get_or ids p no_id)) (positions_after time (map start ids)) ≡ map f (filter (λ t. int_lt time (start t)) ids)
placed f start time ids = placed_from f start time ids 0 ids refl
