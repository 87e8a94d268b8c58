-- Spans that share a process also share it as shown: no adjuster changes a process.
use Rattle.std.proofs.Common.{◌≡◌, ℕ, zero, suc, Bool, true, false, List, [], ◌∷◌, map, get_or, refl, sym, ap, ◌∙◌, subst}
use Rattle.std.proofs.lemmas.List.{map-id}
use Rattle.jaeger_model.specs.declared.batch.Process.{Process}
use Rattle.jaeger_model.specs.declared.placed.Placed.{Placed}
use Rattle.trace_model.specs.declared.answer.Shown.{Shown}
use Rattle.trace_model.specs.Adjusting.{spans_of, with_parent_first, unadjusted, adjusted, shown_as}
use Rattle.trace_model.specs.AdjustingTerms.{still}
use Rattle.trace_model.specs.SharedProcesses.{ShareProcesses}
use Rattle.trace_model.proofs.StillSpans.{still_first, same_but_times}

abbrev process_at : List Placed → ℕ → Placed → Process
process_at ps k d = (get_or ps k d).process

still_process : {X : Type 0} (f : X → Placed) (xs : List X) (k : ℕ) (d : Placed)
    → (get_or (map (λ x. still (f x)) xs) k (still d)).process ≡ process_at (map f xs) k d
still_process f [] k d = refl
still_process f (x ∷ xs) zero d = refl
still_process f (x ∷ xs) (suc k) d = still_process f xs k d

-- spans that differ only in their times share their processes alike
shared_alike : {X : Type 0} (f : X → Placed) (ps : List Placed) (xs : List X) (keys : List ℕ) → map (λ x. still (f x)) xs ≡ map still ps
    → ShareProcesses ps keys → ShareProcesses (map f xs) keys
shared_alike f ps xs keys alike share j k d one = same j ∙ share j k d one ∙ sym (same k)
  where
    same : (i : ℕ) → process_at (map f xs) i d ≡ process_at ps i d
    same i =
        sym (still_process f xs i d) ∙ ap (λ qs. process_at qs i (still d)) alike ∙ still_process (λ p. p) ps i d ∙ ap (λ qs. process_at qs i d) (map-id ps)

pub same_spans : (ps : List Placed) → spans_of (map unadjusted ps) ≡ ps
same_spans [] = refl
same_spans (p ∷ ps) = ap (λ r. p ∷ r) (same_spans ps)

pub unadjusted_shares : (ps : List Placed) (keys : List ℕ) → ShareProcesses ps keys → ShareProcesses (spans_of (map unadjusted ps)) keys
unadjusted_shares ps keys share = subst (λ qs. ShareProcesses qs keys) (sym (same_spans ps)) share

pub lent_shares : (ps : List Placed) (keys : List ℕ) → ShareProcesses ps keys → ShareProcesses (map with_parent_first ps) keys
lent_shares ps keys share = shared_alike with_parent_first ps ps keys (λ i. map (λ p. still_first p i) ps) share

pub first_shares : (ps : List Placed) (keys : List ℕ) → ShareProcesses ps keys
    → ShareProcesses (spans_of (map unadjusted (map with_parent_first ps))) keys
first_shares ps keys share = unadjusted_shares (map with_parent_first ps) keys (lent_shares ps keys share)

pub adjusted_shares : (m : ℕ) (ps : List Placed) (keys : List ℕ) → ShareProcesses ps keys → ShareProcesses (spans_of (adjusted m ps)) keys
adjusted_shares m ps keys share = shared_alike (λ (s : Shown). s.placed) ps (adjusted m ps) keys (same_but_times m ps) share

pub shown_shares : (m : ℕ) (raw : Bool) (ps : List Placed) (keys : List ℕ) → ShareProcesses ps keys
    → ShareProcesses (spans_of (shown_as m raw ps)) keys
shown_shares m true ps keys share = unadjusted_shares ps keys share
shown_shares m false ps keys share = adjusted_shares m ps keys share
