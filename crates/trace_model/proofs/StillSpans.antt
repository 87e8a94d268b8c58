-- What adjusting leaves unchanged in a span: all but its times and the order of its references.
use Rattle.std.proofs.Common.{◌≡◌, ℕ, ℤ, pos, Bool, true, false, ◌&&◌, List, [], ◌∷◌, ◌++◌, map, refl, ap, ◌∙◌, nat_le, nat_abs}
use Rattle.std.specs.Prelude.{Option, Some, None, not, if◌then◌else◌}
use Rattle.std.specs.Ordering.{int_eq}
use Rattle.std.specs.List.{list_any}
use Rattle.jaeger_model.specs.declared.span.Log.{Log}
use Rattle.jaeger_model.specs.declared.placed.Placed.{Placed}
use Rattle.jaeger_model.specs.Parents.{needs_no_reference, parent_reference}
use Rattle.trace_model.specs.declared.answer.Shown.{Shown}
use Rattle.trace_model.specs.declared.clock.Clock.{Clock}
use Rattle.trace_model.specs.ServiceLinks.{has_id}
use Rattle.trace_model.specs.Adjusting.{unadjusted, warned, past_limit, past_times, adjusted_by, all_fit, is_applied, move_log, moved_placed, shifted}
use Rattle.trace_model.specs.Adjusting.{shifted_by, shown_after, skew_adjusted_after, parent_first, with_parent_first, adjusted, clock_of}
use Rattle.trace_model.specs.AdjustingTerms.{still, still_log}

-- a span stays unchanged, or is left with a warning, or is moved
pub shifted_cases : (P : Shown → Type 0) (m : ℕ) (d : ℤ) (p : Placed) → (int_eq d (pos 0) ≡ true → P (unadjusted p))
    → ((w : List ℕ) → is_applied m d p.span ≡ false → P (warned p w))
    → (is_applied m d p.span ≡ true → P (warned (moved_placed d p) (adjusted_by d))) → P (shifted m d p)
shifted_cases P m d p = by_tests (int_eq d (pos 0)) (nat_le (nat_abs d) m) (all_fit d p.span)
  where
    by_tests : (none within fit : Bool) → (none ≡ true → P (unadjusted p)) → ((w : List ℕ) → (within && fit) ≡ false → P (warned p w))
        → ((within && fit) ≡ true → P (warned (moved_placed d p) (adjusted_by d)))
        → P (if none then unadjusted p else if not within then warned p (past_limit d m) else if not fit then warned p (past_times d) else warned
        (moved_placed d p) (adjusted_by d))
    by_tests true within fit stays left moves = stays refl
    by_tests false false fit stays left moves = left (past_limit d m) refl
    by_tests false true false stays left moves = left (past_times d) refl
    by_tests false true true stays left moves = moves refl

same_logs : (d : ℤ) (ls : List Log) → map still_log (map (move_log d) ls) ≡ map still_log ls
same_logs d [] = refl
same_logs d (l ∷ ls) = ap (λ r. still_log l ∷ r) (same_logs d ls)

still_shifted : (m : ℕ) (d : ℤ) (p : Placed) → still (shifted m d p).placed ≡ still p
still_shifted m d p = shifted_cases (λ s. still s.placed ≡ still p) m d p (λ _. refl) (λ _ _. refl) (λ _. still_moved)
  where
    still_moved : still (moved_placed d p) ≡ still p
    still_moved =
        ap (λ (ls : List Log). record { process = p.process; span = record p.span { references = []; start = pos 0; logs = ls } }) (same_logs d p.span.logs)

still_by : (m : ℕ) (p : Placed) (o : Option Clock) → still (shifted_by m p o).placed ≡ still p
still_by m p None = refl
still_by m p (Some c) = still_shifted m c.delta p

still_after : (m : ℕ) (trace before : List Placed) (p : Placed) → still (shown_after m trace before p).placed ≡ still p
still_after m trace before p =
    elim (list_any (has_id p.span.id) before) as (λ b. still (if b then unadjusted p else shifted_by m p (clock_of m trace p)).placed ≡ still p) [
      | true ↦ refl
      | false ↦ still_by m p (clock_of m trace p)
    ]

-- a further reference and the order of references don't matter
pub still_first : (p : Placed) → still (with_parent_first p) ≡ still p
still_first p =
    elim (needs_no_reference p.span) as (λ b.
    still (record {
      process = p.process;
      span = parent_first (if b then p.span else record p.span { references = parent_reference p.span ∷ p.span.references });
    }) ≡ still p) [
      | true ↦ refl
      | false ↦ refl
    ]

pub same_but_times : (m : ℕ) (trace : List Placed) → map (λ (s : Shown). still s.placed) (adjusted m trace) ≡ map still trace
same_but_times m trace = go [] trace
  where
    go : (before rest : List Placed)
        → map (λ (s : Shown). still s.placed) (skew_adjusted_after m (map with_parent_first trace) before (map with_parent_first rest)) ≡ map still rest
    go before [] = refl
    go before (p ∷ rest) =
        λ i. (still_after m (map with_parent_first trace) before (with_parent_first p) ∙ still_first p) i ∷ go (before ++ with_parent_first p ∷ []) rest i
