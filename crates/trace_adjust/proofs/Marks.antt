-- The marks of known deltas: they say how a span starts.
use Rattle.std.proofs.Common.{◌≡◌, ℕ, ℤ, pos, ◌<◌, Bool, true, false, List, length, get_or, set, replicate, refl, sym, ap, ◌∙◌}
use Rattle.std.proofs.Common.{◌+ℤ◌, ⊎_elim, subst, get_or-set_same, get_or-set_other}
use Rattle.std.specs.Prelude.{Option, Some, None, IfSome, IsTrue, is_some, not, nat_abs, nat_le, ◌&&◌, if◌then◌else◌}
use Rattle.std.specs.List.{list_all}
use Rattle.std.specs.Ordering.{int_eq}
use Rattle.std.proofs.Math.IntN.{+ℤ_idr}
use Rattle.std.proofs.lemmas.Bool.{and_parts, cases_eq}
use Rattle.std.proofs.lemmas.Bool.Decides.{Decides-int_eq}
use Rattle.std.proofs.lemmas.List.{length-map, map-set}
use Rattle.std.proofs.lemmas.Option.{MatchOption-from_none}
use Rattle.jaeger_model.specs.declared.placed.Placed.{Placed}
use Rattle.jaeger_model.specs.declared.span.Log.{Log}
use Rattle.jaeger_model.specs.declared.span.Span.{Span}
use Rattle.trace_model.specs.Adjusting.{all_fit, fits, is_applied, start_at}
use Rattle.trace_model.proofs.ParentChains.{is_some-map}
use Rattle.trace_adjust.specs.declared.known_deltas.KnownDelta.{KnownDelta}
use Rattle.trace_adjust.specs.KnownClocks.{start_with, IsMarked, AreMarked, AreSet}
use Rattle.trace_adjust.specs.KnownDeltas.{delta_of, deltas_in}
use Rattle.trace_adjust.proofs.KnownClocks.{none_at, none_set}
use Rattle.trace_adjust.proofs.KnownParts.{known_read, no_deltas_in}

-- ---- the start of a span whose delta has a mark
module _ (m : ℕ) (k : KnownDelta) (s : Span) (mark : IsMarked m s k) where
  pub start_is : start_with k s ≡ start_at m k.delta s
  start_is = ap (λ b. if b then s.start +ℤ k.delta else s.start) mark ∙ by_zero (int_eq k.delta (pos 0)) refl
    where
      stays : (b : Bool) → k.delta ≡ pos 0 → s.start ≡ (if b then s.start +ℤ k.delta else s.start)
      stays true e = sym (ap (λ d. s.start +ℤ d) e ∙ +ℤ_idr s.start)
      stays false e = refl

      by_zero : (z : Bool) → int_eq k.delta (pos 0) ≡ z → (if not z && is_applied m k.delta s then s.start +ℤ k.delta else s.start) ≡ start_at m k.delta s
      by_zero false e = refl
      by_zero true e = stays (is_applied m k.delta s) ((Decides-int_eq k.delta (pos 0)).0 e)

  pub start_fits : k.moves ≡ true → IsTrue (fits (s.start +ℤ k.delta))
  start_fits e =
      let moved = and_parts (not (int_eq k.delta (pos 0))) (is_applied m k.delta s) (sym mark ∙ e) in
      let applied = and_parts (nat_le (nat_abs k.delta) m) (all_fit k.delta s) moved.1 in
      (and_parts (fits (s.start +ℤ k.delta)) (list_all (λ (l : Log). fits (l.at +ℤ k.delta)) s.logs) applied.1).0

-- ---- reads
pub mark_there : (m : ℕ) (trace : List Placed) (ks : List (Option KnownDelta)) (j : ℕ) (q : Placed) (k : KnownDelta) → AreMarked m trace ks
    → j < length trace → get_or ks j None ≡ Some k → ((d : Placed) → q ≡ get_or trace j d) → IsMarked m q.span k
mark_there m trace ks j q k are l known there =
    subst (λ (x : Placed). IsMarked m x.span k) (sym (there q)) (subst (λ o. IfSome o (IsMarked m (get_or trace j q).span)) known (are j q l))

pub count_known : (ks : List (Option KnownDelta)) → length (deltas_in ks) ≡ length ks
count_known ks = length-map ks delta_of

-- ---- before any is known
pub none_marked : (m : ℕ) (trace : List Placed) → AreMarked m trace (replicate (length trace) None)
none_marked m trace k d l =
    MatchOption-from_none (get_or (replicate (length trace) None) k None) (IsMarked m (get_or trace k d).span) (none_at (length trace) k None refl)

pub none_known : (m : ℕ) (trace : List Placed) → AreSet m trace (deltas_in (replicate (length trace) None))
none_known m trace = subst (AreSet m trace) (sym (no_deltas_in (length trace) None refl)) (none_set m trace)

-- ---- one more delta
pub mark_more : (m : ℕ) (trace : List Placed) (ks new : List (Option KnownDelta)) (i : ℕ) (o : Option KnownDelta) → i < length ks → new ≡ set ks i o
    → ((d : Placed) → IfSome o (IsMarked m (get_or trace i d).span)) → AreMarked m trace ks → AreMarked m trace new
mark_more m trace ks new i o within put here are k d l = ⊎_elim
    (λ (same : k ≡ i).
    subst (λ n. IfSome n (IsMarked m (get_or trace k d).span))
    (sym (ap (λ x. get_or x k None) put ∙ ap (λ j. get_or (set ks i o) j None) same ∙ get_or-set_same ks i o None within))
    (subst (λ j. IfSome o (IsMarked m (get_or trace j d).span)) (sym same) (here d)))
    (λ (other : k ≡ i → ⊥).
    subst (λ n. IfSome n (IsMarked m (get_or trace k d).span)) (sym (ap (λ x. get_or x k None) put ∙ get_or-set_other ks i k o None other)) (are k d l))
    (cases_eq k i)

-- the deltas after it
pub deltas_set : (ks new : List (Option KnownDelta)) (i : ℕ) (o : Option KnownDelta) (delta : Option ℤ) → new ≡ set ks i o → delta_of o ≡ delta
    → deltas_in new ≡ set (deltas_in ks) i delta
deltas_set ks new i o delta put is = ap deltas_in put ∙ map-set delta_of ks i o ∙ ap (set (deltas_in ks) i) is

pub is_stored : (o : Option KnownDelta) (delta : Option ℤ) → delta_of o ≡ delta → is_some o ≡ is_some delta
is_stored o delta is = sym (is_some-map (λ (k : KnownDelta). k.delta) o) ∙ ap is_some is

pub is_known_at : (ks : List (Option KnownDelta)) (i : ℕ) → is_some (get_or (deltas_in ks) i None) ≡ is_some (get_or ks i None)
is_known_at ks i = ap is_some (known_read ks i) ∙ is_some-map (λ (k : KnownDelta). k.delta) (get_or ks i None)
