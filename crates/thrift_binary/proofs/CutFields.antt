-- The faults of fields up to the stop byte have places if those of each field's value have.
use Rattle.std.proofs.Common.{◌≡◌, ℕ, ℤ, zero, suc, ◌<◌, ◌≤◌, List, [], ◌∷◌, ◌++◌, length, take, Option, Some, None, Result, Ok, Err, refl, ap, arith}
use Rattle.std.proofs.Common.{length-append}
use Rattle.thrift_binary.specs.declared.fault.WireError.{WireError}
use Rattle.thrift_binary.specs.declared.fault.WireError.TheVariants.{Truncated}
use Rattle.thrift_binary.specs.Reading.{◌>>=◌, lift, Read, field_at}
use Rattle.thrift_binary.specs.Fields.{Take, behind_field, fields_in, fields_at}
use Rattle.thrift_binary.specs.Cuts.{Cut, unsettled, IsCutSafe}
use Rattle.thrift_binary.proofs.ReadBytesSpell.{field_found, stop_found, lift_ok}
use Rattle.thrift_binary.proofs.Cuts.{cut_ok, cut_then_at, cut_lift, cut_same, values_have_ends}
use Rattle.thrift_binary.proofs.CutReadings.{field_cut}

-- a head takes at least one byte
head_shorter : (w : List ℕ) (f : Option (ℕ × ℤ)) (r : List ℕ) → field_at w ≡ Ok (f, r) → length r < length w
head_shorter w None r e = omega (arith, ap length (stop_found w r e))
head_shorter w (Some f) r e = let h = field_found w f.0 f.1 r e in omega (arith, ap length h.parts, length-append h.text r)

module _ {S E : Type 0} (wire : WireError → E) (gets : Take S E) (safe : (s : S) (c : ℕ) (i : ℤ) → IsCutSafe (wire Truncated) (gets s c i)) where
  value_no_longer : (s : S) (c : ℕ) (i : ℤ) (w : List ℕ) (t : S) (r : List ℕ) → gets s c i w ≡ Ok (t, r) → length r ≤ length w
  value_no_longer s c i w t r e =
      let h = values_have_ends (wire Truncated) (gets s c i) (safe s c i) w t r e in
      omega (arith, ap length h.1, length-append h.0 r)

  -- after a first field two readings agree if they agree on fewer bytes
  same_behind : (one other : S → List ℕ → Result (S × List ℕ) E) (s : S) (w : List ℕ) → ((t : S) (v : List ℕ) → length v < length w → one t v ≡ other t v)
      → (lift wire (field_at w) >>= λ h. behind_field one gets s h.0 h.1) ≡ (lift wire (field_at w) >>= λ h. behind_field other gets s h.0 h.1)
  same_behind one other s w same = by (field_at w) refl
    where
      after : (r : List ℕ) → length r < length w → (x : Result (S × List ℕ) E) → ((t : S) (v : List ℕ) → x ≡ Ok (t, v) → length v ≤ length r)
          → (x >>= λ y. one y.0 y.1) ≡ (x >>= λ y. other y.0 y.1)
      after r lt (Ok y) shorter = let le : length y.1 ≤ length r = shorter y.0 y.1 refl in same y.0 y.1 (omega arith)
      after r lt (Err e) shorter = refl

      by : (x : Read (Option (ℕ × ℤ))) → field_at w ≡ x
          → (lift wire x >>= λ h. behind_field one gets s h.0 h.1) ≡ (lift wire x >>= λ h. behind_field other gets s h.0 h.1)
      by (Err e) head = refl
      by (Ok (None, r)) head = refl
      by (Ok (Some f, r)) head = after r (head_shorter w (Some f) r head) (gets s f.0 f.1 r) (λ t v e. value_no_longer s f.0 f.1 r t v e)

  -- with any bound of at least the number of bytes the result is the same
  room : (n m : ℕ) (s : S) (w : List ℕ) → length w ≤ n → length w ≤ m → fields_in wire gets n s w ≡ fields_in wire gets m s w
  unfolding fields_in field_at
  room zero zero s w p q = refl
  room zero (suc m) s [] p q = refl
  room (suc n) zero s [] p q = refl
  room zero (suc m) s (b ∷ w) p q = absurd (omega arith)
  room (suc n) zero s (b ∷ w) p q = absurd (omega arith)
  room (suc n) (suc m) s w p q = same_behind (fields_in wire gets n) (fields_in wire gets m) s w (λ t v lt. room n m t v (omega arith) (omega arith))

  -- the first field, and then the others
  step_in : (n : ℕ) (s : S) (w : List ℕ) → length w ≤ n
      → fields_in wire gets n s w ≡ (lift wire (field_at w) >>= λ h. behind_field (λ t v. fields_in wire gets (length v) t v) gets s h.0 h.1)
  unfolding fields_in field_at
  step_in zero s [] le = refl
  step_in zero s (b ∷ w) le = absurd (omega arith)
  step_in (suc n) s w le =
      same_behind (fields_in wire gets n) (λ t v. fields_in wire gets (length v) t v) s w (λ t v lt. room n (length v) t v (omega arith) (omega arith))

  abbrev stepped : S → List ℕ → Result (S × List ℕ) E
  stepped s w = lift wire (field_at w) >>= λ h. behind_field (fields_at wire gets) gets s h.0 h.1

  pub fields_step : (s : S) (w : List ℕ) → fields_at wire gets s w ≡ stepped s w
  unfolding fields_at
  fields_step s w = step_in (length w) s w (omega arith)

  fields_cut_in : (k : ℕ) (s : S) (w : List ℕ) → length w ≤ k → Cut (wire Truncated) (fields_at wire gets s) w
  unfolding fields_at fields_in
  fields_cut_in zero s (b ∷ w) le = absurd (omega arith)
  fields_cut_in zero s [] le = unsettled nothing
    where
      nothing : (m : ℕ) → fields_at wire gets s (take m []) ≡ Err (wire Truncated)
      nothing zero = refl
      nothing (suc m) = refl
  fields_cut_in (suc k) s w le =
      cut_same (wire Truncated) (stepped s) (fields_at wire gets s) (fields_step s) w
      (cut_then_at (wire Truncated) (λ v. lift wire (field_at v)) (behind_field (fields_at wire gets) gets s) w
      (cut_lift wire Truncated field_at w (field_cut w)) (by (λ t v lt. fields_cut_in k t v lt)))
    where
      by : ((t : S) (v : List ℕ) → length v ≤ k → Cut (wire Truncated) (fields_at wire gets t) v)
          → (h : Option (ℕ × ℤ)) (text rest : List ℕ) → w ≡ text ++ rest → lift wire (field_at w) ≡ Ok (h, rest)
          → Cut (wire Truncated) (behind_field (fields_at wire gets) gets s h) rest
      by others None text rest parts e = cut_ok (wire Truncated) (behind_field (fields_at wire gets) gets s None) s (λ v. refl) rest
      by others (Some f) text rest parts e =
          let shorter : length rest < length w = head_shorter w (Some f) rest (lift_ok wire (field_at w) _ e) in
          cut_then_at (wire Truncated) (gets s f.0 f.1) (λ t v. fields_at wire gets t v) rest (safe s f.0 f.1 rest)
          (λ t front left p h. others t left (omega (arith, ap length p, length-append front left)))

  pub fields_cut : (s : S) → IsCutSafe (wire Truncated) (fields_at wire gets s)
  fields_cut s w = fields_cut_in (length w) s w (omega arith)
