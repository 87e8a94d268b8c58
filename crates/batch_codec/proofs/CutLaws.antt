-- The law of cuts for batches.
use Rattle.std.proofs.Common.{◌≡◌, ℕ, ◌≤◌, ◌<◌, false, eqb, List, [], ◌∷◌, ◌++◌, length, take, Result, Ok, Err, refl, sym, ap, subst, ◌∙◌, append-nil}
use Rattle.std.proofs.Common.{length-append, arith}
use Rattle.std.proofs.Math.Seq.{take-append_seam}
use Rattle.std.proofs.lemmas.Bool.{ne_eqb}
use Rattle.std.proofs.lemmas.List.{take-append-le}
use Rattle.jaeger_model.specs.declared.batch.Batch.{Batch}
use Rattle.thrift_binary.specs.declared.fault.WireError.TheVariants.{Truncated}
use Rattle.thrift_binary.proofs.Cuts as readings
use Rattle.thrift_binary.proofs.ReadBytesSpell.{failed, err_is, ok_is_no_err}
use Rattle.batch_codec.specs.declared.fault.DecodeError.{DecodeError}
use Rattle.batch_codec.specs.declared.fault.DecodeError.TheVariants.{Wire, Trailing}
use Rattle.batch_codec.specs.BatchReading.{batch_at, at_end, decoded}
use Rattle.batch_codec.specs.Cuts.{IsTruncated, IsPlace, FaultsHavePlaces, TrailingHasAPlace, TruncatedBeginsTruncated, BatchesEnd}
use Rattle.batch_codec.proofs.CutBatches.{batch_safe, batch_never}

-- ---- from a batch at the front to all of the bytes

of_err : (v : List ℕ) (e : DecodeError) → batch_at v ≡ Err e → decoded v ≡ Err e
unfolding decoded
of_err v e h = rw h refl

of_ok : (v : List ℕ) (b : Batch) (r : List ℕ) → batch_at v ≡ Ok (b, r) → decoded v ≡ at_end (b, r)
unfolding decoded
of_ok v b r h = rw h refl

end_some : (b : Batch) (v : List ℕ) → (v ≡ [] → ⊥) → at_end (b, v) ≡ Err Trailing
end_some b [] ne = absurd (ne refl)
end_some b (x ∷ v) ne = let some : eqb (length (x ∷ v)) 0 ≡ false = ne_eqb (length (x ∷ v)) 0 (λ e. absurd (omega arith)) in rw some refl

no_some : (x : ℕ) (v : List ℕ) → x ∷ v ≡ [] → ⊥
no_some x v e = absurd (omega (arith, ap length e))

left_over : (e : DecodeError) (b : Batch) (r : List ℕ) → failed {A = Batch} e ≡ at_end (b, r) → e ≡ Trailing
left_over e b [] h = absurd (ok_is_no_err b e (sym h))
left_over e b (x ∷ r) h = err_is e Trailing (h ∙ end_some b (x ∷ r) (no_some x r))

-- where a batch ends
ends : (w : List ℕ) (b : Batch) (r : List ℕ) → batch_at w ≡ Ok (b, r) → (text : List ℕ) × (w ≡ text ++ r) × IsPlace (length text) w
    × ((v : List ℕ) → decoded (text ++ v) ≡ at_end (b, v))
ends w b r h =
    let p = readings.values_have_ends (Wire Truncated) batch_at batch_safe w b r h in
    let within : length p.0 ≤ length w = omega (arith, ap length p.1, length-append p.0 r) in
    let before : (m : ℕ) → m < length p.0 → IsTruncated (take m w) =
    λ m lt. ap (λ (v : List ℕ). decoded (take m v)) p.1 ∙ ap decoded (take-append-le m p.0 r (omega arith)) ∙ of_err (take m p.0) (Wire Truncated) (p.2 m lt) in
    (p.0, p.1, (within, before), λ v. of_ok (p.0 ++ v) b v (p.3 v))

-- ---- the laws

pub faults_have_places : FaultsHavePlaces
faults_have_places w e is not_short not_trailing = by (batch_at w) refl
  where
    by : (r : Result (Batch × List ℕ) DecodeError) → batch_at w ≡ r → (n : ℕ) × IsPlace n w × ((v : List ℕ) → decoded (take n w ++ v) ≡ Err e)
    by (Ok (b, r)) h = absurd (not_trailing (left_over e b r (sym is ∙ of_ok w b r h)))
    by (Err d) h =
        let same : d ≡ e = err_is d e (sym (of_err w d h) ∙ is) in
        let p = readings.faults_have_places (Wire Truncated) batch_at batch_safe w e (rw same at h) not_short in
        (p.0, (p.1, λ m lt. of_err (take m w) (Wire Truncated) (p.2 m lt)), λ v. of_err (take p.0 w ++ v) e (p.3 v))

pub trailing_has_a_place : TrailingHasAPlace
trailing_has_a_place w is = by (batch_at w) refl
  where
    by : (r : Result (Batch × List ℕ) DecodeError) → batch_at w ≡ r → (n : ℕ) × IsPlace n w × (b : Batch) × (decoded (take n w) ≡ Ok b)
        × ((v : List ℕ) → (v ≡ [] → ⊥) → decoded (take n w ++ v) ≡ Err Trailing)
    by (Ok (b, r)) h =
        let p = ends w b r h in
        let front : take (length p.0) w ≡ p.0 = ap (take (length p.0)) p.1 ∙ take-append_seam p.0 r in
        let behind : (v : List ℕ) → decoded (take (length p.0) w ++ v) ≡ at_end (b, v) = λ v. ap (λ (t : List ℕ). decoded (t ++ v)) front ∙ p.3 v in
        (length p.0, p.2, b, ap decoded (sym (append-nil (take (length p.0) w))) ∙ behind [], λ v some. behind v ∙ end_some b v some)
    by (Err d) h = let same : d ≡ Trailing = err_is d Trailing (sym (of_err w d h) ∙ is) in absurd (batch_never w (rw same at h))

pub truncated_begins_truncated : TruncatedBeginsTruncated
truncated_begins_truncated w is m = by (batch_at w) refl
  where
    by : (r : Result (Batch × List ℕ) DecodeError) → batch_at w ≡ r → IsTruncated (take m w)
    by (Ok (b, r)) h = let same : Wire Truncated ≡ Trailing = left_over (Wire Truncated) b r (sym is ∙ of_ok w b r h) in absurd cc
    by (Err d) h =
        let same : d ≡ Wire Truncated = err_is d (Wire Truncated) (sym (of_err w d h) ∙ is) in
        of_err (take m w) (Wire Truncated) (readings.short_stays_short (Wire Truncated) batch_at batch_safe w (rw same at h) m)

pub batches_end : BatchesEnd
batches_end w b is = by (batch_at w) refl
  where
    by : (r : Result (Batch × List ℕ) DecodeError) → batch_at w ≡ r → IsPlace (length w) w × ((v : List ℕ) → (v ≡ [] → ⊥) → decoded (w ++ v) ≡ Err Trailing)
    by (Ok (c, [])) h =
        let p = ends w c [] h in
        let same : p.0 ≡ w = sym (p.1 ∙ append-nil p.0) in
        (subst (λ t. IsPlace (length t) w) same p.2, λ v some. ap (λ (t : List ℕ). decoded (t ++ v)) (sym same) ∙ p.3 v ∙ end_some c v some)
    by (Ok (c, x ∷ r)) h = absurd (ok_is_no_err b Trailing (sym is ∙ of_ok w c (x ∷ r) h ∙ end_some c (x ∷ r) (no_some x r)))
    by (Err d) h = absurd (ok_is_no_err b d (sym is ∙ of_err w d h))
