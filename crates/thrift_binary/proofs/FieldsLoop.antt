-- A loop over fields, up to the stop byte: after each field the reading that it began continues.
use Rattle.std.proofs.Common.{◌≡◌, ℕ, ℤ, zero, suc, ◌≤◌, ◌<◌, List, [], ◌∷◌, length, Some, None, Result, Ok, Err, refl, sym, ◌∙◌, arith}
use Rattle.thrift_binary.specs.declared.fault.WireError.{WireError}
use Rattle.thrift_binary.specs.declared.fault.WireError.TheVariants.{Truncated}
use Rattle.thrift_binary.specs.Reading.{◌>>=◌, lift, field_at}
use Rattle.thrift_binary.specs.Fields.{Take, behind_field, fields_in, fields_at}

-- The reading that began as `total` continues from here.
pub record GoesOn {S E : Type 0} (wire : WireError → E) (take : Take S E) (total : Result (S × List ℕ) E) (s : S) (w : List ℕ) : Type 0 where
  pub room : ℕ
  pub enough : length w ≤ room
  pub same : fields_in wire take room s w ≡ total

module _ {S E : Type 0} (wire : WireError → E) (take : Take S E) where
  pub goes_on-start : (s : S) (w : List ℕ) → GoesOn wire take (fields_at wire take s w) s w
  unfolding fields_at
  goes_on-start s w = record { room = length w; enough = omega arith; same = refl }

  -- if bytes remain, so does a step for one more field
  goes_on-step : (total : Result (S × List ℕ) E) (s : S) (w : List ℕ) (n : ℕ) → length w ≤ n → fields_in wire take n s w ≡ total → 0 < length w → (m : ℕ)
      × (length w ≤ suc m) × (fields_in wire take (suc m) s w ≡ total)
  goes_on-step total s w zero le e some = absurd (omega arith)
  goes_on-step total s w (suc n) le e some = (n, le, e)

  -- a field that was taken
  pub goes_on-more : (total : Result (S × List ℕ) E) (s t : S) (w r v : List ℕ) (c : ℕ) (i : ℤ) → GoesOn wire take total s w → field_at w ≡ Ok (Some (c, i), r)
      → length r < length w → take s c i r ≡ Ok (t, v) → length v ≤ length r → GoesOn wire take total t v
  unfolding fields_in
  goes_on-more total s t w r v c i g head shorter taken still =
      let k = goes_on-step total s w g.room g.enough g.same (omega arith) in
      let step : fields_in wire take (suc k.0) s w ≡ fields_in wire take k.0 t v = rw (head, taken) refl in
      record { room = k.0; enough = omega (arith, k.1); same = sym step ∙ k.2 }

  -- the stop byte
  pub goes_on-stop : (total : Result (S × List ℕ) E) (s : S) (w r : List ℕ) → GoesOn wire take total s w → field_at w ≡ Ok (None, r) → length r < length w
      → total ≡ Ok (s, r)
  unfolding fields_in
  goes_on-stop total s w r g head shorter =
      let k = goes_on-step total s w g.room g.enough g.same (omega arith) in
      sym k.2 ∙ rw head refl

  -- a fault of a head
  pub goes_on-head_err : (total : Result (S × List ℕ) E) (s : S) (w : List ℕ) (f : WireError) → GoesOn wire take total s w → field_at w ≡ Err f
      → total ≡ Err (wire f)
  unfolding fields_in field_at
  goes_on-head_err total s w f g head = by w g.room g.enough g.same head
    where
      by : (u : List ℕ) (n : ℕ) → length u ≤ n → fields_in wire take n s u ≡ total → field_at u ≡ Err f → total ≡ Err (wire f)
      by [] zero le e h = let same : f ≡ Truncated = cc in rw same (sym e)
      by (b ∷ u) zero le e h = absurd (omega arith)
      by u (suc n) le e h =
          let step : fields_in wire take (suc n) s u ≡ Err (wire f) = rw h refl in
          sym e ∙ step

  -- a fault of a value
  pub goes_on-take_err : (total : Result (S × List ℕ) E) (s : S) (w r : List ℕ) (c : ℕ) (i : ℤ) (f : E) → GoesOn wire take total s w
      → field_at w ≡ Ok (Some (c, i), r) → length r < length w → take s c i r ≡ Err f → total ≡ Err f
  unfolding fields_in
  goes_on-take_err total s w r c i f g head shorter taken =
      let k = goes_on-step total s w g.room g.enough g.same (omega arith) in
      sym k.2 ∙ rw (head, taken) refl
