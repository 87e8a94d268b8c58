-- The steps of fields that arrive in pieces.
use Rattle.std.proofs.Common.{◌≡◌, ℕ, ℤ, List, Option, Some, None, Result, Ok, ap, sym, ◌∙◌}
use Rattle.thrift_binary.specs.declared.fault.WireError.{WireError}
use Rattle.thrift_binary.specs.declared.fault.WireError.TheVariants.{Truncated}
use Rattle.thrift_binary.specs.Reading.{◌>>=◌, lift, field_at}
use Rattle.thrift_binary.specs.Fields.{Take, behind_field, fields_at}
use Rattle.thrift_binary.specs.Cuts.{IsCutSafe}
use Rattle.thrift_binary.proofs.CutFields.{fields_step}
use Rattle.wire_pieces.specs.declared.heads.FieldHead.{FieldHead}
use Rattle.wire_pieces.specs.Pieces.{Comes, NeedsMore, Refuses, Reader, moment}
use Rattle.wire_pieces.specs.Heads.{head_from, fields_head, fields_value}
use Rattle.wire_pieces.proofs.Steps.{comes-is, comes-trans, comes-inside, waits-inside, refuses-inside, comes-lift, waits-lift, refuses-lift}

module _ {S E : Type 0} (wire : WireError → E) (take : Take S E) where
  abbrev behind : S → Option (ℕ × ℤ) × List ℕ → Result (S × List ℕ) E
  behind s x = behind_field (fields_at wire take) take s x.0 x.1

  pub head-waits : (s : S) (h k : FieldHead) (w v : List ℕ) → NeedsMore Truncated (moment (head_from h) w) (moment (head_from k) v)
      → NeedsMore (wire Truncated) (moment (fields_head wire take s h) w) (moment (fields_head wire take s k) v)
  head-waits s h k w v g = waits-inside (behind s) (waits-lift wire g)

  pub head-refuses : (s : S) (h : FieldHead) (w : List ℕ) (e : WireError) → (wire e ≡ wire Truncated → e ≡ Truncated)
      → Refuses Truncated (moment (head_from h) w) e
      → Refuses (wire Truncated) (moment (fields_head wire take s h) w) (wire e)
  head-refuses s h w e one g = refuses-inside (behind s) (refuses-lift wire one g)

  -- the stop byte
  pub head-stop : (s : S) (h : FieldHead) (w v : List ℕ) → Comes (moment (head_from h) w) (moment (λ u. Ok (None, u)) v)
      → Comes (moment (fields_head wire take s h) w) (moment (λ u. Ok (s, u)) v)
  head-stop s h w v g = comes-inside (behind s) (comes-lift wire g)

  -- a field
  pub head-value : (s : S) (h : FieldHead) (w v : List ℕ) (c : ℕ) (i : ℤ) (now : Reader S E)
      → Comes (moment (head_from h) w) (moment (λ u. Ok (Some (c, i), u)) v)
      → ((u : List ℕ) → now u ≡ take s c i u) → Comes (moment (fields_head wire take s h) w) (moment (fields_value wire take now) v)
  head-value s h w v c i now g same =
      comes-trans (comes-inside (behind s) (comes-lift wire g))
      (comes-is _ (fields_value wire take now) v (λ u. ap (λ r. r >>= λ x. fields_at wire take x.0 x.1) (sym (same u))))

  pub value-waits : (now next : Reader S E) (w v : List ℕ) → NeedsMore (wire Truncated) (moment now w) (moment next v)
      → NeedsMore (wire Truncated) (moment (fields_value wire take now) w) (moment (fields_value wire take next) v)
  value-waits now next w v g = waits-inside (λ x. fields_at wire take x.0 x.1) g

  module _ (safe : (s : S) (c : ℕ) (i : ℤ) → IsCutSafe (wire Truncated) (take s c i)) where
    -- before the first byte of a head
    pub head-fresh : (s : S) (h : FieldHead) → ((w : List ℕ) → head_from h w ≡ field_at w) → (w : List ℕ)
        → fields_head wire take s h w ≡ fields_at wire take s w
    head-fresh s h fresh w = ap (λ r. lift wire r >>= behind s) (fresh w) ∙ sym (fields_step wire take safe s w)

    -- a complete value, and the head after it
    pub value-whole : (t : S) (h : FieldHead) (now : Reader S E) (w v : List ℕ) → ((u : List ℕ) → head_from h u ≡ field_at u)
        → Comes (moment now w) (moment (λ u. Ok (t, u)) v)
        → Comes (moment (fields_value wire take now) w) (moment (fields_head wire take t h) v)
    value-whole t h now w v fresh g =
        comes-trans (comes-inside (λ x. fields_at wire take x.0 x.1) g)
        (comes-is _ (fields_head wire take t h) v (λ u. sym (head-fresh t h fresh u)))
