-- The steps of a struct that arrives in pieces.
use Rattle.std.proofs.Common.{◌≡◌, ℕ, ℤ, eqb, true, arith, List, [], ◌∷◌, length, Some, None, Result, Ok, Err, refl, ap, sym}
use Rattle.std.proofs.lemmas.Bool.{eqb-true}
use Rattle.thrift_binary.specs.declared.fault.WireError.TheVariants.{Truncated}
use Rattle.thrift_binary.specs.Reading.{◌>>=◌, field_at}
use Rattle.thrift_binary.specs.Fields.{Take, behind_field, fields_in, fields_at}
use Rattle.thrift_binary.specs.Cuts.{IsCutSafe}
use Rattle.wire_pieces.specs.declared.fault.PieceError.{PieceError}
use Rattle.wire_pieces.specs.declared.heads.FieldHead.{FieldHead}
use Rattle.wire_pieces.specs.Pieces.{Comes, NeedsMore, Refused, moment}
use Rattle.wire_pieces.specs.Heads.{head_from, fields_value}
use Rattle.wire_pieces.proofs.Steps.{comes-is, comes-trans, comes-waits, comes-inside, waits-inside}
use Rattle.wire_pieces.proofs.FieldSteps as wires
use Rattle.batch_codec.specs.declared.fault.DecodeError.{DecodeError}
use Rattle.batch_codec.specs.declared.fault.DecodeError.TheVariants.{Wire}
use Rattle.batch_codec.specs.Decoding.{Reading, wire}
use Rattle.value_pieces.specs.declared.partial.Arrival.{Arrival}
use Rattle.value_pieces.specs.declared.partial.Arrival.TheVariants.{Complete, Pending}
use Rattle.struct_pieces.specs.declared.fields.Step.{Step}
use Rattle.struct_pieces.specs.declared.fields.Step.TheVariants.{Head, Value}
use Rattle.value_pieces.specs.ContinuedCalls.{fault_of, Arrives, Faults, ContinuesTo}
use Rattle.struct_pieces.specs.Fields.{IsFresh, fields_from, struct_at, struct_from, struct_reading}
use Rattle.value_pieces.proofs.CallSteps.{faults-lift, faults-inside, comes-faults}

module _ {S V : Type 0} (take : Take S DecodeError) (res : S → V → Reading S) {a : List ℕ → Result (S × List ℕ) DecodeError} {p : List ℕ} where
  pub head-faults : (s : S) (step : Step V) (h : FieldHead) (w : List ℕ) (e : PieceError) → step ≡ Head h → Refused (moment (head_from h) w) e
      → Comes (moment a p) (moment (fields_from take res s step) w) → Faults a p (fault_of e)
  head-faults s step h w e is g inv =
      comes-faults a (fields_from take res s (Head h)) p w (fault_of e) (rw is at inv)
      (faults-inside (λ x. behind_field (fields_at wire take) take s x.0 x.1) _ w (fault_of e) (faults-lift (head_from h) w e g))

  pub head-waits : (s : S) (step : Step V) (h k : FieldHead) (w v : List ℕ) → step ≡ Head h
      → NeedsMore Truncated (moment (head_from h) w) (moment (head_from k) v)
      → Comes (moment a p) (moment (fields_from take res s step) w) → NeedsMore (Wire Truncated) (moment a p) (moment (fields_from take res s (Head k)) v)
  head-waits s step h k w v is g inv = comes-waits (rw is at inv) (wires.head-waits wire take s h k w v g)

  pub head-stop : (s : S) (step : Step V) (h : FieldHead) (w v : List ℕ) → step ≡ Head h → Comes (moment (head_from h) w) (moment (λ u. Ok (None, u)) v)
      → Comes (moment a p) (moment (fields_from take res s step) w) → Comes (moment a p) (moment (λ u. Ok (s, u)) v)
  head-stop s step h w v is g inv = comes-trans (rw is at inv) (wires.head-stop wire take s h w v g)

  -- the head of a field, and what follows it
  pub head-typed : (s : S) (step : Step V) (h : FieldHead) (c : ℕ) (i : ℤ) (w v : List ℕ) → step ≡ Head h
      → Comes (moment (head_from h) w) (moment (λ u. Ok (Some (c, i), u)) v)
      → Comes (moment a p) (moment (fields_from take res s step) w) → Comes (moment a p) (moment (fields_value wire take (take s c i)) v)
  head-typed s step h c i w v is g inv = comes-trans (rw is at inv) (wires.head-value wire take s h w v c i (take s c i) g (λ u. refl))

  pub value-whole : (now : Reading S) (t : S) (v q : List ℕ) → Comes (moment a p) (moment (fields_value wire take now) v)
      → Comes (moment now v) (moment (λ u. Ok (t, u)) q)
      → Comes (moment a p) (moment (fields_at wire take t) q)
  value-whole now t v q inv g = comes-trans inv (comes-inside (λ x. fields_at wire take x.0 x.1) g)

  pub value-waits : (s t : S) (step : Step V) (h k : V) (w v : List ℕ) → step ≡ Value h → NeedsMore (Wire Truncated) (moment (res s h) w) (moment (res t k) v)
      → Comes (moment a p) (moment (fields_from take res s step) w) → NeedsMore (Wire Truncated) (moment a p) (moment (fields_from take res t (Value k)) v)
  value-waits s t step h k w v is g inv = comes-waits (rw is at inv) (wires.value-waits wire take (res s h) (res t k) w v g)

  module _ (safe : (s : S) (c : ℕ) (i : ℤ) → IsCutSafe (Wire Truncated) (take s c i)) where
    -- before the first byte of a head
    pub at-head : (s : S) (h : FieldHead) (w : List ℕ) → ((u : List ℕ) → head_from h u ≡ field_at u) → Comes (moment a p) (moment (fields_at wire take s) w)
        → Comes (moment a p) (moment (fields_from take res s (Head h)) w)
    at-head s h w fresh inv =
        comes-trans inv (comes-is (fields_at wire take s) (fields_from take res s (Head h)) w (λ u. sym (wires.head-fresh wire take safe s h fresh u)))

pub none-left : (w : List ℕ) → eqb (length w) 0 ≡ true → w ≡ []
none-left [] h = refl
none-left (b ∷ w) h = absurd (let k : length (b ∷ w) ≡ 0 = eqb-true _ 0 h in omega arith)

module _ {S V : Type 0} (take : Take S DecodeError) (res : S → V → Reading S) where
  -- a piece that ends before a head of which no byte has arrived
  pub fresh-waits : (s t : S) (step : Step V) (p w : List ℕ) → IsFresh take res step → w ≡ []
      → Comes (moment (fields_at wire take s) p) (moment (fields_at wire take t) w)
      → NeedsMore (Wire Truncated) (moment (fields_at wire take s) p) (moment (fields_from take res t step) w)
  unfolding fields_at fields_in
  fresh-waits s t step p w fresh spent g =
      record {
        comes = comes-trans g (comes-is (fields_at wire take t) (fields_from take res t step) w (λ u. sym (fresh t u)));
        want = fresh t [];
        spent = spent;
      }

  pub fresh-step : (s : S) (step : Step V) (w : List ℕ) → IsFresh take res step
      → Comes (moment (fields_from take res s step) w) (moment (fields_at wire take s) w)
  fresh-step s step w fresh = comes-is (fields_from take res s step) (fields_at wire take s) w (fresh s)

  -- no byte of this step has arrived
  pub head-is-fresh : ((s : S) (c : ℕ) (i : ℤ) → IsCutSafe (Wire Truncated) (take s c i)) → (step : Step V) (h : FieldHead) → step ≡ Head h
      → ((w : List ℕ) → head_from h w ≡ field_at w) → IsFresh take res step
  head-is-fresh safe step h is fresh = λ s w. rw is (wires.head-fresh wire take safe s h fresh w)

module _ {S V A : Type 0} (take : Take S DecodeError) (res : S → V → Reading S) (makes : S → Result A DecodeError) where
  abbrev made : S × List ℕ → Result (A × List ℕ) DecodeError
  made x = makes x.0 >>= λ m. Ok (m, x.1)

  pub struct-fresh : ((s : S) (c : ℕ) (i : ℤ) → IsCutSafe (Wire Truncated) (take s c i)) → (s none : S) (h : FieldHead) (w : List ℕ) → s ≡ none
      → ((u : List ℕ) → head_from h u ≡ field_at u) → struct_from (struct_reading take res makes) s (Head h) w ≡ struct_at take none makes w
  struct-fresh safe s none h w is fresh = rw is (ap (λ r. r >>= made) (wires.head-fresh wire take safe none h fresh w))

  pub struct-arrives : (s t : S) (step next : Step V) (p q : List ℕ) (r : Result Arrival DecodeError)
      → ContinuesTo t (moment (fields_from take res s step) p) (moment (fields_from take res t next) q) r
      → Arrives (moment (struct_from (struct_reading take res makes) s step) p) (moment (struct_from (struct_reading take res makes) t next) q) (makes t) r
  struct-arrives s t step next p q (Ok Complete) g = comes-inside made g
  struct-arrives s t step next p q (Ok Pending) g = waits-inside made g
  struct-arrives s t step next p q (Err e) g = faults-inside made (fields_from take res s step) p e g
