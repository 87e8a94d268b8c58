-- Reading without copying, in a piece that others may follow.
use Rattle.std.proofs.Common.{◌≡◌, ℕ, ℤ, List, ◌++◌, take, drop, [], ◌∷◌, cond, eqb, w16, Option, Some, None, Result, Ok, Err, Bool, true, false, refl, ap, sym}
use Rattle.std.proofs.Common.{◌∙◌, append_assoc, append-nil}
use Rattle.std.specs.Option.{is_some}
use Rattle.std.proofs.lemmas.List.{take-append-drop}
use Rattle.thrift_binary.specs.declared.fault.WireError.{WireError}
use Rattle.thrift_binary.specs.declared.fault.WireError.TheVariants.{Truncated, BadType}
use Rattle.thrift_binary.specs.Reading.{◌>>=◌, Read, lift, is_code, signed_at, typed, field_at}
use Rattle.thrift_binary.specs.Fields.{Take, behind_field, fields_at}
use Rattle.thrift_binary.specs.Cuts.{IsCutSafe}
use Rattle.thrift_binary.proofs.Cuts.{values_have_ends, faults_have_places}
use Rattle.thrift_binary.proofs.CutReadings.{field_cut}
use Rattle.thrift_binary.proofs.CutFields.{fields_step}
use Rattle.wire_pieces.specs.declared.heads.FieldHead.{FieldHead}
use Rattle.wire_pieces.specs.declared.heads.Head.{Head}
use Rattle.wire_pieces.specs.Pieces.{Comes, NeedsMore, Refuses, Reaches, moment, viewed}
use Rattle.wire_pieces.specs.Heads.{head_from, head_of, fields_value}
use Rattle.wire_pieces.proofs.Steps.{comes-is, comes-trans, comes-inside, refuses-inside, comes-lift, refuses-lift, comes-refuses}
use Rattle.batch_codec.specs.declared.fault.DecodeError.{DecodeError}
use Rattle.batch_codec.specs.declared.fault.DecodeError.TheVariants.{Wire, Missing, BadEnum, Trailing, Memory}
use Rattle.batch_codec.specs.Decoding.{Fails, wire}
use Rattle.value_pieces.specs.ContinuedCalls.{Faults}
use Rattle.value_pieces.proofs.CallSteps.{one_wire}

module _ {A E : Type 0} (short : E) (read : List ℕ → Result (A × List ℕ) E) (safe : IsCutSafe short read) where
  -- a complete value
  pub whole-comes : (w v : List ℕ) (x : A) → read w ≡ Ok (x, v) → Comes (moment read w) (moment (λ u. Ok (x, u)) v)
  whole-comes w v x is =
      let (text, parts, before, same) = values_have_ends short read safe w x v is in
      record { same = λ rest. ap (λ (u : List ℕ). read (u ++ rest)) parts ∙ ap read (append_assoc text v rest) ∙ same (v ++ rest) }

  -- a fault other than too few bytes
  pub fault-refuses : (w : List ℕ) (e : E) → read w ≡ Err e → (e ≡ short → ⊥) → Refuses short (moment read w) e
  fault-refuses w e is apart =
      let (n, within, before, same) = faults_have_places short read safe w e is apart in
      record {
        same =
            λ rest. ap (λ (u : List ℕ). read (u ++ rest)) (sym (take-append-drop n w)) ∙ ap read (append_assoc (take n w) (drop n w) rest)
            ∙ same (drop n w ++ rest);
        no_want = apart;
      }

pub fails-is : {A : Type 0} (e : DecodeError) (r : Result A DecodeError) → (e ≡ Memory → ⊥) → Fails e r → r ≡ Err e
fails-is Memory r apart g = absurd (apart refl)
fails-is (Wire e) r apart g = g
fails-is (Missing p i) r apart g = g
fails-is BadEnum r apart g = g
fails-is Trailing r apart g = g

module _ {S : Type 0} (take : Take S DecodeError) (safe : (s : S) (c : ℕ) (i : ℤ) → IsCutSafe (Wire Truncated) (take s c i)) where
  abbrev behind : S → Option (ℕ × ℤ) × List ℕ → Result (S × List ℕ) DecodeError
  behind s x = behind_field (fields_at wire take) take s x.0 x.1

  abbrev headed : S → List ℕ → Result (S × List ℕ) DecodeError
  headed s u = lift wire (field_at u) >>= behind s

  at_head : (s : S) (w : List ℕ) → Comes (moment (fields_at wire take s) w) (moment (headed s) w)
  at_head s w = comes-is (fields_at wire take s) (headed s) w (λ u. fields_step wire take safe s u)

  -- the stop byte
  pub reads-stop : (s : S) (w v : List ℕ) → field_at w ≡ Ok (None, v) → Comes (moment (fields_at wire take s) w) (moment (λ u. Ok (s, u)) v)
  reads-stop s w v is = comes-trans (at_head s w) (comes-inside (behind s) (comes-lift wire (whole-comes Truncated field_at field_cut w v None is)))

  -- a head, before its value
  pub reads-head : (s : S) (c : ℕ) (i : ℤ) (w v : List ℕ) → field_at w ≡ Ok (Some (c, i), v)
      → Comes (moment (fields_at wire take s) w) (moment (fields_value wire take (take s c i)) v)
  reads-head s c i w v is =
      comes-trans (at_head s w) (comes-inside (behind s) (comes-lift wire (whole-comes Truncated field_at field_cut w v (Some (c, i)) is)))

  -- a fault of a head
  pub reads-fault : (s : S) (w : List ℕ) (e : WireError) → field_at w ≡ Err e → (Wire e ≡ Wire Truncated → ⊥) → Faults (fields_at wire take s) w (Wire e)
  reads-fault s w e is apart =
      λ n. comes-refuses (at_head s w)
      (refuses-inside (behind s) (refuses-lift wire (one_wire e Truncated) (fault-refuses Truncated field_at field_cut w e is (λ h. apart (ap wire h)))))

  -- a complete value, after its head
  pub reads-value : (s t : S) (c : ℕ) (i : ℤ) (w v : List ℕ) → take s c i w ≡ Ok (t, v)
      → Comes (moment (fields_value wire take (take s c i)) w) (moment (fields_at wire take t) v)
  reads-value s t c i w v is = comes-inside (λ x. fields_at wire take x.0 x.1) (whole-comes (Wire Truncated) (take s c i) (safe s c i) w v t is)

  -- a fault of a value
  pub reads-bad : (s : S) (c : ℕ) (i : ℤ) (w : List ℕ) (e : DecodeError) → Fails e (take s c i w) → (e ≡ Wire Truncated → ⊥)
      → Faults (fields_value wire take (take s c i)) w e
  reads-bad s c i w e g apart =
      λ n. refuses-inside (λ x. fields_at wire take x.0 x.1)
      (fault-refuses (Wire Truncated) (take s c i) (safe s c i) w e (fails-is e (take s c i w) n g) apart)

abbrev code_in : Option (ℕ × ℤ) → ℕ
code_in (Some f) = f.0
code_in None = 0

abbrev code_of : Read (Option (ℕ × ℤ)) → ℕ
code_of (Ok x) = code_in x.0
code_of (Err e) = 0

abbrev has_code : Read (Option (ℕ × ℤ)) → Bool
has_code (Ok x) = is_some x.0
has_code (Err e) = false

-- the type of a field is one of the table
pub field-code : (w v : List ℕ) (c : ℕ) (i : ℤ) → field_at w ≡ Ok (Some (c, i), v) → is_code c ≡ true
unfolding field_at
field-code [] v c i is = absurd cc
field-code (b ∷ u) v c i is = at (eqb b 0) is
  where
    coded : (k : Bool) → is_code b ≡ k → (z : ℤ × List ℕ)
        → ◌≡◌ {A = Read (Option (ℕ × ℤ))} (cond k (Ok (Some (b, z.0), z.1)) (Err BadType)) (Ok (Some (c, i), v)) → is_code c ≡ true
    coded true e z h = let same : b ≡ c = ap code_of h in ap is_code (sym same) ∙ e
    coded false e z h = absurd cc

    behind_id : (z : Read ℤ) → (z >>= typed b) ≡ Ok (Some (c, i), v) → is_code c ≡ true
    behind_id (Err e) h = absurd cc
    behind_id (Ok z) h = coded (is_code b) refl z h

    at : (k : Bool) → ◌≡◌ {A = Read (Option (ℕ × ℤ))} (cond k (Ok (None, u)) (signed_at w16 2 u >>= typed b)) (Ok (Some (c, i), v)) → is_code c ≡ true
    at true h = absurd (let k : false ≡ true = ap has_code h in cc)
    at false h = behind_id (signed_at w16 2 u) h

-- a head that the bytes are too few for
pub head-short : (h k : FieldHead) (w v : List ℕ) (o : Option Head) → ((u : List ℕ) → head_from h u ≡ field_at u) → field_at w ≡ Err Truncated
    → Reaches Truncated (moment (head_from h) w) (moment (head_from k) v) (viewed head_of o)
    → NeedsMore Truncated (moment (head_from h) w) (moment (head_from k) v)
head-short h k w v None fresh few g = g
head-short h k w v (Some x) fresh few g =
    absurd (let e : ◌≡◌ {A = Result (Option (ℕ × ℤ) × List ℕ) WireError} (Ok (head_of x, v ++ [])) (Err Truncated) = sym (g.same []) ∙ fresh (w ++ [])
    ∙ ap field_at (append-nil w) ∙ few in cc)
