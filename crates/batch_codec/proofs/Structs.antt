-- Structs: if the bytes of each field spell its value, and every spelling of a field is read, the same holds for the struct.
use Rattle.std.proofs.Common.{◌≡◌, ℕ, ℤ, Bool, true, false, cond, List, [], ◌∷◌, Option, Some, None, Result, Ok, refl}
use Rattle.std.specs.Prelude.{MatchBool}
use Rattle.thrift_binary.specs.Reading.{◌>>=◌, lift}
use Rattle.thrift_binary.specs.Skipping.{skip_at}
use Rattle.thrift_binary.specs.Fields.{Take, fields_at}
use Rattle.thrift_binary.specs.Lists.{list_of}
use Rattle.thrift_binary.specs.Spelling.{Field, IsFields, IsValue}
use Rattle.thrift_binary.proofs.ReadBytesSpell.{lift_ok, Path, Took, fields_found}
use Rattle.thrift_binary.proofs.SpellingsAreRead.{fields_again}
use Rattle.thrift_binary.proofs.SkippedAreValues.{skip_found}
use Rattle.thrift_binary.proofs.ValuesAreSkipped.{skip_again}
use Rattle.thrift_binary.proofs.Lists.{list_found, list_again}
use Rattle.batch_codec.specs.declared.fault.DecodeError.{DecodeError}
use Rattle.batch_codec.specs.declared.fault.StructName.{StructName}
use Rattle.batch_codec.specs.Decoding.{Reading, wire, skipped, required}
use Rattle.batch_codec.specs.StructRules.{StructRule}
use Rattle.batch_codec.specs.Batches.{Gathers, IsStruct, IsStructList}
use Rattle.batch_codec.proofs.ValuesSpelled.{Found, Again, Agrees, made_found, mapped}

-- ---- one field

-- a field of this type and id, or the result of the other readings
pub known_is : {A S : Type 0} {read : Reading A} {Spells : List ℕ → A → Type 0} → Agrees read Spells
    → (set : A → S) (b : Bool) (others : Reading S) (Others : List ℕ → S → Type 0)
    → Agrees others Others
    → Agrees (λ w. cond b (read w >>= λ x. Ok (set x.0, x.1)) (others w)) (λ v t. MatchBool b ((x : A) × Spells v x × (t ≡ set x)) (Others v t))
known_is value set false others Others more = more
known_is value set true others Others more = mapped value set

skips : (c : ℕ) → Agrees (λ w. lift wire (skip_at c w)) (λ v u. IsValue 64 c v)
skips c = record {
  found = λ w u r e. skip_found c w r (lift_ok wire (skip_at c w) (u, r) e);
  again = λ v r u is. (let h = skip_again c v r is in rw h refl);
}

pub skipped_is : {S : Type 0} (s : S) (c : ℕ) → Agrees (skipped s c) (λ v t. IsValue 64 c v × (t ≡ s))
skipped_is s c = record {
  found = λ w t r e. (let f = (mapped (skips c) (λ u. s)).found w t r e in record { text = f.text; parts = f.parts; spells = (f.spells.1, f.spells.2) });
  again = λ v r t is. (mapped (skips c) (λ u. s)).again v r t (tt, is.0, is.1);
}

-- ---- lists of structs

pub is_list : {X : Type 0} {read : Reading X} {Spells : List ℕ → X → Type 0} → Agrees read Spells → Agrees (list_of wire 12 read) (IsStructList Spells)
is_list {read = read} {Spells = Spells} value = record {
  found = λ w xs r e. list_found wire 12 read Spells value.found w xs r e;
  again = λ t r xs is. list_again wire 12 read Spells refl value.again t r xs is;
}

-- ---- fields up to the stop byte

gathers_path : {S : Type 0} (Does : S → Field → S → Type 0) (fs : List Field) (s t : S) → Path Does s fs t → Gathers Does s fs t
gathers_path Does [] s t p = p
gathers_path Does (f ∷ fs) s t (u, d, p) = (u, d, gathers_path Does fs u t p)

path_gathers : {S : Type 0} (Does : S → Field → S → Type 0) (fs : List Field) (s t : S) → Gathers Does s fs t → Path Does s fs t
path_gathers Does [] s t p = p
path_gathers Does (f ∷ fs) s t (u, d, p) = (u, d, path_gathers Does fs u t p)

module _ {S X : Type 0} (take : Take S DecodeError) (rule : StructRule S X) (from : S → Result X DecodeError) where
  abbrev pub struct_at : Reading X
  struct_at w = fields_at wire take rule.none w >>= λ y. from y.0 >>= λ z. Ok (z, y.1)

  -- fields that lead from the first state to these slots
  abbrev LeadsTo : List ℕ → S → Type 0
  LeadsTo v s = (fs : List Field) × IsFields fs v × Path rule.changes rule.none fs s

  pub struct_is : ((s : S) (c : ℕ) (i : ℤ) → Agrees (take s c i) (λ v t. rule.changes s (record { code = c; id = i; text = v }) t))
      → ((s : S) (x : X) → from s ≡ Ok x → rule.makes s x)
      → ((s : S) (x : X) → rule.makes s x → from s ≡ Ok x)
      → Agrees struct_at (IsStruct rule)
  struct_is field_is made makes = record { found = found; again = again }
    where
      took : (s : S) (c : ℕ) (i : ℤ) (w : List ℕ) (t : S) (r : List ℕ) → take s c i w ≡ Ok (t, r) → Took rule.changes s c i w t r
      took s c i w t r e = let m = (field_is s c i).found w t r e in record { text = m.text; parts = m.parts; does = m.spells }

      leads : Found (fields_at wire take rule.none) LeadsTo
      leads w s r e =
          let f = fields_found wire take rule.changes took rule.none w s r e in
          record { text = f.text; parts = f.parts; spells = (f.fields, f.spells, f.path) }

      found : Found struct_at (IsStruct rule)
      found w x r e =
          let b = made_found (fields_at wire take rule.none) LeadsTo leads from w x r e in
          record {
            text = b.text;
            parts = b.parts;
            spells = record {
              fields = b.spells.1.0;
              spelled = b.spells.1.1;
              gathered = b.spells.0;
              gathers = gathers_path rule.changes b.spells.1.0 rule.none b.spells.0 b.spells.1.2;
              makes = made b.spells.0 x b.spells.2;
            };
          }

      again : Again struct_at (IsStruct rule)
      again t r x is =
          let fields = fields_again wire take rule.changes
          (λ s f u v d. (field_is s f.code f.id).again f.text v u d) is.fields rule.none is.gathered t r is.spelled
          (path_gathers rule.changes is.fields rule.none is.gathered is.gathers) in
          let whole = makes is.gathered x is.makes in
          rw (fields, whole) refl

-- a required slot that is filled
pub required_found : {A B : Type 0} (o : Option A) (name : StructName) (i : ℕ) (f : A → Result B DecodeError) (y : B) → (required o name i >>= f) ≡ Ok y
    → (x : A) × (o ≡ Some x) × (f x ≡ Ok y)
required_found None name i f y e = absurd cc
required_found (Some x) name i f y e = (x, refl, e)
