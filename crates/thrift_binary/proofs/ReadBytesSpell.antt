-- The bytes that are read spell the value that they are read as.
use Rattle.std.proofs.Common.{◌≡◌, ℕ, ℤ, pos, zero, suc, ◌<◌, ◌≤◌, ◌^◌, Bool, true, false, cond, eqb, ltb, List, [], ◌∷◌, ◌++◌, length, take, drop, Option}
use Rattle.std.proofs.Common.{Some, None, Result, Ok, Err, refl, sym, ap, subst, ◌∙◌, append_assoc, arith, w16, w32, w64}
use Rattle.std.specs.Prelude.{IfOk}
use Rattle.std.specs.Int.{Width, cast_signed}
use Rattle.std.proofs.lemmas.Bool.{ltb-false, eqb-true, ltb-true}
use Rattle.std.proofs.lemmas.List.{take-append-drop, length-take, take_all}
use Rattle.byteorder.specs.Endian.{big_number}
use Rattle.byteorder.specs.Numbers.{big_from-append}
use Rattle.thrift_binary.specs.declared.fault.WireError.{WireError}
use Rattle.thrift_binary.specs.declared.fault.WireError.TheVariants.{Truncated, BadLength, BadType, BadBool}
use Rattle.thrift_binary.specs.Reading.{◌>>=◌, lift, Read, Reads, stopped, typed, bool_at, bytes_at, number_at, signed_at, size_at, string_at, field_at}
use Rattle.thrift_binary.specs.Reading.{field_behind, is_code}
use Rattle.thrift_binary.specs.Fields.{Take, fields_in, fields_at, behind_field}
use Rattle.thrift_binary.specs.Spelling.{Beginning, IsBool, IsI32, IsI64, IsDouble, IsSize, IsString, Field, IsFieldHead, IsFields}

-- the value of a step that did not fail
pub bind_ok : {A B E : Type 0} (r : Result A E) (f : A → Result B E) (y : B) → (r >>= f) ≡ Ok y → (x : A) × (r ≡ Ok x) × (f x ≡ Ok y)
bind_ok (Ok x) f y e = (x, refl, e)
bind_ok (Err d) f y e = absurd cc

-- a test that did not fail
pub guard_ok : {A E : Type 0} (b : Bool) (d : E) (x y : A) → cond b (Err d) (Ok x) ≡ Ok y → (b ≡ false) × (x ≡ y)
guard_ok true d x y e = absurd cc
guard_ok false d x y e = (refl, cc)

pub pass_ok : {A E : Type 0} (b : Bool) (d : E) (x y : A) → cond b (Ok x) (Err d) ≡ Ok y → (b ≡ true) × (x ≡ y)
pass_ok true d x y e = (refl, cc)
pass_ok false d x y e = absurd cc

pub lift_ok : {A E : Type 0} (wire : WireError → E) (r : Result A WireError) (x : A) → lift wire r ≡ Ok x → r ≡ Ok x
lift_ok wire (Ok y) x e = cc
lift_ok wire (Err d) x e = absurd cc

abbrev pub done : {A E : Type 0} → A → Result A E
done x = Ok x

abbrev pub failed : {A E : Type 0} → E → Result A E
failed e = Err e

pub ok_is : {A E : Type 0} (x y : A) → done {E = E} x ≡ done y → x ≡ y
ok_is x y e = cc

pub err_is : {A E : Type 0} (d e : E) → failed {A = A} d ≡ failed e → d ≡ e
err_is d e h = cc

pub ok_is_no_err : {A E : Type 0} (x : A) (e : E) → done x ≡ failed e → ⊥
ok_is_no_err x e h = absurd cc

pub both_are : {A B E : Type 0} (x y : A) (v u : B) → done {A = A × B} {E = E} (x, v) ≡ done {A = A × B} (y, u) → (x ≡ y) × (v ≡ u)
both_are {A = A} {B = B} {E = E} x y v u e =
    let same = ok_is {A = A × B} {E = E} (x, v) (y, u) e in
    (ap (λ (p : A × B). p.0) same, ap (λ (p : A × B). p.1) same)

abbrev got : ℕ → ℤ → List ℕ → Option (ℕ × ℤ) × List ℕ
got c i r = (Some (c, i), r)

abbrev id_of : Option (ℕ × ℤ) → ℕ × ℤ
id_of (Some x) = x
id_of None = (0, pos 0)

abbrev first_of : Option (ℕ × ℤ) × List ℕ → ℕ
first_of x = (id_of x.0).0

abbrev second_of : Option (ℕ × ℤ) × List ℕ → ℤ
second_of x = (id_of x.0).1

abbrev rest_of : Option (ℕ × ℤ) × List ℕ → List ℕ
rest_of x = x.1

got_none : (c : ℕ) (i : ℤ) (r v : List ℕ) → got c i r ≡ (None, v) → ⊥
got_none c i r v e = none_some (c, i) (ap (λ (x : Option (ℕ × ℤ) × List ℕ). x.0) e)
  where
    none_some : (x : ℕ × ℤ) → Some x ≡ None → ⊥
    none_some x h = absurd cc

-- a number as a prefix of a longer text
pub big_number-take : (n : ℕ) (w : List ℕ) → n ≤ length w → big_number n w ≡ big_number n (take n w)
big_number-take n w le =
    let long : n ≤ length (take n w) = omega (arith, length-take n w) in
    ap (λ v. big_number n v) (sym (take-append-drop n w)) ∙ big_from-append n (take n w) (drop n w) long

-- the first n bytes, on which f depends alone
pub beginning_found : {A : Type 0} (n : ℕ) (f : List ℕ → A) → ((w : List ℕ) → n ≤ length w → f w ≡ f (take n w)) → (w : List ℕ) (x : A) (r : List ℕ)
    → cond {A = Result (A × List ℕ) WireError} (ltb (length w) n) (Err Truncated) (Ok (f w, drop n w)) ≡ Ok (x, r)
    → Beginning (λ t. (length t ≡ n) × (f t ≡ x)) w r
beginning_found {A = A} n f front w x r e =
    let g = guard_ok (ltb (length w) n) Truncated (f w, drop n w) (x, r) e in
    let long : n ≤ length w = ltb-false _ _ g.0 in
    let x-is : f w ≡ x = ap (λ (p : A × List ℕ). p.0) g.1 in
    let r-is : drop n w ≡ r = ap (λ (p : A × List ℕ). p.1) g.1 in
    record { text = take n w; parts = rw (← r-is) (sym (take-append-drop n w)); spells = (omega (arith, length-take n w), sym (front w long) ∙ x-is) }

signed_found : (width : Width) (n : ℕ) (w : List ℕ) (z : ℤ) (r : List ℕ) → signed_at width n w ≡ Ok (z, r)
    → Beginning (λ t. (length t ≡ n) × (cast_signed width (big_number n t) ≡ z)) w r
signed_found width n = beginning_found n (λ w. cast_signed width (big_number n w)) (λ w le. ap (cast_signed width) (big_number-take n w le))

-- ---- one value of each kind

abbrev said : Bool → List ℕ → Read Bool
said x v = Ok (x, v)

bool_behind_found : (b : ℕ) (v : List ℕ) (x : Bool) (r : List ℕ) → cond (eqb b 0) (said false v) (cond (eqb b 1) (said true v) (Err BadBool)) ≡ Ok (x, r)
    → Beginning (λ t. IsBool t x) (b ∷ v) r
bool_behind_found b v x r e = by (eqb b 0) (eqb b 1) refl refl e
  where
    here : (k : ℕ) (y : Bool) → b ≡ k → IsBool (k ∷ []) y → said y v ≡ said x r → Beginning (λ t. IsBool t x) (b ∷ v) r
    here k y b-is is h =
        let same = both_are y x v r h in
        record { text = k ∷ []; parts = ap (λ (a : ℕ). a ∷ v) b-is ∙ ap (λ (t : List ℕ). k ∷ t) same.1; spells = subst (λ z. IsBool (k ∷ []) z) same.0 is }

    by : (p q : Bool) → eqb b 0 ≡ p → eqb b 1 ≡ q → cond p (said false v) (cond q (said true v) (Err BadBool)) ≡ Ok (x, r)
        → Beginning (λ t. IsBool t x) (b ∷ v) r
    by true q zero_is one_is h = here 0 false (eqb-true b 0 zero_is) refl h
    by false true zero_is one_is h = here 1 true (eqb-true b 1 one_is) refl h
    by false false zero_is one_is h = absurd cc

pub bool_found : (w : List ℕ) (x : Bool) (r : List ℕ) → bool_at w ≡ Ok (x, r) → Beginning (λ t. IsBool t x) w r
unfolding bool_at
bool_found [] x r e = absurd cc
bool_found (b ∷ v) x r e = bool_behind_found b v x r e

pub i32_found : (w : List ℕ) (z : ℤ) (r : List ℕ) → signed_at w32 4 w ≡ Ok (z, r) → Beginning (λ t. IsI32 t z) w r
i32_found = signed_found w32 4

pub i64_found : (w : List ℕ) (z : ℤ) (r : List ℕ) → signed_at w64 8 w ≡ Ok (z, r) → Beginning (λ t. IsI64 t z) w r
i64_found = signed_found w64 8

pub bytes_found : (n : ℕ) (w bytes r : List ℕ) → bytes_at n w ≡ Ok (bytes, r) → Beginning (λ t. (length t ≡ n) × (t ≡ bytes)) w r
bytes_found n w bytes r e =
    let b = beginning_found n (take n) (λ v le. sym (take_all n (take n v) (omega (arith, length-take n v)))) w bytes r e in
    record { text = b.text; parts = b.parts; spells = (b.spells.0, sym (take_all n b.text (omega (arith, b.spells.0))) ∙ b.spells.1) }

pub double_found : (w bytes r : List ℕ) → bytes_at 8 w ≡ Ok (bytes, r) → Beginning (λ t. IsDouble t bytes) w r
double_found w bytes r e = bytes_found 8 w bytes r e

pub record Sized (w : List ℕ) (m : ℕ) (r : List ℕ) : Type 0 where
  pub text : List ℕ
  pub parts : w ≡ text ++ r
  pub spells : IsSize text m

pub size_found : (w : List ℕ) (m : ℕ) (r : List ℕ) → size_at w ≡ Ok (m, r) → Sized w m r
unfolding size_at
size_found w m r e =
    let b = bind_ok (number_at 4 w) (λ n. cond (ltb n.0 (2 ^ 31)) (Ok (n.0, n.1)) (Err BadLength)) (m, r) e in
    let n = beginning_found 4 (big_number 4) (big_number-take 4) w b.0.0 b.0.1 b.1 in
    let p = pass_ok (ltb b.0.0 (2 ^ 31)) BadLength (b.0.0, b.0.1) (m, r) b.2 in
    let m-is : b.0.0 ≡ m = ap (λ (p : ℕ × List ℕ). p.0) p.1 in
    let r-is : b.0.1 ≡ r = ap (λ (p : ℕ × List ℕ). p.1) p.1 in
    record {
      text = n.text;
      parts = n.parts ∙ ap (λ (v : List ℕ). n.text ++ v) r-is;
      spells = (n.spells.0, n.spells.1 ∙ m-is, subst (λ k. k < 2 ^ 31) m-is (ltb-true b.0.0 (2 ^ 31) p.0));
    }

pub record Stringed (w bytes r : List ℕ) : Type 0 where
  pub text : List ℕ
  pub parts : w ≡ text ++ r
  pub spells : IsString text bytes

pub string_found : (w bytes r : List ℕ) → string_at w ≡ Ok (bytes, r) → Stringed w bytes r
unfolding string_at
string_found w bytes r e =
    let b = bind_ok (size_at w) (λ n. bytes_at n.0 n.1) (bytes, r) e in
    let s = size_found w b.0.0 b.0.1 b.1 in
    let t = bytes_found b.0.0 b.0.1 bytes r b.2 in
    record {
      text = s.text ++ t.text;
      parts = s.parts ∙ ap (λ (v : List ℕ). s.text ++ v) t.parts ∙ sym (append_assoc s.text t.text r);
      spells = (s.text, subst (λ k. IsSize s.text k) (sym t.spells.0 ∙ ap length t.spells.1) s.spells, ap (λ (v : List ℕ). s.text ++ v) t.spells.1);
    }

pub record Headed (w : List ℕ) (c : ℕ) (i : ℤ) (r : List ℕ) : Type 0 where
  pub text : List ℕ
  pub parts : w ≡ (c ∷ text) ++ r
  pub long : length text ≡ 2
  pub value : cast_signed w16 (big_number 2 text) ≡ i
  pub coded : is_code c ≡ true

field_behind_found : (c d : ℕ) (i : ℤ) (w r : List ℕ) → field_behind c w ≡ Ok (Some (d, i), r) → Headed (c ∷ w) d i r
field_behind_found c d i w r e = by (eqb c 0) e
  where
    after : (signed_at w16 2 w >>= typed c) ≡ Ok (Some (d, i), r) → Headed (c ∷ w) d i r
    after h =
        let b = bind_ok (signed_at w16 2 w) (typed c) (Some (d, i), r) h in
        let p = pass_ok (is_code c) BadType (Some (c, b.0.0), b.0.1) (Some (d, i), r) b.2 in
        let s = signed_found w16 2 w b.0.0 b.0.1 b.1 in
        let first : c ≡ d = ap first_of p.1 in
        let second : b.0.0 ≡ i = ap second_of p.1 in
        let third : b.0.1 ≡ r = ap rest_of p.1 in
        record {
          text = s.text;
          parts = ap (λ (t : List ℕ). c ∷ t) (s.parts ∙ ap (λ (t : List ℕ). s.text ++ t) third) ∙ ap (λ (x : ℕ). (x ∷ s.text) ++ r) first;
          long = s.spells.0;
          value = s.spells.1 ∙ second;
          coded = subst (λ x. is_code x ≡ true) first p.0;
        }

    by : (z : Bool) → cond z (stopped w) (signed_at w16 2 w >>= typed c) ≡ Ok (Some (d, i), r) → Headed (c ∷ w) d i r
    by true h = let none : Option (ℕ × ℤ) × List ℕ = (None, w) in absurd (got_none d i r w (sym (ok_is none (got d i r) h)))
    by false h = after h

pub field_found : (w : List ℕ) (c : ℕ) (i : ℤ) (r : List ℕ) → field_at w ≡ Ok (Some (c, i), r) → Headed w c i r
unfolding field_at
field_found [] c i r e = absurd cc
field_found (b ∷ w) c i r e = field_behind_found b c i w r e

stop_behind_found : (c : ℕ) (w r : List ℕ) → field_behind c w ≡ Ok (None, r) → c ∷ w ≡ 0 ∷ r
stop_behind_found c w r e = by (eqb c 0) refl e
  where
    by : (z : Bool) → eqb c 0 ≡ z → cond z (stopped w) (signed_at w16 2 w >>= typed c) ≡ Ok (None, r) → c ∷ w ≡ 0 ∷ r
    by true z h =
        let first : c ≡ 0 = eqb-true c 0 z in
        let second : w ≡ r = (both_are {A = Option (ℕ × ℤ)} None None w r h).1 in
        ap (λ (x : ℕ). x ∷ w) first ∙ ap (λ (t : List ℕ). 0 ∷ t) second
    by false z h =
        let b = bind_ok (signed_at w16 2 w) (typed c) (None, r) h in
        let p = pass_ok (is_code c) BadType (Some (c, b.0.0), b.0.1) (None, r) b.2 in
        absurd (got_none c b.0.0 b.0.1 r p.1)

pub stop_found : (w r : List ℕ) → field_at w ≡ Ok (None, r) → w ≡ 0 ∷ r
unfolding field_at
stop_found [] r e = absurd cc
stop_found (b ∷ w) r e = stop_behind_found b w r e

-- ---- a sequence of fields

-- P s f t: the field f changes what was read from s to t
abbrev pub Path : {S : Type 0} → (S → Field → S → Type 0) → S → List Field → S → Type 0
Path P s [] t = t ≡ s
Path {S = S} P s (f ∷ fs) t = (u : S) × P s f u × Path P u fs t

pub record Fielded {S : Type 0} (P : S → Field → S → Type 0) (s : S) (w : List ℕ) (t : S) (r : List ℕ) : Type 0 where
  pub fields : List Field
  pub text : List ℕ
  pub parts : w ≡ text ++ r
  pub spells : IsFields fields text
  pub path : Path P s fields t

-- the value of a field depends on its own bytes alone
pub record Took {S : Type 0} (P : S → Field → S → Type 0) (s : S) (c : ℕ) (i : ℤ) (w : List ℕ) (t : S) (r : List ℕ) : Type 0 where
  pub text : List ℕ
  pub parts : w ≡ text ++ r
  pub does : P s (record { code = c; id = i; text = text }) t

module _ {S E : Type 0} (wire : WireError → E) (take : Take S E) (P : S → Field → S → Type 0)
    (takes : (s : S) (c : ℕ) (i : ℤ) (w : List ℕ) (t : S) (r : List ℕ) → take s c i w ≡ Ok (t, r) → Took P s c i w t r) where
  fields_in_found : (n : ℕ) (s : S) (w : List ℕ) (t : S) (r : List ℕ) → fields_in wire take n s w ≡ Ok (t, r) → Fielded P s w t r
  unfolding fields_in
  fields_in_found zero s w t r e = absurd cc
  fields_in_found (suc n) s w t r e =
      let b = bind_ok (lift wire (field_at w)) (λ h. behind_field (fields_in wire take n) take s h.0 h.1) (t, r) e in
      by (λ u v h. fields_in_found n u v t r h) b.0.0 b.0.1 (lift_ok wire (field_at w) b.0 b.1) b.2
    where
      by : ((u : S) (v : List ℕ) → fields_in wire take n u v ≡ Ok (t, r) → Fielded P u v t r) → (o : Option (ℕ × ℤ)) (v : List ℕ) → field_at w ≡ Ok (o, v)
          → behind_field (fields_in wire take n) take s o v ≡ Ok (t, r) → Fielded P s w t r
      by others None v head h =
          let same = both_are s t v r h in
          record { fields = []; text = 0 ∷ []; parts = stop_found w v head ∙ ap (λ (x : List ℕ). 0 ∷ x) same.1; spells = refl; path = sym same.0 }
      by others (Some f) v head h =
          let x = bind_ok (take s f.0 f.1 v) (λ y. fields_in wire take n y.0 y.1) (t, r) h in
          let hd = field_found w f.0 f.1 v head in
          let k = takes s f.0 f.1 v x.0.0 x.0.1 x.1 in
          let rest = others x.0.0 x.0.1 x.2 in
          let field : Field = record { code = f.0; id = f.1; text = k.text } in
          let whole : w ≡ ((f.0 ∷ hd.text) ++ (k.text ++ rest.text)) ++ r =
          hd.parts ∙ ap (λ (y : List ℕ). (f.0 ∷ hd.text) ++ y) (k.parts ∙ ap (λ (y : List ℕ). k.text ++ y) rest.parts) ∙ simp append_assoc in
          record {
            fields = field ∷ rest.fields;
            text = (f.0 ∷ hd.text) ++ (k.text ++ rest.text);
            parts = whole;
            spells = (f.0 ∷ hd.text, rest.text, (hd.text, hd.long, hd.value, refl, hd.coded), refl, rest.spells);
            path = (x.0.0, k.does, rest.path);
          }

  pub fields_found : (s : S) (w : List ℕ) (t : S) (r : List ℕ) → fields_at wire take s w ≡ Ok (t, r) → Fielded P s w t r
  unfolding fields_at
  fields_found s w t r e = fields_in_found (length w) s w t r e

-- ---- the result of a call on a cursor

pub reads_spelled : {X Y : Type 0} (view : X → Y) (read : List ℕ → Read Y) (Spells : List ℕ → Y → Type 0)
    → ((w : List ℕ) (y : Y) (r : List ℕ) → read w ≡ Ok (y, r) → Beginning (λ t. Spells t y) w r)
    → (old : List ℕ) (result : Result X WireError) (new : List ℕ) → Reads view read old result new
    → IfOk result (λ x. Beginning (λ t. Spells t (view x)) old new)
reads_spelled view read Spells f old (Ok x) new h = f old (view x) new h
reads_spelled view read Spells f old (Err e) new h = tt

pub string_beginning : (w bytes r : List ℕ) → string_at w ≡ Ok (bytes, r) → Beginning (λ t. IsString t bytes) w r
string_beginning w bytes r e = let s = string_found w bytes r e in record { text = s.text; parts = s.parts; spells = s.spells }

pub field_beginning : (w : List ℕ) (c : ℕ) (i : ℤ) (r : List ℕ) → field_at w ≡ Ok (Some (c, i), r) → Beginning (IsFieldHead c i) w r
field_beginning w c i r e = let h = field_found w c i r e in record { text = c ∷ h.text; parts = h.parts; spells = (h.text, h.long, h.value, refl, h.coded) }
