-- The bytes that are skipped are a value.
use Rattle.std.proofs.Common.{◌≡◌, ℕ, ℤ, zero, suc, ◌<◌, Bool, true, false, cond, eqb, ltb, ◌&&◌, ◌||◌, List, [], ◌∷◌, ◌++◌, length, Ok, Err, refl, sym, ap}
use Rattle.std.proofs.Common.{subst, ◌∙◌, append_assoc}
use Rattle.std.specs.Prelude.{MatchBool}
use Rattle.std.specs.List.{AllByRecursion}
use Rattle.std.proofs.lemmas.Bool.{ltb-true}
use Rattle.thrift_binary.specs.declared.fault.WireError.TheVariants.{Truncated, BadType, TooDeep}
use Rattle.thrift_binary.specs.Reading.{◌>>=◌, Read, size_at, string_at, list_at, map_at, is_code}
use Rattle.thrift_binary.specs.Skipping.{Skip, past, both, times, text, struct, items, pairs, container, width, leaf, is_container, skip_at, value_at}
use Rattle.thrift_binary.specs.Spelling.{Beginning, IsSize, IsString, Field, IsRun, IsLeaf, IsStructOf, IsListOf, IsPair, IsMapOf, IsContainer, IsValue}
use Rattle.thrift_binary.specs.Spelling.{IsListHead}
use Rattle.thrift_binary.proofs.ReadBytesSpell.{bind_ok, pass_ok, both_are, beginning_found, Path, Took, fields_found, string_found, size_found}

-- a reading that takes only such prefixes
abbrev pub Finds : Skip → (List ℕ → Type 0) → Type 0
Finds read Is = (w r : List ℕ) → read w ≡ Ok (tt, r) → Beginning Is w r

abbrev pub gone : List ℕ → Read (Unit {0})
gone w = Ok (tt, w)

pub rest_is : (v r : List ℕ) → gone v ≡ gone r → v ≡ r
rest_is v r e = (both_are tt tt v r e).1

past_found : (n : ℕ) → Finds (past n) (λ t. length t ≡ n)
past_found n w r e = let b = beginning_found n (λ _. tt) (λ _ le. refl) w tt r e in record { text = b.text; parts = b.parts; spells = b.spells.0 }

both_found : (a b : Skip) (A B : List ℕ → Type 0) → Finds a A → Finds b B → Finds (both a b) (λ t. (x : List ℕ) × (y : List ℕ) × A x × B y × (t ≡ x ++ y))
both_found a b A B fa fb w r e =
    let k = bind_ok (a w) (λ x. b x.1) (tt, r) e in
    let one = fa w k.0.1 k.1 in
    let two = fb k.0.1 r k.2 in
    record {
      text = one.text ++ two.text;
      parts = one.parts ∙ ap (λ (t : List ℕ). one.text ++ t) two.parts ∙ sym (append_assoc one.text two.text r);
      spells = (one.text, two.text, one.spells, two.spells, refl);
    }

times_found : (one : Skip) (One : List ℕ → Type 0) → Finds one One → (n : ℕ) → Finds (times n one) (IsRun One n)
unfolding times
times_found one One f zero w r e = record { text = []; parts = rest_is w r e; spells = refl }
times_found one One f (suc n) w r e =
    let k = bind_ok (one w) (λ x. times n one x.1) (tt, r) e in
    let first = f w k.0.1 k.1 in
    let others = times_found one One f n k.0.1 r k.2 in
    record {
      text = first.text ++ others.text;
      parts = first.parts ∙ ap (λ (t : List ℕ). first.text ++ t) others.parts
          ∙ sym (append_assoc first.text others.text r);
      spells = (first.text, others.text, first.spells, refl, others.spells);
    }

text_found : Finds text (λ t. (bytes : List ℕ) × IsString t bytes)
unfolding text
text_found w r e =
    let k = bind_ok (string_at w) (λ x. Ok (tt, x.1)) (tt, r) e in
    let s = string_found w k.0.0 k.0.1 k.1 in
    record { text = s.text; parts = s.parts ∙ ap (λ (t : List ℕ). s.text ++ t) (rest_is k.0.1 r k.2); spells = (k.0.0, s.spells) }

-- a field of a skipped struct
abbrev pub Kept : (ℕ → List ℕ → Type 0) → Unit {0} → Field → Unit {0} → Type 0
Kept Value s f t = Value f.code f.text

all_kept : (Value : ℕ → List ℕ → Type 0) (fs : List Field) (s t : Unit {0}) → Path (Kept Value) s fs t → AllByRecursion (λ f. Value f.code f.text) fs
all_kept Value [] s t p = tt
all_kept Value (f ∷ fs) s t (u, d, p) = (d, all_kept Value fs u t p)

struct_found : (value : ℕ → Skip) (Value : ℕ → List ℕ → Type 0) → ((c : ℕ) → Finds (value c) (Value c)) → Finds (struct value) (IsStructOf Value)
unfolding struct
struct_found value Value f w r e =
    let k = fields_found (λ x. x) (λ s c i. value c) (Kept Value) took tt w tt r e in
    record { text = k.text; parts = k.parts; spells = (k.fields, k.spells, all_kept Value k.fields tt tt k.path) }
  where
    took : (s : Unit {0}) (c : ℕ) (i : ℤ) (w : List ℕ) (t : Unit {0}) (r : List ℕ) → value c w ≡ Ok (t, r) → Took (Kept Value) s c i w t r
    took s c i w t r e = let h = f c w r e in record { text = h.text; parts = h.parts; does = h.spells }

-- codes of types, and how many values follow
pub record Sized (codes : List ℕ) (n : ℕ) (w r : List ℕ) : Type 0 where
  pub size : List ℕ
  pub parts : w ≡ codes ++ (size ++ r)
  pub spells : IsSize size n

-- codes of types and the size after them, which are a head if the codes are known
abbrev head_of : {H : Type 0} → (ℕ → H) → Bool → ℕ × List ℕ → Read H
head_of made known m = cond (eqb m.0 0 || known) (Ok (made m.0, m.1)) (Err BadType)

sized_found : {H : Type 0} (made : ℕ → H) (known : Bool) (w : List ℕ) (h : H) (r : List ℕ) → (size_at w >>= head_of made known) ≡ Ok (h, r) → (n : ℕ)
    × (made n ≡ h) × Sized [] n w r
sized_found {H = H} made known w h r e =
    let k = bind_ok (size_at w) (head_of made known) (h, r) e in
    let p = pass_ok (eqb k.0.0 0 || known) BadType (made k.0.0, k.0.1) (h, r) k.2 in
    let s = size_found w k.0.0 k.0.1 k.1 in
    (k.0.0, ap (λ (x : H × List ℕ). x.0) p.1, record { size = s.text; parts = s.parts ∙ ap (λ (x : H × List ℕ). s.text ++ x.1) p.1; spells = s.spells })

pub list_head_found : (w : List ℕ) (c n : ℕ) (r : List ℕ) → list_at w ≡ Ok ((c, n), r) → Sized (c ∷ []) n w r
unfolding list_at
list_head_found [] c n r e = absurd cc
list_head_found (b ∷ w) c n r e =
    let s = sized_found (λ m. (b, m)) (is_code b) w (c, n) r e in
    record {
      size = s.2.size;
      parts = ap (λ (t : List ℕ). b ∷ t) s.2.parts ∙ ap (λ (x : ℕ × ℕ). x.0 ∷ (s.2.size ++ r)) s.1;
      spells = subst (λ (x : ℕ × ℕ). IsSize s.2.size x.1) s.1 s.2.spells;
    }

items_found : (value : ℕ → Skip) (Value : ℕ → List ℕ → Type 0) → ((c : ℕ) → Finds (value c) (Value c)) → Finds (items value) (IsListOf Value)
unfolding items
items_found value Value f w r e =
    let k = bind_ok (list_at w) (λ h. times h.0.1 (value h.0.0) h.1) (tt, r) e in
    let h = list_head_found w k.0.0.0 k.0.0.1 k.0.1 k.1 in
    let run = times_found (value k.0.0.0) (Value k.0.0.0) (f k.0.0.0) k.0.0.1 k.0.1 r k.2 in
    record {
      text = k.0.0.0 ∷ (h.size ++ run.text);
      parts = h.parts ∙ ap (λ (t : List ℕ). k.0.0.0 ∷ (h.size ++ t)) run.parts ∙ ap (λ (t : List ℕ). k.0.0.0 ∷ t) (sym (append_assoc h.size run.text r));
      spells = (k.0.0.0, k.0.0.1, h.size, run.text, h.spells, refl, run.spells);
    }

map_head_found : (w : List ℕ) (k c n : ℕ) (r : List ℕ) → map_at w ≡ Ok (((k, c), n), r) → Sized (k ∷ (c ∷ [])) n w r
unfolding map_at
map_head_found [] k c n r e = absurd cc
map_head_found (a ∷ []) k c n r e = absurd cc
map_head_found (a ∷ (b ∷ w)) k c n r e =
    let s = sized_found (λ m. ((a, b), m)) (is_code a && is_code b) w ((k, c), n) r e in
    record {
      size = s.2.size;
      parts = ap (λ (t : List ℕ). a ∷ (b ∷ t)) s.2.parts ∙ ap (λ (x : (ℕ × ℕ) × ℕ). x.0.0 ∷ (x.0.1 ∷ (s.2.size ++ r))) s.1;
      spells = subst (λ (x : (ℕ × ℕ) × ℕ). IsSize s.2.size x.1) s.1 s.2.spells;
    }

pairs_found : (value : ℕ → Skip) (Value : ℕ → List ℕ → Type 0) → ((c : ℕ) → Finds (value c) (Value c)) → Finds (pairs value) (IsMapOf Value)
unfolding pairs
pairs_found value Value f w r e =
    let m = bind_ok (map_at w) (λ h. times h.0.1 (both (value h.0.0.0) (value h.0.0.1)) h.1) (tt, r) e in
    let k = m.0.0.0.0 in
    let c = m.0.0.0.1 in
    let h = map_head_found w k c m.0.0.1 m.0.1 m.1 in
    let run = times_found (both (value k) (value c)) (IsPair Value k c) (both_found (value k) (value c) (Value k) (Value c) (f k) (f c)) m.0.0.1 m.0.1 r m.2 in
    record {
      text = k ∷ (c ∷ (h.size ++ run.text));
      parts = h.parts ∙ ap (λ (t : List ℕ). k ∷ (c ∷ (h.size ++ t))) run.parts ∙ ap (λ (t : List ℕ). k ∷ (c ∷ t)) (sym (append_assoc h.size run.text r));
      spells = (k, c, m.0.0.1, h.size, run.text, h.spells, refl, run.spells);
    }

-- ---- by the type

leaf_found : (c : ℕ) → Finds (leaf c) (IsLeaf c)
leaf_found c w r e = by (eqb c 11) e
  where
    fixed : (z : Bool) → ltb 0 (width c) ≡ z → cond z (past (width c) w) (Err BadType) ≡ Ok (tt, r) → Beginning (λ t. (length t ≡ width c) × (0 < width c)) w r
    fixed true z h = let f = past_found (width c) w r h in record { text = f.text; parts = f.parts; spells = (f.spells, ltb-true 0 (width c) z) }
    fixed false z h = absurd cc

    by : (a : Bool) → cond a (text w) (cond (ltb 0 (width c)) (past (width c) w) (Err BadType)) ≡ Ok (tt, r)
        → Beginning (λ t. MatchBool a ((bytes : List ℕ) × IsString t bytes) ((length t ≡ width c) × (0 < width c))) w r
    by true h = text_found w r h
    by false h = fixed (ltb 0 (width c)) refl h

container_found : (value : ℕ → Skip) (Value : ℕ → List ℕ → Type 0) → ((c : ℕ) → Finds (value c) (Value c)) → (c : ℕ)
    → Finds (container value c) (IsContainer Value c)
container_found value Value f c w r e = by (eqb c 12) (eqb c 13) e
  where
    by : (a b : Bool) → cond a (struct value w) (cond b (pairs value w) (items value w)) ≡ Ok (tt, r)
        → Beginning (λ t. MatchBool a (IsStructOf Value t) (MatchBool b (IsMapOf Value t) (IsListOf Value t))) w r
    by true b h = struct_found value Value f w r h
    by false true h = pairs_found value Value f w r h
    by false false h = items_found value Value f w r h

pub value_found : (levels c : ℕ) → Finds (value_at levels c) (IsValue levels c)
unfolding value_at IsValue
value_found zero c w r e = by (is_container c) e
  where
    by : (a : Bool) → cond a (Err TooDeep) (leaf c w) ≡ Ok (tt, r) → Beginning (λ t. MatchBool a ⊥ (IsLeaf c t)) w r
    by true h = absurd cc
    by false h = leaf_found c w r h
value_found (suc levels) c w r e = by (container_found (value_at levels) (IsValue levels) (λ d. value_found levels d) c) (is_container c) e
  where
    by : Finds (container (value_at levels) c) (IsContainer (IsValue levels) c) → (a : Bool) → cond a (container (value_at levels) c w) (leaf c w) ≡ Ok (tt, r)
        → Beginning (λ t. MatchBool a (IsContainer (IsValue levels) c t) (IsLeaf c t)) w r
    by f true h = f w r h
    by f false h = leaf_found c w r h

-- what is skipped is a value of the type
pub skip_found : (c : ℕ) (w r : List ℕ) → skip_at c w ≡ Ok (tt, r) → Beginning (IsValue 64 c) w r
unfolding skip_at
skip_found c w r e = by (eqb (length w) 0) e
  where
    by : (a : Bool) → cond a (Err Truncated) (value_at 64 c w) ≡ Ok (tt, r) → Beginning (IsValue 64 c) w r
    by true h = absurd cc
    by false h = value_found 64 c w r h

-- the head of a list
pub list_head_beginning : (w : List ℕ) (h : ℕ × ℕ) (r : List ℕ) → list_at w ≡ Ok (h, r) → Beginning (IsListHead h.0 h.1) w r
list_head_beginning w (c, n) r e =
    let h = list_head_found w c n r e in
    record { text = c ∷ h.size; parts = h.parts; spells = (c, h.size, (λ some. refl), h.spells, refl) }
