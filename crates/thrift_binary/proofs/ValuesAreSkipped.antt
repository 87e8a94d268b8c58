-- Every value is skipped, whatever follows it.
use Rattle.std.proofs.Common.{◌≡◌, ℕ, zero, suc, ◌<◌, Bool, true, false, cond, eqb, ltb, ◌&&◌, ◌||◌, List, [], ◌∷◌, ◌++◌, length, Result, Ok, Err, refl, sym}
use Rattle.std.proofs.Common.{ap, ◌∙◌, append_assoc, length-append, arith}
use Rattle.std.specs.Prelude.{MatchBool, OnOk}
use Rattle.std.specs.List.{AllByRecursion}
use Rattle.std.proofs.lemmas.Bool.{le-ltb, lt-ltb, ltb-true, eqb-true, ne_eqb, and_parts}
use Rattle.std.proofs.lemmas.List.{drop_at}
use Rattle.std.proofs.Math.Bool.{or-true}
use Rattle.thrift_binary.specs.declared.fault.WireError.{WireError}
use Rattle.thrift_binary.specs.declared.fault.WireError.TheVariants.{BadType, TooDeep}
use Rattle.thrift_binary.specs.Reading.{Reads, size_at, list_at, map_at, is_code}
use Rattle.thrift_binary.specs.Skipping.{Skip, past, both, times, text, struct, items, pairs, container, width, leaf, is_container, value_at, skip_at}
use Rattle.thrift_binary.specs.Spelling.{Beginning, IsString, Field, IsFields, IsRun, IsLeaf, IsStructOf, IsListOf, IsPair, IsMapOf, IsContainer, IsValue}
use Rattle.thrift_binary.proofs.ReadBytesSpell.{Path}
use Rattle.thrift_binary.proofs.SkippedAreValues.{Kept, gone, rest_is, skip_found}
use Rattle.thrift_binary.proofs.SpellingsAreRead.{size_again, string_again, fields_again}

gone_is_no_err : (r : List ℕ) (e : WireError) → gone r ≡ Err e → ⊥
gone_is_no_err r e h = absurd cc

-- a reading that takes each such text, whatever follows
abbrev pub Passes : Skip → (List ℕ → Type 0) → Type 0
Passes read Is = (t r : List ℕ) → Is t → read (t ++ r) ≡ Ok (tt, r)

past_again : (n : ℕ) → Passes (past n) (λ t. length t ≡ n)
past_again n t r len =
    let long : ltb (length (t ++ r)) n ≡ false = le-ltb _ _ (omega (arith, length-append t r)) in
    rw (long, drop_at t r n len) refl

both_again : (a b : Skip) (A B : List ℕ → Type 0) → Passes a A → Passes b B → (t x y r : List ℕ) → A x → B y → t ≡ x ++ y → both a b (t ++ r) ≡ Ok (tt, r)
both_again a b A B pa pb t x y r ax by is =
    let parts : t ++ r ≡ x ++ (y ++ r) = ap (λ (v : List ℕ). v ++ r) is ∙ append_assoc x y r in
    let one : a (t ++ r) ≡ Ok (tt, y ++ r) = ap a parts ∙ pa x (y ++ r) ax in
    rw one (pb y r by)

times_again : (one : Skip) (One : List ℕ → Type 0) → Passes one One → (n : ℕ) → Passes (times n one) (IsRun One n)
unfolding times
times_again one One p zero t r is = rw is refl
times_again one One p (suc n) t r (first, rest, f, is, more) =
    let parts : t ++ r ≡ first ++ (rest ++ r) = ap (λ (v : List ℕ). v ++ r) is ∙ append_assoc first rest r in
    let step : one (t ++ r) ≡ Ok (tt, rest ++ r) = ap one parts ∙ p first (rest ++ r) f in
    rw step (times_again one One p n rest r more)

text_again : (bytes : List ℕ) → Passes text (λ t. IsString t bytes)
unfolding text
text_again bytes t r is = rw (string_again t bytes r is) refl

all_kept_again : (Value : ℕ → List ℕ → Type 0) (fs : List Field) → AllByRecursion (λ f. Value f.code f.text) fs → Path (Kept Value) tt fs tt
all_kept_again Value [] a = refl
all_kept_again Value (f ∷ fs) a = (tt, a.0, all_kept_again Value fs a.1)

module _ (value : ℕ → Skip) (Value : ℕ → List ℕ → Type 0) (again : (c : ℕ) → Passes (value c) (Value c))
    (coded : (c : ℕ) (t : List ℕ) → Value c t → is_code c ≡ true) where
  struct_again : Passes (struct value) (IsStructOf Value)
  unfolding struct
  struct_again t r (fs, spells, all) =
      fields_again (λ x. x) (λ s c i. value c) (Kept Value) (λ s f u v d. again f.code f.text v d) fs tt tt t r spells (all_kept_again Value fs all)

  first_coded : (c n : ℕ) (w : List ℕ) → IsRun (Value c) n w → (eqb n 0 || is_code c) ≡ true
  first_coded c zero w run = refl
  first_coded c (suc n) w (first, rest, f, is, more) = let known = coded c first f in rw known (or-true (eqb (suc n) 0))

  items_again : Passes (items value) (IsListOf Value)
  unfolding items list_at
  items_again t r (c, n, h, rest, size, is, run) =
      let parts : t ++ r ≡ c ∷ (h ++ (rest ++ r)) = ap (λ (v : List ℕ). v ++ r) is ∙ ap (λ (v : List ℕ). c ∷ v) (append_assoc h rest r) in
      let sized : size_at (h ++ (rest ++ r)) ≡ Ok (n, rest ++ r) = size_again h (rest ++ r) n size in
      let known : (eqb n 0 || is_code c) ≡ true = first_coded c n rest run in
      let head : list_at (t ++ r) ≡ Ok ((c, n), rest ++ r) = rw parts (rw sized (rw known refl)) in
      rw head (times_again (value c) (Value c) (again c) n rest r run)

  pair_again : (k c : ℕ) → Passes (both (value k) (value c)) (IsPair Value k c)
  pair_again k c t r (a, b, va, vb, is) = both_again (value k) (value c) (Value k) (Value c) (again k) (again c) t a b r va vb is

  first_pair_coded : (k c n : ℕ) (w : List ℕ) → IsRun (IsPair Value k c) n w → (eqb n 0 || (is_code k && is_code c)) ≡ true
  first_pair_coded k c zero w run = refl
  first_pair_coded k c (suc n) w (first, rest, (a, b, va, vb, pair), is, more) =
      let one = coded k a va in
      let two = coded c b vb in
      rw one (rw two (or-true (eqb (suc n) 0)))

  pairs_again : Passes (pairs value) (IsMapOf Value)
  unfolding pairs map_at
  pairs_again t r (k, c, n, h, rest, size, is, run) =
      let parts : t ++ r ≡ k ∷ (c ∷ (h ++ (rest ++ r))) = ap (λ (v : List ℕ). v ++ r) is ∙ ap (λ (v : List ℕ). k ∷ (c ∷ v)) (append_assoc h rest r) in
      let sized : size_at (h ++ (rest ++ r)) ≡ Ok (n, rest ++ r) = size_again h (rest ++ r) n size in
      let known : (eqb n 0 || (is_code k && is_code c)) ≡ true = first_pair_coded k c n rest run in
      let head : map_at (t ++ r) ≡ Ok (((k, c), n), rest ++ r) = rw parts (rw sized (rw known refl)) in
      rw head (times_again (both (value k) (value c)) (IsPair Value k c) (pair_again k c) n rest r run)

  container_again : (c : ℕ) → Passes (container value c) (IsContainer Value c)
  container_again c t r is = by (eqb c 12) (eqb c 13) is
    where
      by : (a b : Bool) → MatchBool a (IsStructOf Value t) (MatchBool b (IsMapOf Value t) (IsListOf Value t))
          → cond a (struct value (t ++ r)) (cond b (pairs value (t ++ r)) (items value (t ++ r))) ≡ Ok (tt, r)
      by true b h = struct_again t r h
      by false true h = pairs_again t r h
      by false false h = items_again t r h

-- ---- by the type

leaf_again : (c : ℕ) → Passes (leaf c) (IsLeaf c)
leaf_again c t r is = by (eqb c 11) is
  where
    by : (a : Bool) → MatchBool a ((bytes : List ℕ) × IsString t bytes) ((length t ≡ width c) × (0 < width c))
        → cond a (text (t ++ r)) (cond (ltb 0 (width c)) (past (width c) (t ++ r)) (Err BadType)) ≡ Ok (tt, r)
    by true h = text_again h.0 t r h.1
    by false h = let some : ltb 0 (width c) ≡ true = lt-ltb _ _ h.1 in rw some (past_again (width c) t r h.0)

-- only the codes of the table have values
wide_coded : (a b c d e f g : Bool) → 0 < cond (a || b) 1 (cond d 2 (cond e 4 (cond (c || f) 8 0))) → (a || b || c || d || e || f || g) ≡ true
wide_coded true b c d e f g h = refl
wide_coded false true c d e f g h = refl
wide_coded false false true d e f g h = refl
wide_coded false false false true e f g h = refl
wide_coded false false false false true f g h = refl
wide_coded false false false false false true g h = refl
wide_coded false false false false false false g h = absurd (omega arith)

container_coded : (c : ℕ) → is_container c ≡ true → is_code c ≡ true
container_coded c e =
    let parts = and_parts (ltb 11 c) (ltb c 16) e in
    let more : 11 < c = ltb-true 11 c parts.0 in
    let above : ltb 10 c ≡ true = lt-ltb 10 c (omega arith) in
    let below : ltb c 16 ≡ true = parts.1 in
    rw (above, below) (or-true (eqb c 2 || eqb c 3 || eqb c 4 || eqb c 6 || eqb c 8 || eqb c 10))

leaf_coded : (c : ℕ) (t : List ℕ) → IsLeaf c t → is_code c ≡ true
leaf_coded c t is = by (eqb c 11) refl is
  where
    by : (a : Bool) → eqb c 11 ≡ a → MatchBool a ((bytes : List ℕ) × IsString t bytes) ((length t ≡ width c) × (0 < width c)) → is_code c ≡ true
    by true e h = let c-is : c ≡ 11 = eqb-true c 11 e in rw c-is refl
    by false e h = wide_coded (eqb c 2) (eqb c 3) (eqb c 4) (eqb c 6) (eqb c 8) (eqb c 10) (ltb 10 c && ltb c 16) h.1

-- what holds of a container's type and of a leaf's
value_kinds : {P : Type 0} (levels c : ℕ) (t : List ℕ) → IsValue levels c t
    → ((Value : ℕ → List ℕ → Type 0) → is_container c ≡ true → IsContainer Value c t → P) → (IsLeaf c t → P) → P
unfolding IsValue
value_kinds {P} zero c t is inside leaf = by (is_container c) is
  where
    by : (a : Bool) → MatchBool a ⊥ (IsLeaf c t) → P
    by true h = absurd h
    by false h = leaf h
value_kinds {P} (suc levels) c t is inside leaf = by (is_container c) refl is
  where
    by : (a : Bool) → is_container c ≡ a → MatchBool a (IsContainer (IsValue levels) c t) (IsLeaf c t) → P
    by true e h = inside (IsValue levels) e h
    by false e h = leaf h

value_coded : (levels c : ℕ) (t : List ℕ) → IsValue levels c t → is_code c ≡ true
value_coded levels c t is = value_kinds levels c t is (λ V e h. container_coded c e) (leaf_coded c t)

value_again : (levels c : ℕ) → Passes (value_at levels c) (IsValue levels c)
unfolding value_at IsValue
value_again zero c t r is = by (is_container c) is
  where
    by : (a : Bool) → MatchBool a ⊥ (IsLeaf c t) → cond a (Err TooDeep) (leaf c (t ++ r)) ≡ Ok (tt, r)
    by true h = absurd h
    by false h = leaf_again c t r h
value_again (suc levels) c t r is =
    by (container_again (value_at levels) (IsValue levels) (λ d. value_again levels d) (λ d u v. value_coded levels d u v) c) (is_container c) is
  where
    by : Passes (container (value_at levels) c) (IsContainer (IsValue levels) c) → (a : Bool) → MatchBool a (IsContainer (IsValue levels) c t) (IsLeaf c t)
        → cond a (container (value_at levels) c (t ++ r)) (leaf c (t ++ r)) ≡ Ok (tt, r)
    by f true h = f t r h
    by f false h = leaf_again c t r h

-- no value has an empty spelling
fields_some : (fs : List Field) (w : List ℕ) → IsFields fs w → 0 < length w
fields_some [] w is = omega (arith, ap length is)
fields_some (f ∷ fs) w (h, rest, head, is, more) = omega (arith, ap length is, ap length head.3, length-append h (f.text ++ rest))

container_some : (Value : ℕ → List ℕ → Type 0) (c : ℕ) (t : List ℕ) → IsContainer Value c t → 0 < length t
container_some Value c t is = by (eqb c 12) (eqb c 13) is
  where
    by : (a b : Bool) → MatchBool a (IsStructOf Value t) (MatchBool b (IsMapOf Value t) (IsListOf Value t)) → 0 < length t
    by true b (fs, spells, all) = fields_some fs t spells
    by false true (k, d, n, h, rest, size, is, run) = omega (arith, ap length is)
    by false false (d, n, h, rest, size, is, run) = omega (arith, ap length is)

leaf_some : (c : ℕ) (t : List ℕ) → IsLeaf c t → 0 < length t
leaf_some c t is = by (eqb c 11) is
  where
    by : (a : Bool) → MatchBool a ((bytes : List ℕ) × IsString t bytes) ((length t ≡ width c) × (0 < width c)) → 0 < length t
    by true (bytes, (h, size, is)) = omega (arith, ap length is, length-append h bytes, size.0)
    by false h = omega (arith, h.0, h.1)

pub value_some : (levels c : ℕ) (t : List ℕ) → IsValue levels c t → 0 < length t
value_some levels c t is = value_kinds levels c t is (λ V e h. container_some V c t h) (leaf_some c t)

-- a value of the type is skipped, and what follows it remains
pub skip_again : (c : ℕ) (t r : List ℕ) → IsValue 64 c t → skip_at c (t ++ r) ≡ Ok (tt, r)
unfolding skip_at
skip_again c t r is = rw some (value_again 64 c t r is)
  where
    some : eqb (length (t ++ r)) 0 ≡ false
    some = ne_eqb (length (t ++ r)) 0 (λ e. let s = value_some 64 c t is in absurd (omega (arith, length-append t r)))

-- ---- the result of a call of `skip`

pub skip_reads_found : (c : ℕ) (old : List ℕ) (result : Result (Unit {0}) WireError) (new : List ℕ) → Reads (λ x. tt) (skip_at c) old result new
    → OnOk result (Beginning (IsValue 64 c) old new)
skip_reads_found c old (Ok x) new h = skip_found c old new h
skip_reads_found c old (Err e) new h = tt

pub skip_reads_complete : (c : ℕ) (old : List ℕ) (result : Result (Unit {0}) WireError) (new : List ℕ) → Reads (λ x. tt) (skip_at c) old result new
    → (t r : List ℕ) → IsValue 64 c t → old ≡ t ++ r → (result ≡ Ok tt) × (new ≡ r)
skip_reads_complete c old (Ok x) new h t r is parts =
    let there : skip_at c old ≡ Ok (tt, r) = ap (skip_at c) parts ∙ skip_again c t r is in
    (refl, rest_is new r (sym h ∙ there))
skip_reads_complete c old (Err e) new h t r is parts = absurd (gone_is_no_err r e (sym (ap (skip_at c) parts ∙ skip_again c t r is) ∙ h.0))
