-- Lists of values of one type: the bytes that are read spell the list, and every spelling of it is read.
use Rattle.std.proofs.Common.{◌≡◌, ℕ, zero, suc, ◌<◌, Bool, true, false, cond, eqb, ◌||◌, List, [], ◌∷◌, ◌++◌, length, Result, Ok, Err, refl, sym, ap, subst}
use Rattle.std.proofs.Common.{◌∙◌, append_assoc, arith, inl, inr}
use Rattle.std.proofs.lemmas.Bool.{eqb-true}
use Rattle.std.proofs.lemmas.Bool.Decides.{eqb_tells}
use Rattle.thrift_binary.specs.declared.fault.WireError.{WireError}
use Rattle.thrift_binary.specs.declared.fault.WireError.TheVariants.{BadType}
use Rattle.thrift_binary.specs.Reading.{◌>>=◌, lift, size_at, list_at, is_code}
use Rattle.thrift_binary.specs.Lists.{items_at, list_of}
use Rattle.thrift_binary.specs.Spelling.{Beginning, IsSize, IsEach, IsListHead, IsTypedList}
use Rattle.thrift_binary.proofs.ReadBytesSpell.{bind_ok, lift_ok, both_are}
use Rattle.thrift_binary.proofs.SkippedAreValues.{list_head_found}
use Rattle.thrift_binary.proofs.SpellingsAreRead.{size_again}

one_then_other : (w a v b r : List ℕ) → w ≡ a ++ v → v ≡ b ++ r → w ≡ (a ++ b) ++ r
one_then_other w a v b r p q = p ∙ ap (λ (t : List ℕ). a ++ t) q ∙ sym (append_assoc a b r)

-- the values that were read, and the spelling of each
pub items_found : {A E : Type 0} (one : List ℕ → Result (A × List ℕ) E) (Spells : List ℕ → A → Type 0)
    → ((w : List ℕ) (x : A) (r : List ℕ) → one w ≡ Ok (x, r) → Beginning (λ t. Spells t x) w r)
    → (n : ℕ) (w : List ℕ) (xs : List A) (r : List ℕ) → items_at one n w ≡ Ok (xs, r) → (length xs ≡ n) × Beginning (IsEach Spells xs) w r
unfolding items_at
items_found {A = A} one Spells f zero w xs r e =
    let same = both_are {A = List A} [] xs w r e in
    subst (λ (ys : List A). (length ys ≡ zero) × Beginning (IsEach Spells ys) w r) same.0 (refl, record { text = []; parts = same.1; spells = refl })
items_found {A = A} one Spells f (suc n) w xs r e =
    let k = bind_ok (one w) (λ x. items_at one n x.1 >>= λ y. Ok (x.0 ∷ y.0, y.1)) (xs, r) e in
    let m = bind_ok (items_at one n k.0.1) (λ y. Ok (k.0.0 ∷ y.0, y.1)) (xs, r) k.2 in
    let first = f w k.0.0 k.0.1 k.1 in
    let others = items_found one Spells f n k.0.1 m.0.0 m.0.1 m.1 in
    let whole : List A = k.0.0 ∷ m.0.0 in
    let same = both_are whole xs m.0.1 r m.2 in
    let front : Beginning (IsEach Spells whole) w r = record {
      text = first.text ++ others.1.text;
      parts = one_then_other w first.text k.0.1 others.1.text r first.parts (others.1.parts ∙ ap (λ (t : List ℕ). others.1.text ++ t) same.1);
      spells = (first.text, others.1.text, first.spells, refl, others.1.spells);
    } in
    let long : length whole ≡ suc n = omega (arith, others.0) in
    subst (λ (ys : List A). (length ys ≡ suc n) × Beginning (IsEach Spells ys) w r) same.0 (long, front)

pub items_again : {A E : Type 0} (one : List ℕ → Result (A × List ℕ) E) (Spells : List ℕ → A → Type 0)
    → ((t r : List ℕ) (x : A) → Spells t x → one (t ++ r) ≡ Ok (x, r))
    → (t r : List ℕ) (xs : List A) → IsEach Spells xs t → items_at one (length xs) (t ++ r) ≡ Ok (xs, r)
unfolding items_at
items_again one Spells again t r [] is = rw is refl
items_again one Spells again t r (x ∷ xs) (first, rest, f, is, more) =
    let parts : t ++ r ≡ first ++ (rest ++ r) = ap (λ (v : List ℕ). v ++ r) is ∙ append_assoc first rest r in
    let step : one (t ++ r) ≡ Ok (x, rest ++ r) = ap one parts ∙ again first (rest ++ r) x f in
    let others = items_again one Spells again rest r xs more in
    rw step (rw others refl)

-- an element type that passed
allowed : (n e c : ℕ) → (eqb n 0 || eqb e c) ≡ true → 0 < n → e ≡ c
allowed n e c h some = by (eqb n 0) (eqb e c) refl refl h
  where
    by : (a b : Bool) → eqb n 0 ≡ a → eqb e c ≡ b → (a || b) ≡ true → e ≡ c
    by true b p q h = let none : n ≡ 0 = eqb-true n 0 p in absurd (omega arith)
    by false true p q h = eqb-true e c q
    by false false p q h = absurd cc

pub list_found : {A E : Type 0} (wire : WireError → E) (c : ℕ) (one : List ℕ → Result (A × List ℕ) E) (Spells : List ℕ → A → Type 0)
    → ((w : List ℕ) (x : A) (r : List ℕ) → one w ≡ Ok (x, r) → Beginning (λ t. Spells t x) w r)
    → (w : List ℕ) (xs : List A) (r : List ℕ) → list_of wire c one w ≡ Ok (xs, r) → Beginning (λ t. IsTypedList c Spells t xs) w r
unfolding list_of
list_found {A = A} {E = E} wire c one Spells f w xs r e =
    let k = bind_ok (lift wire (list_at w)) (λ h. cond (eqb h.0.1 0 || eqb h.0.0 c) (items_at one h.0.1 h.1) (Err (wire BadType))) (xs, r) e in
    let head = list_head_found w k.0.0.0 k.0.0.1 k.0.1 (lift_ok wire (list_at w) k.0 k.1) in
    by k.0.0.0 k.0.0.1 k.0.1 head.size head.parts head.spells (eqb k.0.0.1 0 || eqb k.0.0.0 c) refl k.2
  where
    by : (a n : ℕ) (v size : List ℕ) → w ≡ a ∷ (size ++ v) → IsSize size n → (z : Bool) → (eqb n 0 || eqb a c) ≡ z
        → cond z (items_at one n v) (Err (wire BadType)) ≡ Ok (xs, r) → Beginning (λ t. IsTypedList c Spells t xs) w r
    by a n v size parts spells true z h =
        let items = items_found one Spells f n v xs r h in
        let len : n ≡ length xs = sym items.0 in
        let kind : 0 < length xs → a ≡ c = λ some. allowed n a c z (omega arith) in
        record {
          text = (a ∷ size) ++ items.1.text;
          parts = parts ∙ ap (λ (t : List ℕ). a ∷ (size ++ t)) items.1.parts ∙ ap (λ (t : List ℕ). a ∷ t) (sym (append_assoc size items.1.text r));
          spells = (a ∷ size, items.1.text, (a, size, kind, subst (λ i. IsSize size i) len spells, refl), refl, items.1.spells);
        }
    by a n v size parts spells false z h = absurd cc

pos_of : (n : ℕ) → (n ≡ 0 → ⊥) → 0 < n
pos_of zero h = absurd (h refl)
pos_of (suc n) h = omega arith

eqb_same : (a b : ℕ) → a ≡ b → eqb a b ≡ true
eqb_same a b e = rw e (elim (eqb_tells b b) [ inl (z, _) ↦ z | inr (_, never) ↦ absurd (never refl) ])

-- the head of a list of the declared type
pub list_head_again : {E : Type 0} (wire : WireError → E) (c n : ℕ) (t r : List ℕ) → is_code c ≡ true → IsListHead c n t → (e : ℕ)
    × (lift wire (list_at (t ++ r)) ≡ Ok ((e, n), r)) × ((eqb n 0 || eqb e c) ≡ true)
unfolding list_at
list_head_again wire c n t r coded (e, h, kind, size, is) = (e, lifted, (open_to c (λ i. i)).1)
  where
    open_to : (d : ℕ) → (e ≡ c → e ≡ d) → ((eqb n 0 || is_code e) ≡ true) × ((eqb n 0 || eqb e d) ≡ true)
    open_to d to = elim (eqb_tells n 0) [
      | inl (z, _) ↦ (rw z refl, rw z refl)
      | inr (z, more) ↦ (let same : e ≡ c = kind (pos_of n more) in (rw same (rw z coded), rw z (eqb_same e d (to same))))
    ]

    sized : size_at (h ++ r) ≡ Ok (n, r)
    sized = size_again h r n size

    lifted : lift wire (list_at (t ++ r)) ≡ Ok ((e, n), r)
    lifted = let known = (open_to c (λ i. i)).0 in rw is (rw sized (rw known refl))

pub list_head_read : (c n : ℕ) (t r : List ℕ) → IsListHead c n t → is_code c ≡ true → (e : ℕ) × (list_at (t ++ r) ≡ Ok ((e, n), r)) × (0 < n → e ≡ c)
list_head_read c n t r is coded =
    let k = list_head_again (λ e. e) c n t r coded is in
    (k.0, lift_ok (λ e. e) (list_at (t ++ r)) ((k.0, n), r) k.1, allowed n k.0 c k.2)

pub list_again : {A E : Type 0} (wire : WireError → E) (c : ℕ) (one : List ℕ → Result (A × List ℕ) E) (Spells : List ℕ → A → Type 0) → is_code c ≡ true
    → ((t r : List ℕ) (x : A) → Spells t x → one (t ++ r) ≡ Ok (x, r))
    → (t r : List ℕ) (xs : List A) → IsTypedList c Spells t xs → list_of wire c one (t ++ r) ≡ Ok (xs, r)
unfolding list_of
list_again wire c one Spells coded again t r xs (h, rest, head, is, each) =
    let parts : t ++ r ≡ h ++ (rest ++ r) = ap (λ (v : List ℕ). v ++ r) is ∙ append_assoc h rest r in
    let k = list_head_again wire c (length xs) h (rest ++ r) coded head in
    let first : lift wire (list_at (t ++ r)) ≡ Ok ((k.0, length xs), rest ++ r) = ap (λ (v : List ℕ). lift wire (list_at v)) parts ∙ k.1 in
    let items = items_again one Spells again rest r xs each in
    rw first (rw (k.2) items)
