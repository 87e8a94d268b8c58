-- What is written to a page, piece by piece.
use Rattle.std.proofs.Common.{◌≡◌, ◌<◌, ◌+◌, ℕ, Bool, true, false, List, [], ◌++◌, length, length-append, refl, sym, ap, subst}
use Rattle.std.proofs.Common.{◌∙◌, append_assoc, append-nil, arith, true≢false, Result, Ok, Err, Vec, Global, IfOk}
use Rattle.std.specs.Str.{IsUtf8}
use Rattle.std.specs.Prelude.{◌-◌}
use Rattle.std.proofs.lemmas.Str.{IsUtf8-append, IsUtf8-nil}
use Rattle.json_page.specs.declared.page.Page.{Page}
use Rattle.json_page.specs.Page.{Adds, Puts}

pub Adds-nothing : (a : Page) → Adds a a []
Adds-nothing a = record {
  before = λ h. h;
  behind = λ h. sym (append-nil a.bytes.items);
  room = omega arith;
  lacks = λ had full. absurd (clash a.full had full);
  counts = λ full small. omega arith;
}
  where
    clash : (t : Bool) → t ≡ false → t ≡ true → ⊥
    clash true e f = absurd (true≢false e)
    clash false e f = absurd (true≢false (sym f))

-- a full page stays full
stays_full : {a b : Page} {xs : List ℕ} → Adds a b xs → a.full ≡ true → b.full ≡ true
stays_full {a = a} {b = b} p full = by b.full refl
  where
    by : (t : Bool) → b.full ≡ t → b.full ≡ true
    by true e = e
    by false e = absurd (true≢false (sym full ∙ p.before e))

pub Adds-then : {a b c : Page} {xs ys : List ℕ} → Adds a b xs → Adds b c ys → Adds a c (xs ++ ys)
Adds-then {a = a} {b = b} {c = c} {xs = xs} {ys = ys} p q = record {
  before = λ room. p.before (q.before room);
  behind = λ room. q.behind room ∙ ap (λ l. l ++ ys) (p.behind (q.before room)) ∙ append_assoc a.bytes.items xs ys;
  room = omega (arith, p.room, q.room);
  lacks = λ had full. by had full b.full refl;
  counts = λ full small.
      let last : c.counted ≡ b.counted + length ys = q.counts (stays_full p full) small in
      let first : b.counted ≡ a.counted + length xs = p.counts full (omega (arith, last, small)) in
      omega (arith, first, last, length-append xs ys);
}
  where
    by : a.full ≡ false → c.full ≡ true → (t : Bool) → b.full ≡ t → a.bytes.room - length a.bytes.items < length (xs ++ ys)
    by had full true e = omega (arith, p.lacks had e, length-append xs ys)
    by had full false e = omega (arith, p.room, q.lacks e full, ap length (p.behind e), length-append a.bytes.items xs, length-append xs ys)

pub Adds-is : {a b : Page} {xs ys : List ℕ} → Adds a b xs → xs ≡ ys → Adds a b ys
Adds-is {a = a} {b = b} p e = subst (Adds a b) e p

infixl 10 ◌▸◌
-- one piece and then another
pub ◌▸◌ : {a b c : Page} {xs ys : List ℕ} → Puts a b xs → Puts b c ys → Puts a c (xs ++ ys)
◌▸◌ {xs = xs} {ys = ys} p q = record { adds = Adds-then p.adds q.adds; utf8 = IsUtf8-append xs ys p.utf8 q.utf8 }

pub Puts-nothing : (a : Page) → Puts a a []
Puts-nothing a = record { adds = Adds-nothing a; utf8 = IsUtf8-nil }

pub Puts-is : {a b : Page} {xs ys : List ℕ} → Puts a b xs → xs ≡ ys → Puts a b ys
Puts-is {a = a} {b = b} p e = subst (Puts a b) e p

-- a page that wasn't full has the text
pub finished : {E : Type 0} (r : Result (Vec ℕ Global) E) {old now : Page} {text : List ℕ} → old.bytes.items ≡ [] → Puts old now text
    → IfOk r (λ v. (now.full ≡ false) × (v.items ≡ now.bytes.items)) → IfOk r (λ v. v.items ≡ text)
finished (Ok v) {text = text} none p h = h.1 ∙ p.adds.behind h.0 ∙ ap (λ (l : List ℕ). l ++ text) none
finished (Err e) none p h = tt

pub finished_utf8 : {E : Type 0} (r : Result (Vec ℕ Global) E) {old now : Page} {text : List ℕ} → old.bytes.items ≡ [] → Puts old now text
    → IfOk r (λ v. (now.full ≡ false) × (v.items ≡ now.bytes.items)) → IfOk r (λ v. IsUtf8 v.items)
finished_utf8 {E = E} (Ok v) none p h = subst IsUtf8 (sym (finished {E = E} (Ok v) none p h)) p.utf8
finished_utf8 (Err e) none p h = tt
