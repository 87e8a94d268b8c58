-- Readings whose faults have places: single readings, and compositions of them.
use Rattle.std.proofs.Common.{◌≡◌, ℕ, zero, suc, ◌+◌, ◌-◌, ◌<◌, ◌≤◌, Bool, true, false, cond, eqb, ltb, List, [], ◌∷◌, ◌++◌, length, take, drop, Result, Ok}
use Rattle.std.proofs.Common.{Err, refl, sym, ap, ◌∙◌, append_assoc, length-append, arith, inl, inr, ◌⊎◌}
use Rattle.std.proofs.Math.Seq.{take-append_seam, take-append-add, take-length}
use Rattle.std.proofs.lemmas.List.{take-append-le, take-append-drop, length-take-le, length-take, take_at, drop_at}
use Rattle.std.proofs.lemmas.Bool.{ltb-false, ltb-true, le-ltb, lt-ltb, ne_eqb}
use Rattle.thrift_binary.specs.declared.fault.WireError.{WireError}
use Rattle.thrift_binary.specs.Reading.{◌>>=◌, lift}
use Rattle.thrift_binary.proofs.ReadBytesSpell.{done, err_is, ok_is_no_err, both_are}
use Rattle.thrift_binary.specs.Cuts.{Settled, Cut, whole, faulty, unsettled, IsCutSafe, FaultsHavePlaces, ValuesHaveEnds, ShortStaysShort}

-- ---- a prefix of two texts

take_beginning : (m : ℕ) (a b : List ℕ) → m < length a → take m (a ++ b) ≡ take m a
take_beginning m a b lt = take-append-le m a b (omega arith)

pub take_past : (m : ℕ) (a b : List ℕ) → length a ≤ m → take m (a ++ b) ≡ a ++ take (m - length a) b
take_past m a b le =
    let split : m ≡ length a + (m - length a) = omega arith in
    ap (λ (k : ℕ). take k (a ++ b)) split ∙ take-append-add a b (m - length a)

-- ---- what follows from it

module _ {A E : Type 0} (short : E) (read : List ℕ → Result (A × List ℕ) E) where
  -- the result at the bytes themselves
  settled_here : (w : List ℕ) (answer : List ℕ → Result (A × List ℕ) E) (s : Settled short read w answer) → read w ≡ answer s.rest
  settled_here w answer s = ap read s.parts ∙ s.same s.rest

  -- too short if the bytes end before the place, or if what follows it is too short
  short_behind : (w : List ℕ) (answer : List ℕ → Result (A × List ℕ) E) (s : Settled short read w answer) (u : List ℕ) (m : ℕ)
      → (length s.text ≤ m → answer (take (m - length s.text) u) ≡ Err short) → read (take m (s.text ++ u)) ≡ Err short
  short_behind w answer s u m behind = by (ltb m (length s.text)) refl
    where
      by : (b : Bool) → ltb m (length s.text) ≡ b → read (take m (s.text ++ u)) ≡ Err short
      by true e = let in_front : m < length s.text = ltb-true _ _ e in ap read (take_beginning m s.text u in_front) ∙ s.before m in_front
      by false e = let le : length s.text ≤ m = ltb-false _ _ e in ap read (take_past m s.text u le) ∙ s.same (take (m - length s.text) u) ∙ behind le

  pub cut_same : (other : List ℕ → Result (A × List ℕ) E) → ((v : List ℕ) → other v ≡ read v) → (w : List ℕ) → Cut short read w → Cut short other w
  cut_same other is w (whole x s) =
      whole x (record { text = s.text; rest = s.rest; parts = s.parts; same = λ v. is _ ∙ s.same v; before = λ m lt. is _ ∙ s.before m lt })
  cut_same other is w (faulty e s) =
      faulty e (record { text = s.text; rest = s.rest; parts = s.parts; same = λ v. is _ ∙ s.same v; before = λ m lt. is _ ∙ s.before m lt })
  cut_same other is w (unsettled b) = unsettled (λ m. is _ ∙ b m)

  pub faults_have_places : IsCutSafe short read → FaultsHavePlaces short read
  faults_have_places safe w e is not_short = by (safe w)
    where
      by : Cut short read w → (n : ℕ) × (n ≤ length w) × ((m : ℕ) → m < n → read (take m w) ≡ Err short) × ((v : List ℕ) → read (take n w ++ v) ≡ Err e)
      by (whole x s) = absurd (ok_is_no_err {A = A × List ℕ} (x, s.rest) e (sym (settled_here w (λ v. Ok (x, v)) s) ∙ is))
      by (faulty d s) =
          let here : d ≡ e = err_is d e (sym (settled_here w (λ v. Err d) s) ∙ is) in
          let front : take (length s.text) w ≡ s.text = ap (take (length s.text)) s.parts ∙ take-append_seam s.text s.rest in
          let within : length s.text ≤ length w = omega (arith, ap length s.parts, length-append s.text s.rest) in (
            length s.text,
            within,
            λ m lt. ap (λ (v : List ℕ). read (take m v)) s.parts ∙ ap read (take_beginning m s.text s.rest lt) ∙ s.before m lt,
            λ v. ap (λ (t : List ℕ). read (t ++ v)) front ∙ s.same v ∙ ap (λ (x : E). Err x) here,
          )
      by (unsettled b) = absurd (not_short (err_is e short (sym is ∙ ap read (sym (take-length w)) ∙ b (length w))))

  pub values_have_ends : IsCutSafe short read → ValuesHaveEnds short read
  values_have_ends safe w x r is = by (safe w)
    where
      by : Cut short read w → (text : List ℕ) × (w ≡ text ++ r) × ((m : ℕ) → m < length text → read (take m text) ≡ Err short)
          × ((v : List ℕ) → read (text ++ v) ≡ Ok (x, v))
      by (whole y s) =
          let same = both_are {E = E} y x s.rest r (sym (settled_here w (λ v. Ok (y, v)) s) ∙ is) in
          (s.text, s.parts ∙ ap (λ (t : List ℕ). s.text ++ t) same.1, s.before, λ v. s.same v ∙ ap (λ (z : A). done {A = A × List ℕ} {E = E} (z, v)) same.0)
      by (faulty e s) = absurd (ok_is_no_err {A = A × List ℕ} (x, r) e (sym is ∙ settled_here w (λ v. Err e) s))
      by (unsettled b) = absurd (ok_is_no_err {A = A × List ℕ} (x, r) short (sym is ∙ ap read (sym (take-length w)) ∙ b (length w)))

  pub short_stays_short : IsCutSafe short read → ShortStaysShort short read
  short_stays_short safe w is m = by (safe w)
    where
      by : Cut short read w → read (take m w) ≡ Err short
      by (whole x s) = absurd (ok_is_no_err {A = A × List ℕ} (x, s.rest) short (sym (settled_here w (λ v. Ok (x, v)) s) ∙ is))
      by (faulty e s) =
          let same : e ≡ short = err_is e short (sym (settled_here w (λ v. Err e) s) ∙ is) in
          ap (λ (v : List ℕ). read (take m v)) s.parts ∙ short_behind w (λ v. Err e) s s.rest m (λ le. ap (λ (x : E). Err x) same)
      by (unsettled b) = b m

  -- ---- what follows the place

  settled_behind : (w : List ℕ) (behind : List ℕ → Result (A × List ℕ) E) (s : Settled short read w behind) (answer : List ℕ → Result (A × List ℕ) E)
      → Settled short behind s.rest answer → Settled short read w answer
  settled_behind w behind s answer t = record {
    text = s.text ++ t.text;
    rest = t.rest;
    parts = s.parts ∙ ap (λ (v : List ℕ). s.text ++ v) t.parts ∙ sym (append_assoc s.text t.text t.rest);
    same = λ v. ap read (append_assoc s.text t.text v) ∙ s.same (t.text ++ v) ∙ t.same v;
    before = λ m lt. short_behind w behind s t.text m (λ le. t.before (m - length s.text) (omega (arith, length-append s.text t.text)));
  }

  cut_behind : (w : List ℕ) (behind : List ℕ → Result (A × List ℕ) E) (s : Settled short read w behind) → Cut short behind s.rest → Cut short read w
  cut_behind w behind s (whole x t) = whole x (settled_behind w behind s (λ v. Ok (x, v)) t)
  cut_behind w behind s (faulty e t) = faulty e (settled_behind w behind s (λ v. Err e) t)
  cut_behind w behind s (unsettled h) =
      unsettled (λ m. ap (λ (v : List ℕ). read (take m v)) s.parts ∙ short_behind w behind s s.rest m (λ le. h (m - length s.text)))

  -- ---- the smallest readings

  pub cut_ok : (x : A) → ((v : List ℕ) → read v ≡ Ok (x, v)) → IsCutSafe short read
  cut_ok x is w = whole x (record { text = []; rest = w; parts = refl; same = is; before = λ m lt. absurd (omega arith) })

  pub cut_err : (e : E) → ((v : List ℕ) → read v ≡ Err e) → IsCutSafe short read
  cut_err e is w = faulty e (record { text = []; rest = w; parts = refl; same = is; before = λ m lt. absurd (omega arith) })

-- n bytes, from which the value is computed
abbrev pub beginning_at : {A E : Type 0} → E → ℕ → (List ℕ → A) → List ℕ → Result (A × List ℕ) E
beginning_at short n value w = cond (ltb (length w) n) (Err short) (Ok (value w, drop n w))

pub cut_beginning : {A E : Type 0} (short : E) (n : ℕ) (value : List ℕ → A) → ((w : List ℕ) → n ≤ length w → value w ≡ value (take n w))
    → IsCutSafe short (beginning_at short n value)
cut_beginning {A = A} {E = E} short n value near w = by (ltb (length w) n) refl
  where
    less : (v : List ℕ) → length v < n → beginning_at short n value v ≡ Err short
    less v lt = let small : ltb (length v) n ≡ true = lt-ltb _ _ lt in rw small refl

    by : (b : Bool) → ltb (length w) n ≡ b → Cut short (beginning_at short n value) w
    by true e = let lt : length w < n = ltb-true _ _ e in unsettled (λ m. less (take m w) (omega (arith, length-take m w)))
    by false e =
        let le : n ≤ length w = ltb-false _ _ e in
        let len : length (take n w) ≡ n = length-take-le n w le in
        whole (value (take n w)) (record {
          text = take n w;
          rest = drop n w;
          parts = sym (take-append-drop n w);
          same = λ v. (
              let long : ltb (length (take n w ++ v)) n ≡ false = le-ltb _ _ (omega (arith, length-append (take n w) v)) in
              let there : value (take n w ++ v) ≡ value (take n w) =
              near (take n w ++ v) (omega (arith, length-append (take n w) v)) ∙ ap value (take_at (take n w) v n len) in
              rw (long, there, drop_at (take n w) v n len) refl);
          before = λ m lt. less (take m (take n w)) (omega (arith, length-take m (take n w)));
        })

-- ---- one reading, and then one that depends on its value

module _ {A B E : Type 0} (short : E) (read : List ℕ → Result (A × List ℕ) E) (next : A → List ℕ → Result (B × List ℕ) E) where
  first_ok : (v u : List ℕ) (x : A) (r : Result (B × List ℕ) E) → read v ≡ Ok (x, u) → next x u ≡ r → (read v >>= λ y. next y.0 y.1) ≡ r
  first_ok v u x r e h = rw e h

  first_err : (v : List ℕ) (e : E) → read v ≡ Err e → (read v >>= λ y. next y.0 y.1) ≡ Err e
  first_err v e h = rw h refl

  -- up to the end of the first value
  first_settled : (w : List ℕ) (x : A) → Settled short read w (λ v. Ok (x, v)) → Settled short (λ v. read v >>= λ y. next y.0 y.1) w (next x)
  first_settled w x s = record {
    text = s.text;
    rest = s.rest;
    parts = s.parts;
    same = λ v. first_ok (s.text ++ v) v x (next x v) (s.same v) refl;
    before = λ m lt. first_err _ short (s.before m lt);
  }

  -- `next` is safe where it is called
  pub cut_then_at : (w : List ℕ) → Cut short read w → ((x : A) (text rest : List ℕ) → w ≡ text ++ rest → read w ≡ Ok (x, rest) → Cut short (next x) rest)
      → Cut short (λ v. read v >>= λ y. next y.0 y.1) w
  unfolding first_settled
  cut_then_at w (faulty e s) more =
      faulty e (record {
        text = s.text;
        rest = s.rest;
        parts = s.parts;
        same = λ v. first_err _ e (s.same v);
        before = λ m lt. first_err _ short (s.before m lt);
      })
  cut_then_at w (unsettled b) more = unsettled (λ m. first_err _ short (b m))
  cut_then_at w (whole x s) more =
      cut_behind short (λ v. read v >>= λ y. next y.0 y.1) w (next x) (first_settled w x s)
      (more x s.text s.rest s.parts (settled_here short read w (λ v. Ok (x, v)) s))

  pub cut_then : IsCutSafe short read → ((x : A) → IsCutSafe short (next x)) → IsCutSafe short (λ v. read v >>= λ y. next y.0 y.1)
  cut_then first more w = cut_then_at w (first w) (λ x text rest parts e. more x rest)

-- the value mapped to another
pub cut_map : {A B E : Type 0} (short : E) (read : List ℕ → Result (A × List ℕ) E) (f : A → B) → IsCutSafe short read
    → IsCutSafe short (λ v. read v >>= λ y. Ok (f y.0, y.1))
cut_map short read f first = cut_then short read (λ x u. Ok (f x, u)) first (λ x. cut_ok short (λ u. Ok (f x, u)) (f x) (λ v. refl))

-- a test that doesn't read the bytes
pub cut_if : {A E : Type 0} (short : E) (b : Bool) (f g : List ℕ → Result (A × List ℕ) E) (w : List ℕ) → Cut short f w → Cut short g w
    → Cut short (λ v. cond b (f v) (g v)) w
cut_if short true f g w one two = one
cut_if short false f g w one two = two

-- the faults of a larger table
pub cut_lift : {A E : Type 0} (wire : WireError → E) (short : WireError) (read : List ℕ → Result (A × List ℕ) WireError) (w : List ℕ) → Cut short read w
    → Cut (wire short) (λ v. lift wire (read v)) w
cut_lift wire short read w (whole x s) =
    whole x (record { text = s.text; rest = s.rest; parts = s.parts; same = λ v. ap (lift wire) (s.same v); before = λ m lt. ap (lift wire) (s.before m lt) })
cut_lift wire short read w (faulty e s) =
    faulty (wire e) (record {
      text = s.text;
      rest = s.rest;
      parts = s.parts;
      same = λ v. ap (lift wire) (s.same v);
      before = λ m lt. ap (lift wire) (s.before m lt);
    })
cut_lift wire short read w (unsettled b) = unsettled (λ m. ap (lift wire) (b m))

-- a reading that doesn't begin if no byte remains
abbrev pub unless_empty : {A E : Type 0} → E → (List ℕ → Result (A × List ℕ) E) → List ℕ → Result (A × List ℕ) E
unless_empty short read w = cond (eqb (length w) 0) (Err short) (read w)

some_or_none : (t : List ℕ) → (t ≡ []) ⊎ (0 < length t)
some_or_none [] = inl refl
some_or_none (a ∷ t) = inr (omega arith)

module _ {A E : Type 0} (short : E) (read : List ℕ → Result (A × List ℕ) E) (takes_some : (x : A) (r : List ℕ) → read [] ≡ Ok (x, r) → ⊥) where
  begun : (v : List ℕ) → 0 < length v → unless_empty short read v ≡ read v
  begun v lt = let some : eqb (length v) 0 ≡ false = ne_eqb (length v) 0 (λ e. absurd (omega arith)) in rw some refl

  early_unless : (v : List ℕ) → read v ≡ Err short → unless_empty short read v ≡ Err short
  early_unless [] e = refl
  early_unless (b ∷ v) e = begun (b ∷ v) (omega arith) ∙ e

  settled_unless : (w : List ℕ) (answer : List ℕ → Result (A × List ℕ) E) (s : Settled short read w answer) → 0 < length s.text
      → Settled short (unless_empty short read) w answer
  settled_unless w answer s lt = record {
    text = s.text;
    rest = s.rest;
    parts = s.parts;
    same = λ v. begun (s.text ++ v) (omega (arith, length-append s.text v)) ∙ s.same v;
    before = λ m h. early_unless (take m s.text) (s.before m h);
  }

  -- a fault that needs no byte is reported at the first one
  settled_first : (b : ℕ) (u : List ℕ) (e : E) → ((v : List ℕ) → read v ≡ Err e) → Settled short (unless_empty short read) (b ∷ u) (λ v. Err e)
  settled_first b u e always = record {
    text = b ∷ [];
    rest = u;
    parts = refl;
    same = λ v. begun (b ∷ v) (omega arith) ∙ always (b ∷ v);
    before = λ m lt. (let none : m ≡ 0 = omega arith in rw none refl);
  }

  pub cut_unless_empty : IsCutSafe short read → IsCutSafe short (unless_empty short read)
  cut_unless_empty safe [] = unsettled nothing
    where
      nothing : (m : ℕ) → unless_empty short read (take m []) ≡ Err short
      nothing zero = refl
      nothing (suc m) = refl
  cut_unless_empty safe (b ∷ u) = by (safe (b ∷ u))
    where
      at_value : (x : A) (s : Settled short read (b ∷ u) (λ v. Ok (x, v))) → (s.text ≡ []) ⊎ (0 < length s.text) → Cut short (unless_empty short read) (b ∷ u)
      at_value x s (inl none) = absurd (takes_some x [] (ap (λ (t : List ℕ). read (t ++ [])) (sym none) ∙ s.same []))
      at_value x s (inr some) = whole x (settled_unless (b ∷ u) (λ v. Ok (x, v)) s some)

      at_fault : (e : E) (s : Settled short read (b ∷ u) (λ v. Err e)) → (s.text ≡ []) ⊎ (0 < length s.text) → Cut short (unless_empty short read) (b ∷ u)
      at_fault e s (inl none) = faulty e (settled_first b u e (λ v. ap (λ (t : List ℕ). read (t ++ v)) (sym none) ∙ s.same v))
      at_fault e s (inr some) = faulty e (settled_unless (b ∷ u) (λ v. Err e) s some)

      by : Cut short read (b ∷ u) → Cut short (unless_empty short read) (b ∷ u)
      by (whole x s) = at_value x s (some_or_none s.text)
      by (faulty e s) = at_fault e s (some_or_none s.text)
      by (unsettled h) = unsettled (λ m. early_unless (take m (b ∷ u)) (h m))
