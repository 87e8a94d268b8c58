-- Where a reading is decided. Reading bytes that may continue has one of three results: a value, a fault, or nothing yet.
-- A value and a fault have one place in the bytes, and every prefix that ends before that place is too short.
use Rattle.std.specs.Prelude.{◌≡◌, ℕ, ◌<◌, ◌≤◌, List, ◌++◌, length, take, Result, Ok, Err}

abbrev pub Reader : Type 0 → Type 0 → Type 0
Reader A E = List ℕ → Result (A × List ℕ) E

-- The prefix `text` of w decides what is read: whatever follows it, the result is this one, and each shorter prefix of it is too short.
pub record Settled {A E : Type 0} (short : E) (read : List ℕ → Result (A × List ℕ) E) (w : List ℕ) (answer : List ℕ → Result (A × List ℕ) E) : Type 0 where
  pub text : List ℕ
  pub rest : List ℕ
  pub parts : w ≡ text ++ rest
  pub same : (v : List ℕ) → read (text ++ v) ≡ answer v
  pub before : (m : ℕ) → m < length text → read (take m text) ≡ Err short

-- the bytes w begin with a complete value, or they have a fault, or each prefix of them is too short, w included
pub data Cut {A E : Type 0} (short : E) (read : List ℕ → Result (A × List ℕ) E) (w : List ℕ) : Type 0 where
  whole : (x : A) → Settled short read w (λ v. Ok (x, v)) → Cut short read w
  faulty : (e : E) → Settled short read w (λ v. Err e) → Cut short read w
  unsettled : ((m : ℕ) → read (take m w) ≡ Err short) → Cut short read w

abbrev pub IsCutSafe : {A E : Type 0} → E → (List ℕ → Result (A × List ℕ) E) → Type 0
IsCutSafe short read = (w : List ℕ) → Cut short read w

-- A fault other than `short` has one place: each shorter prefix is too short, and whatever follows that place, the fault is the same.
abbrev pub FaultsHavePlaces : {A E : Type 0} → E → (List ℕ → Result (A × List ℕ) E) → Type 0
FaultsHavePlaces {E = E} short read =
    (w : List ℕ) (e : E) → read w ≡ Err e → (e ≡ short → ⊥)
    → (n : ℕ) × (n ≤ length w) × ((m : ℕ) → m < n → read (take m w) ≡ Err short) × ((v : List ℕ) → read (take n w ++ v) ≡ Err e)

-- A value ends at one place: each shorter prefix is too short, and whatever follows that place remains.
abbrev pub ValuesHaveEnds : {A E : Type 0} → E → (List ℕ → Result (A × List ℕ) E) → Type 0
ValuesHaveEnds {A = A} short read =
    (w : List ℕ) (x : A) (r : List ℕ) → read w ≡ Ok (x, r)
    → (text : List ℕ) × (w ≡ text ++ r) × ((m : ℕ) → m < length text → read (take m text) ≡ Err short) × ((v : List ℕ) → read (text ++ v) ≡ Ok (x, v))

-- If the bytes are too short, so is each prefix of them.
abbrev pub ShortStaysShort : {A E : Type 0} → E → (List ℕ → Result (A × List ℕ) E) → Type 0
ShortStaysShort short read = (w : List ℕ) → read w ≡ Err short → (m : ℕ) → read (take m w) ≡ Err short
