-- Numbers and heads, whose bytes are buffered until all have arrived.
use Rattle.std.proofs.Common.{◌≡◌, ℕ, ◌^◌, ◌<◌, ◌≤◌, true, false, ltb, List, [], ◌++◌, length, Result, Ok, Err, refl, ap, sym, ◌∙◌, arith, append_assoc}
use Rattle.std.proofs.Common.{length-append, append-nil}
use Rattle.std.proofs.lemmas.List.{take_at, drop_at}
use Rattle.std.proofs.lemmas.Bool.{le-ltb, lt-ltb}
use Rattle.std.specs.Int.{Width, cast_signed}
use Rattle.byteorder.specs.Endian.{big_number}
use Rattle.thrift_binary.specs.declared.fault.WireError.TheVariants.{Truncated, BadLength}
use Rattle.thrift_binary.specs.Reading.{number_at, signed_at, size_at}
use Rattle.thrift_binary.proofs.ReadBytesSpell.{big_number-take, size_found}
use Rattle.wire_pieces.specs.Pieces.{Comes, NeedsMore, Refuses, moment}
use Rattle.thrift_binary.proofs.SpellingsAreRead.{signed_again, size_again}

module _ {X E : Type 0} (read : List ℕ → Result X E) where
  same_bytes : (got g piece left rest : List ℕ) → g ++ left ≡ got ++ piece → got ++ (piece ++ rest) ≡ g ++ (left ++ rest)
  same_bytes got g piece left rest e = sym (append_assoc got piece rest) ∙ ap (λ (v : List ℕ). v ++ rest) (sym e) ∙ append_assoc g left rest

  -- fewer than n bytes have arrived
  pub filled-waits : (short : E) (n : ℕ) → ((w : List ℕ) → length w < n → read w ≡ Err short) → (got new piece left : List ℕ) → (new ≡ got ++ piece)
      × (left ≡ []) → length new < n
      → NeedsMore short (moment (λ w. read (got ++ w)) piece) (moment (λ w. read (new ++ w)) left)
  filled-waits short n few got new piece left e lt = record {
    comes = record { same = λ rest. ap read (same_bytes got new piece left rest (rw (e.1, append-nil new) e.0)) };
    want = ap read (append-nil new) ∙ few new lt;
    spent = e.1;
  }

  -- all have arrived
  pub filled-comes : (answer : List ℕ → Result X E) (got g piece left : List ℕ) → g ++ left ≡ got ++ piece → ((rest : List ℕ) → read (g ++ rest) ≡ answer rest)
      → Comes (moment (λ w. read (got ++ w)) piece) (moment answer left)
  filled-comes answer got g piece left e same = record { same = λ rest. ap read (same_bytes got g piece left rest e) ∙ same (left ++ rest) }

  pub filled-refuses : (short e : E) (got g piece left : List ℕ) → g ++ left ≡ got ++ piece → (e ≡ short → ⊥) → ((rest : List ℕ) → read (g ++ rest) ≡ Err e)
      → Refuses short (moment (λ w. read (got ++ w)) piece) e
  filled-refuses short e got g piece left parts isnt same =
      record { same = λ rest. ap read (same_bytes got g piece left rest parts) ∙ same (left ++ rest); no_want = isnt }

-- ---- the readings

few : (n : ℕ) (w : List ℕ) → length w < n → ltb (length w) n ≡ true
few n w lt = lt-ltb _ _ lt

same_number : (n : ℕ) (g rest : List ℕ) → length g ≡ n → big_number n (g ++ rest) ≡ big_number n g
same_number n g rest e =
    big_number-take n (g ++ rest) (omega (arith, length-append g rest)) ∙ ap (big_number n) (take_at g rest n e)

pub signed-whole : (width : Width) (n : ℕ) (g rest : List ℕ) → length g ≡ n → signed_at width n (g ++ rest) ≡ Ok (cast_signed width (big_number n g), rest)
signed-whole width n g rest e = signed_again width n g rest _ e refl

number-whole : (n : ℕ) (g rest : List ℕ) → length g ≡ n → number_at n (g ++ rest) ≡ Ok (big_number n g, rest)
number-whole n g rest e =
    let enough : ltb (length (g ++ rest)) n ≡ false = le-ltb _ _ (omega (arith, length-append g rest)) in
    rw (enough, same_number n g rest e, drop_at g rest n e) refl

pub size-short : (w : List ℕ) → length w < 4 → size_at w ≡ Err Truncated
unfolding size_at
size-short w lt = rw (few 4 w lt) refl

pub size-whole : (g rest : List ℕ) → length g ≡ 4 → big_number 4 g ≤ 2147483647 → size_at (g ++ rest) ≡ Ok (big_number 4 g, rest)
size-whole g rest e le = size_again g rest (big_number 4 g) (e, refl, omega arith)

pub size-bad : (g rest : List ℕ) → length g ≡ 4 → 2147483647 < big_number 4 g → size_at (g ++ rest) ≡ Err BadLength
unfolding size_at
size-bad g rest e lt = let large : ltb (big_number 4 g) (2 ^ 31) ≡ false = le-ltb _ _ (omega arith) in rw (number-whole 4 g rest e, large) refl

-- four bytes that are a size, with nothing after them
pub size-spelled : (w : List ℕ) (n : ℕ) → size_at w ≡ Ok (n, []) → (length w ≡ 4) × (big_number 4 w ≡ n) × (n ≤ 2147483647)
size-spelled w n e =
    let s = size_found w n [] e in
    let same : w ≡ s.text = s.parts ∙ append-nil s.text in
    let small : n < 2 ^ 31 = s.spells.2 in
    (rw same s.spells.0, rw same s.spells.1, omega arith)

-- ---- heads
