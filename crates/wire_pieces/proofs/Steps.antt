-- Sequences of states, and states inside larger ones.
use Rattle.std.proofs.Common.{◌≡◌, ℕ, List, [], ◌++◌, Option, Some, None, Result, Ok, true, false, ap, ◌∙◌}
use Rattle.std.specs.Option.{is_some}
use Rattle.thrift_binary.specs.declared.fault.WireError.{WireError}
use Rattle.thrift_binary.specs.declared.fault.WireError.TheVariants.{Truncated}
use Rattle.thrift_binary.specs.Reading.{◌>>=◌, lift}
use Rattle.wire_pieces.specs.declared.fault.PieceError.{PieceError}
use Rattle.wire_pieces.specs.declared.fault.PieceError.TheVariants.{Wire, Memory}
use Rattle.wire_pieces.specs.Pieces.{Comes, NeedsMore, Refuses, Refused, Reaches, moment, viewed}

module _ {X E : Type 0} where
  -- a state that only looks different
  pub comes-is : (a b : List ℕ → Result X E) (piece : List ℕ) → ((w : List ℕ) → a w ≡ b w) → Comes (moment a piece) (moment b piece)
  comes-is a b piece h = record { same = λ rest. h (piece ++ rest) }

  pub comes-trans : {a b c : List ℕ → Result X E} {p q r : List ℕ} → Comes (moment a p) (moment b q) → Comes (moment b q) (moment c r)
      → Comes (moment a p) (moment c r)
  comes-trans f g = record { same = λ rest. f.same rest ∙ g.same rest }

  pub comes-waits : {short : E} {a b c : List ℕ → Result X E} {p q r : List ℕ} → Comes (moment a p) (moment b q) → NeedsMore short (moment b q) (moment c r)
      → NeedsMore short (moment a p) (moment c r)
  comes-waits f g = record { comes = comes-trans f g.comes; want = g.want; spent = g.spent }

  pub comes-refuses : {short e : E} {a b : List ℕ → Result X E} {p q : List ℕ} → Comes (moment a p) (moment b q) → Refuses short (moment b q) e
      → Refuses short (moment a p) e
  comes-refuses f x = record { same = λ rest. f.same rest ∙ x.same rest; no_want = x.no_want }

module _ {X Y E : Type 0} (then : X → Result Y E) where
  pub comes-inside : {a b : List ℕ → Result X E} {p q : List ℕ} → Comes (moment a p) (moment b q)
      → Comes (moment (λ w. a w >>= then) p) (moment (λ w. b w >>= then) q)
  comes-inside f = record { same = λ rest. ap (λ r. r >>= then) (f.same rest) }

  pub waits-inside : {short : E} {a b : List ℕ → Result X E} {p q : List ℕ} → NeedsMore short (moment a p) (moment b q)
      → NeedsMore short (moment (λ w. a w >>= then) p) (moment (λ w. b w >>= then) q)
  waits-inside f = record { comes = comes-inside f.comes; want = ap (λ r. r >>= then) f.want; spent = f.spent }

  pub refuses-inside : {short e : E} {a : List ℕ → Result X E} {p : List ℕ} → Refuses short (moment a p) e → Refuses short (moment (λ w. a w >>= then) p) e
  refuses-inside x = record { same = λ rest. ap (λ r. r >>= then) (x.same rest); no_want = x.no_want }

-- with the faults of a larger table
module _ {X E : Type 0} (wire : WireError → E) where
  pub comes-lift : {a b : List ℕ → Result X WireError} {p q : List ℕ} → Comes (moment a p) (moment b q)
      → Comes (moment (λ w. lift wire (a w)) p) (moment (λ w. lift wire (b w)) q)
  comes-lift f = record { same = λ rest. ap (lift wire) (f.same rest) }

  pub waits-lift : {a b : List ℕ → Result X WireError} {p q : List ℕ} → NeedsMore Truncated (moment a p) (moment b q)
      → NeedsMore (wire Truncated) (moment (λ w. lift wire (a w)) p) (moment (λ w. lift wire (b w)) q)
  waits-lift f = record { comes = comes-lift f.comes; want = ap (lift wire) f.want; spent = f.spent }

  pub refuses-lift : {e : WireError} {a : List ℕ → Result X WireError} {p : List ℕ} → (wire e ≡ wire Truncated → e ≡ Truncated)
      → Refuses Truncated (moment a p) e
      → Refuses (wire Truncated) (moment (λ w. lift wire (a w)) p) (wire e)
  refuses-lift one x = record { same = λ rest. ap (lift wire) (x.same rest); no_want = λ h. x.no_want (one h) }

-- ---- calls

module _ {A X : Type 0} (view : A → X) {a b : List ℕ → Result (X × List ℕ) WireError} {p q : List ℕ} where
  pub comes-reaches : (c : List ℕ → Result (X × List ℕ) WireError) (r : List ℕ) (o : Option A) → Comes (moment a p) (moment b q)
      → Reaches Truncated (moment b q) (moment c r) (viewed view o)
      → Reaches Truncated (moment a p) (moment c r) (viewed view o)
  comes-reaches c r (Some x) f g = comes-trans f g
  comes-reaches c r None f g = comes-waits f g

module _ {X : Type 0} (a b : List ℕ → Result (X × List ℕ) WireError) (p q : List ℕ) where
  pub reaches-none : (o : Option X) → is_some o ≡ false → Reaches Truncated (moment a p) (moment b q) o
      → NeedsMore Truncated (moment a p) (moment b q)
  reaches-none None e g = g
  reaches-none (Some x) e g = absurd cc

pub reaches-some : (a b : List ℕ → Result (Unit {0} × List ℕ) WireError) (p q : List ℕ) (o : Option (Unit {0})) → is_some o ≡ true
    → Reaches Truncated (moment a p) (moment b q) o → Comes (moment a p) (moment (λ w. Ok (tt, w)) q)
reaches-some a b p q None e g = absurd cc
reaches-some a b p q (Some x) e g = g

module _ {X : Type 0} where
  pub comes-refused : (a b : List ℕ → Result X WireError) (p q : List ℕ) (e : PieceError) → Comes (moment a p) (moment b q) → Refused (moment b q) e
      → Refused (moment a p) e
  comes-refused a b p q (Wire e) f g = comes-refuses f g
  comes-refused a b p q Memory f g = tt

  -- a fault inside a larger reading
  pub refused-inside : {Y : Type 0} (then : X → Result Y WireError) (a : List ℕ → Result X WireError) (p : List ℕ) (e : PieceError) → Refused (moment a p) e
      → Refused (moment (λ w. a w >>= then) p) e
  refused-inside then a p (Wire e) g = refuses-inside then g
  refused-inside then a p Memory g = tt

  pub refused-wire : (a : List ℕ → Result X WireError) (p : List ℕ) (e : PieceError) (d : WireError) → e ≡ Wire d → Refuses Truncated (moment a p) d
      → Refused (moment a p) e
  refused-wire a p e d is h = rw is h

  -- a step that takes no byte
  pub comes-at : {a b : List ℕ → Result X WireError} (p : List ℕ) → Comes (moment a []) (moment b []) → Comes (moment a p) (moment b p)
  comes-at p f = record { same = λ rest. f.same (p ++ rest) }

  pub refused-at : (a : List ℕ → Result X WireError) (p : List ℕ) (e : PieceError) → Refused (moment a []) e → Refused (moment a p) e
  refused-at a p (Wire e) g = record { same = λ rest. g.same (p ++ rest); no_want = g.no_want }
  refused-at a p Memory g = tt
