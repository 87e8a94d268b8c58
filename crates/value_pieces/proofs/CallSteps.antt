-- The results of calls, in larger readings.
use Rattle.std.proofs.Common.{◌≡◌, ℕ, List, ◌++◌, Result, Ok, Err, refl, ap, sym, ◌∙◌}
use Rattle.thrift_binary.specs.declared.fault.WireError.{WireError}
use Rattle.thrift_binary.specs.declared.fault.WireError.TheVariants.{Truncated}
use Rattle.thrift_binary.specs.Reading.{◌>>=◌, lift}
use Rattle.wire_pieces.specs.declared.fault.PieceError.{PieceError}
use Rattle.wire_pieces.specs.declared.fault.PieceError.TheVariants as piece
use Rattle.wire_pieces.specs.Pieces.{Comes, NeedsMore, Refused, moment}
use Rattle.wire_pieces.proofs.Steps.{comes-trans, comes-waits, comes-inside, waits-inside, refuses-inside, comes-refuses, refuses-lift}
use Rattle.batch_codec.specs.declared.fault.DecodeError.{DecodeError}
use Rattle.batch_codec.specs.declared.fault.DecodeError.TheVariants.{Wire}
use Rattle.batch_codec.specs.Decoding.{Reading, wire}
use Rattle.value_pieces.specs.declared.partial.Arrival.{Arrival}
use Rattle.value_pieces.specs.declared.partial.Arrival.TheVariants.{Complete, Pending}
use Rattle.value_pieces.specs.ContinuedCalls.{fault_of, ended, Faults, ContinuesTo}

pub one_wire : (e f : WireError) → wire e ≡ wire f → e ≡ f
one_wire e f h = cc

-- ---- a part of the wire

pub faults-lift : {X : Type 0} (a : List ℕ → Result X WireError) (p : List ℕ) (e : PieceError) → Refused (moment a p) e
    → Faults (λ w. lift wire (a w)) p (fault_of e)
faults-lift a p (piece.Wire e) g = λ n. refuses-lift wire (one_wire e Truncated) g
faults-lift a p piece.Memory g = λ n. absurd (n refl)

-- ---- inside larger readings

module _ {X Y : Type 0} (then : X → Result Y DecodeError) where
  pub faults-inside : (a : List ℕ → Result X DecodeError) (p : List ℕ) (e : DecodeError) → Faults a p e → Faults (λ w. a w >>= then) p e
  faults-inside a p e g = λ n. refuses-inside then (g n)

pub comes-faults : {X : Type 0} (a b : List ℕ → Result X DecodeError) (p q : List ℕ) (e : DecodeError) → Comes (moment a p) (moment b q) → Faults b q e
    → Faults a p e
comes-faults a b p q e f g = λ n. comes-refuses f (g n)

-- a fault that a value has
pub ends-faults : {A X : Type 0} (a : Reading A) (then : A × List ℕ → Result X DecodeError) (x : A) (p q : List ℕ) (e : DecodeError) → (e ≡ Wire Truncated → ⊥)
    → ((rest : List ℕ) → then (x, rest) ≡ Err e) → Comes (moment a p) (moment (λ w. Ok (x, w)) q) → Faults (λ w. a w >>= then) p e
ends-faults a then x p q e apart same g = λ n. record { same = λ rest. (comes-inside then g).same rest ∙ same (q ++ rest); no_want = apart }

-- a value from which another is made
pub ends-comes : {A X : Type 0} (a : Reading A) (then : A × List ℕ → Result (X × List ℕ) DecodeError) (x : A) (y : X) (p q : List ℕ)
    → ((rest : List ℕ) → then (x, rest) ≡ Ok (y, rest)) → Comes (moment a p) (moment (λ w. Ok (x, w)) q)
    → Comes (moment (λ w. a w >>= then) p) (moment (λ w. Ok (y, w)) q)
ends-comes a then x y p q same g = comes-trans (comes-inside then g) (record { same = λ rest. same (q ++ rest) })

-- the result is a fault, or a value
pub arrived-faults : {A : Type 0} (a : Reading A) (end : Result A DecodeError) (e : DecodeError) (p q : List ℕ) → end ≡ Err e → (end ≡ Err (Wire Truncated) → ⊥)
    → Comes (moment a p) (moment (ended end) q) → Faults a p e
arrived-faults a end e p q is never g = λ n. record { same = λ rest. g.same rest ∙ rw is refl; no_want = λ h. never (is ∙ ap (λ d. Err d) h) }

pub arrived-whole : {A : Type 0} (a : Reading A) (end : Result A DecodeError) (x : A) (p q : List ℕ) → end ≡ Ok x → Comes (moment a p) (moment (ended end) q)
    → Comes (moment a p) (moment (λ w. Ok (x, w)) q)
arrived-whole a end x p q is g = comes-trans g (record { same = λ rest. rw is refl })

-- ---- before the first byte

module _ {X : Type 0} (a reads : List ℕ → Result X DecodeError) (same : (w : List ℕ) → a w ≡ reads w) where
  pub same-comes : (b : List ℕ → Result X DecodeError) (p q : List ℕ) → Comes (moment a p) (moment b q) → Comes (moment reads p) (moment b q)
  same-comes b p q g = record { same = λ rest. sym (same (p ++ rest)) ∙ g.same rest }

  pub same-waits : (b : List ℕ → Result X DecodeError) (p q : List ℕ) → NeedsMore (Wire Truncated) (moment a p) (moment b q)
      → NeedsMore (Wire Truncated) (moment reads p) (moment b q)
  same-waits b p q g = record { comes = same-comes b p q g.comes; want = g.want; spent = g.spent }

  pub same-faults : (p : List ℕ) (e : DecodeError) → Faults a p e → Faults reads p e
  same-faults p e g = λ n. record { same = λ rest. sym (same (p ++ rest)) ∙ (g n).same rest; no_want = (g n).no_want }

-- before the first byte of a larger reading
module _ {A X : Type 0} (reads a : Reading A) (same : (w : List ℕ) → a w ≡ reads w) (then : A × List ℕ → Result X DecodeError) where
  inside : (w : List ℕ) → (a w >>= then) ≡ (reads w >>= then)
  inside w = ap (λ r. r >>= then) (same w)

  pub fresh-waits : (b : Reading A) (p q : List ℕ) → NeedsMore (Wire Truncated) (moment a p) (moment b q)
      → NeedsMore (Wire Truncated) (moment (λ w. reads w >>= then) p) (moment (λ w. b w >>= then) q)
  fresh-waits b p q g = same-waits (λ w. a w >>= then) (λ w. reads w >>= then) inside (λ w. b w >>= then) p q (waits-inside then g)

-- a call that continued, after other bytes
pub continues-to-after : {X : Type 0} (x : X) (a b c : Reading X) (p w v : List ℕ) (r : Result Arrival DecodeError) → Comes (moment a p) (moment b w)
    → ContinuesTo x (moment b w) (moment c v) r
    → ContinuesTo x (moment a p) (moment c v) r
continues-to-after x a b c p w v (Ok Complete) f g = comes-trans f g
continues-to-after x a b c p w v (Ok Pending) f g = comes-waits f g
continues-to-after x a b c p w v (Err e) f g = comes-faults a b p w e f g
