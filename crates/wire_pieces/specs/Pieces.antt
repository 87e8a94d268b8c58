-- Readings that have reached some place, and continue when more bytes arrive. Such a state represents what
-- is read from the bytes that are still to come.
use Rattle.std.specs.Prelude.{◌≡◌, ℕ, ◌<◌, ◌≤◌, List, [], ◌++◌, length, Option, Some, None, Result, Ok, Err}
use Rattle.thrift_binary.specs.declared.fault.WireError.{WireError}
use Rattle.thrift_binary.specs.declared.fault.WireError.TheVariants.{Truncated}
use Rattle.wire_pieces.specs.declared.fault.PieceError.{PieceError}
use Rattle.wire_pieces.specs.declared.fault.PieceError.TheVariants.{Wire, Memory}

-- A reading before or after a call: what it reads from the bytes that are still to come, and the bytes of the piece
-- that it has not taken.
pub record Moment (X E : Type 0) : Type 0 where
  pub reads : List ℕ → Result X E
  pub piece : List ℕ

abbrev pub moment : {X E : Type 0} → (List ℕ → Result X E) → List ℕ → Moment X E
moment reads piece = record { reads = reads; piece = piece }

-- It came from one moment to the other: whatever follows, both read the same.
pub record Comes {X E : Type 0} (before after : Moment X E) : Type 0 where
  pub same : (rest : List ℕ) → before.reads (before.piece ++ rest) ≡ after.reads (after.piece ++ rest)

-- It took the piece, and without further bytes there would be too few.
pub record NeedsMore {X E : Type 0} (short : E) (before after : Moment X E) : Type 0 where
  pub comes : Comes before after
  pub want : after.reads [] ≡ Err short
  pub spent : after.piece ≡ []

-- There is this fault, whatever follows, and it isn't too few bytes.
pub record Refuses {X E : Type 0} (short : E) (before : Moment X E) (e : E) : Type 0 where
  pub same : (rest : List ℕ) → before.reads (before.piece ++ rest) ≡ Err e
  pub no_want : e ≡ short → ⊥

-- a reading of values of X
abbrev pub Reader : Type 0 → Type 0 → Type 0
Reader X E = List ℕ → Result (X × List ℕ) E

-- The result of a call that continued with a piece: a value, or nothing yet.
abbrev pub Reaches : {X E : Type 0} → E → Moment (X × List ℕ) E → Moment (X × List ℕ) E → Option X → Type 0
Reaches short before after None = NeedsMore short before after
Reaches short before after (Some x) = Comes before (moment (λ w. Ok (x, w)) after.piece)

-- the fault of a call; nothing is said of running out of memory
abbrev pub Refused : {X : Type 0} → Moment X WireError → PieceError → Type 0
Refused before (Wire e) = Refuses Truncated before e
Refused before Memory = Unit {0}

-- a value as contracts see it
abbrev pub viewed : {A X : Type 0} → (A → X) → Option A → Option X
viewed view None = None
viewed view (Some x) = Some (view x)

-- like `Reaches`, for a call that can fail
abbrev pub Continues : {A X : Type 0} → (A → X) → Moment (X × List ℕ) WireError → Moment (X × List ℕ) WireError → Result (Option A) PieceError
    → Type 0
Continues view before after (Ok o) = Reaches Truncated before after (viewed view o)
Continues view before after (Err e) = Refused before e

-- A value takes at least one byte, and no call returns bytes to the piece.
abbrev pub TakesBytes : {A : Type 0} → List ℕ → List ℕ → Option A → Type 0
TakesBytes piece left None = length left ≤ length piece
TakesBytes piece left (Some x) = length left < length piece

abbrev pub OkTakes : {A : Type 0} → List ℕ → List ℕ → Result (Option A) PieceError → Type 0
OkTakes piece left (Ok o) = TakesBytes piece left o
OkTakes piece left (Err e) = Unit {0}
