-- An input is read only while something is awaited from it.
use Rattle.std.specs.Prelude.{◌≡◌, ℕ, ◌+◌, Bool, true, List, [], ◌∷◌, ◌++◌, Option}
use Rattle.std.specs.Io.KnownBytes.{Keeps}
use Rattle.session_devices.specs.ByteTransfers.{ByteTransfer}

-- what is known about an input in each of its states
pub record Source (R : Type 0) : Type 1 where
  pub remaining : R → Option (List ℕ)
  pub gives : ByteTransfer R

abbrev pub source_of : {R : Type 0} → (R → Option (List ℕ)) → ByteTransfer R → Source R
source_of remaining gives = record { remaining = remaining; gives = gives }

-- the relation for an input with the number of reads left: each read takes one
abbrev pub counted : {R : Type 0} → ByteTransfer R → ByteTransfer (R × ℕ)
counted gives s piece t = gives s.0 piece t.0 × (t.1 + 1 ≡ s.1)

-- when an input is read: what each read does to it, and what is awaited, given the bytes received before the read
pub record ReadRule (R : Type 0) : Type 1 where
  pub gives : ByteTransfer R
  pub awaits : List ℕ → Type 0

abbrev pub read_rule : {R : Type 0} → ByteTransfer R → (List ℕ → Type 0) → ReadRule R
read_rule gives Awaits = record { gives = gives; awaits = Awaits }

-- the state of an input at one moment, and the bytes received by then
pub record InputMoment (R : Type 0) : Type 0 where
  pub input : R
  pub bytes : List ℕ

abbrev pub input_moment : {R : Type 0} → R → List ℕ → InputMoment R
input_moment input bytes = record { input = input; bytes = bytes }

-- The reads that returned these pieces, in order. Before each of them more was awaited, given the bytes received by
-- then.
abbrev pub GivesWhile : {R : Type 0} → ReadRule R → InputMoment R → InputMoment R → List (List ℕ) → Type 0
GivesWhile rule before after [] = (before.input ≡ after.input) × (before.bytes ≡ after.bytes)
GivesWhile {R = R} rule before after (p ∷ ps) =
    rule.awaits before.bytes × (m : R) × rule.gives before.input p m
    × GivesWhile rule (input_moment m (before.bytes ++ p)) after ps

-- All reads of an input between two moments. Each was made while more was awaited.
pub record ReadsWhile {R : Type 0} (rule : ReadRule R) (before after : InputMoment R) : Type 0 where
  pub pieces : List (List ℕ)
  pub each : GivesWhile rule before after pieces

-- A read failed: it returned nothing, and the input remembers the failure.
abbrev pub FailsToRead : {R : Type 0} → Source R → R → R → Bool → Type 0
FailsToRead source s t failed = (failed ≡ true) × Keeps (source.remaining s) (source.remaining t) × source.gives s [] t
