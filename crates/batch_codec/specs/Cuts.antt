-- The place of a batch's fault. These are facts about texts: the results of decoding the prefixes of
-- some bytes, and their continuations.
use Rattle.std.specs.Prelude.{◌≡◌, ℕ, ◌<◌, ◌≤◌, List, [], ◌++◌, length, take, Ok, Err}
use Rattle.jaeger_model.specs.declared.batch.Batch.{Batch}
use Rattle.thrift_binary.specs.declared.fault.WireError.TheVariants.{Truncated}
use Rattle.batch_codec.specs.declared.fault.DecodeError.{DecodeError}
use Rattle.batch_codec.specs.declared.fault.DecodeError.TheVariants.{Wire, Trailing}
use Rattle.batch_codec.specs.BatchReading.{decoded}

abbrev pub IsTruncated : List ℕ → Type 0
IsTruncated w = decoded w ≡ Err (Wire Truncated)

-- the first n bytes of w are the shortest prefix that isn't Truncated
abbrev pub IsPlace : ℕ → List ℕ → Type 0
IsPlace n w = (n ≤ length w) × ((m : ℕ) → m < n → IsTruncated (take m w))

-- A fault other than Truncated and Trailing has one place: every shorter prefix is Truncated, and
-- every continuation from there has that same fault.
abbrev pub FaultsHavePlaces : Type 0
FaultsHavePlaces = (w : List ℕ) (e : DecodeError) → decoded w ≡ Err e → (e ≡ Wire Truncated → ⊥) → (e ≡ Trailing → ⊥)
    → (n : ℕ) × IsPlace n w × ((v : List ℕ) → decoded (take n w ++ v) ≡ Err e)

-- Trailing has one place too, the end of a batch: every continuation but the empty one is Trailing.
abbrev pub TrailingHasAPlace : Type 0
TrailingHasAPlace = (w : List ℕ) → decoded w ≡ Err Trailing
    → (n : ℕ) × IsPlace n w × (b : Batch) × (decoded (take n w) ≡ Ok b) × ((v : List ℕ) → (v ≡ [] → ⊥) → decoded (take n w ++ v) ≡ Err Trailing)

-- If the bytes are Truncated, so is each prefix of them.
abbrev pub TruncatedBeginsTruncated : Type 0
TruncatedBeginsTruncated = (w : List ℕ) → IsTruncated w → (m : ℕ) → IsTruncated (take m w)

-- Each shorter prefix of a batch is Truncated, and whatever follows a batch is Trailing.
abbrev pub BatchesEnd : Type 0
BatchesEnd = (w : List ℕ) (b : Batch) → decoded w ≡ Ok b → IsPlace (length w) w × ((v : List ℕ) → (v ≡ [] → ⊥) → decoded (w ++ v) ≡ Err Trailing)
