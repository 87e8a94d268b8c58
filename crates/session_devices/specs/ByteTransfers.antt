-- Transfers of bytes to and from a device, and what a transfer in one direction leaves unchanged in the other.
use Rattle.std.specs.Prelude.{◌≡◌, ℕ, Bool, List, [], ◌++◌, Option}

-- relates the states of a device before and after these bytes were read from it or written to it
abbrev pub ByteTransfer : Type 0 → Type 1
ByteTransfer S = S → List ℕ → S → Type 0

-- taking no bytes changes nothing
abbrev pub TakesNothing : (S : Type 0) → ByteTransfer S → Type 0
TakesNothing S takes = (s : S) → takes s [] s

-- bytes may be taken in any number of pieces
abbrev pub TakesJoined : (S : Type 0) → ByteTransfer S → Type 0
TakesJoined S takes = (s t u : S) (front back : List ℕ) → takes s front t → takes t back u → takes s (front ++ back) u

-- bytes in one direction change neither the bytes of the other direction nor whether that failed
abbrev pub KeepsOther : (S : Type 0) → ByteTransfer S → (S → Option (List ℕ)) → (S → Bool) → Type 0
KeepsOther S passes other failed = (s t : S) (bytes : List ℕ) → passes s bytes t → (other t ≡ other s) × (failed t ≡ failed s)
