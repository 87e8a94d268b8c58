-- What a read doesn't change.
use Rattle.std.specs.Prelude.{◌≡◌, ℕ, List, Option}
use Rattle.session_devices.specs.ByteTransfers.{ByteTransfer}

-- a read doesn't change what was written
abbrev pub KeepsContents : (C : Type 0) → ByteTransfer C → (C → Option (List ℕ)) → Type 0
KeepsContents C gives contents = (s t : C) (bytes : List ℕ) → gives s bytes t → contents t ≡ contents s
