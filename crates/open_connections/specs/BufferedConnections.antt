-- A connection that keeps what waits, and what is known about it.
use Rattle.std.specs.Prelude.{◌≡◌, ℕ, List, [], ◌++◌, Bool, Option, Some, None}
use Rattle.std.specs.Io.KnownBytes.{Appends, append_known}
use Rattle.session_devices.specs.ByteTransfers.{ByteTransfer}
use Rattle.query_json.specs.Parts.{Parted, to_come}
use Rattle.http_session.specs.ResponseOrder.{ConnectionModel, model_of}
use Rattle.open_connections.specs.declared.buffered.BufferedConnection.{BufferedConnection}

-- the bytes that wait
abbrev pub bytes_waiting : Option Parted → List ℕ
bytes_waiting None = []
bytes_waiting (Some w) = to_come w

-- what was handed over to a connection: what it took, followed by what waits
abbrev pub handed_over : {C : Type 0} → (C → Option (List ℕ)) → BufferedConnection C → Option (List ℕ)
handed_over contents box = append_known (contents box.connection) (bytes_waiting box.waiting)

-- a read doesn't change what waits
abbrev pub buffered_gives : {C : Type 0} → ByteTransfer C → ByteTransfer (BufferedConnection C)
buffered_gives gives s given t = gives s.connection given t.connection × (t.waiting ≡ s.waiting) × (t.failed ≡ s.failed)

-- bytes were handed over, and what is still to be read didn't change
abbrev pub buffered_takes : {C : Type 0} → (C → Option (List ℕ)) → (C → Bool) → (C → Option (List ℕ)) → ByteTransfer (BufferedConnection C)
buffered_takes remaining failed contents s bytes t =
    Appends (handed_over contents s) (handed_over contents t) bytes
    × (remaining t.connection ≡ remaining s.connection) × (failed t.connection ≡ failed s.connection)

abbrev pub buffered_model : {C : Type 0} → (C → Option (List ℕ)) → ByteTransfer C → (C → Bool) → (C → Option (List ℕ)) → ConnectionModel (BufferedConnection C)
buffered_model remaining gives failed contents =
    model_of (λ s. remaining s.connection) (buffered_gives gives) (λ s. failed s.connection)
    (handed_over contents) (buffered_takes remaining failed contents) (λ s. s.failed)
