-- A call that returns what another reading yields, and a call that returns the error of an inner one.
use Rattle.std.proofs.Common.{◌≡◌, ℕ, List, [], Result, Ok, Err, ◌∙◌}
use Rattle.thrift_binary.specs.declared.fault.WireError.{WireError}
use Rattle.thrift_binary.specs.Reading.{Read, Reads}

pub Reads-same : {X Y : Type 0} (view : X → Y) (f g : List ℕ → Read Y) (old : List ℕ) (r : Result X WireError) (new : List ℕ) → f old ≡ g old
    → Reads view g old r new → Reads view f old r new
Reads-same view f g old (Ok x) new e h = e ∙ h
Reads-same view f g old (Err d) new e h = (e ∙ h.0, h.1)

-- an error that a `?` returns
pub Reads-exit : {X Y : Type 0} (view : X → Y) (f : List ℕ → Read Y) (old : List ℕ) (r : Result X WireError) (d : WireError) (new : List ℕ) → r ≡ Err d
    → f old ≡ Err d → new ≡ [] → Reads view f old r new
Reads-exit view f old (Ok x) d new e h n = absurd cc
Reads-exit view f old (Err c) d new e h n = (cc, n)
