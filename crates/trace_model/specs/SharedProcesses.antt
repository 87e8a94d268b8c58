-- Which spans of a trace have one process.
use Rattle.std.specs.Prelude.{◌≡◌, ℕ, ◌<◌, List, length, get_or}
use Rattle.jaeger_model.specs.declared.placed.Placed.{Placed}

-- two spans have one key; nothing is known of a span without a key
abbrev pub HaveOneKey : List ℕ → ℕ → ℕ → Type 0
HaveOneKey keys j k = (j < length keys) × (k < length keys) × (get_or keys j 0 ≡ get_or keys k 0)

-- spans with one key have one process
abbrev pub ShareProcesses : List Placed → List ℕ → Type 0
ShareProcesses trace keys = (j k : ℕ) (d : Placed) → HaveOneKey keys j k → (get_or trace j d).process ≡ (get_or trace k d).process
