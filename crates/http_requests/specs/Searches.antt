-- What a search at the start of the bytes received finds.
use Rattle.std.specs.Prelude.{ℕ, List}
use Rattle.http_requests.specs.declared.chunked.parse_status.ParseStatus.{ParseStatus}
use Rattle.http_requests.specs.declared.chunked.parse_status.ParseStatus.TheVariants.{Complete, Partial, Invalid}

-- a text that is looked for: what is known while it is awaited, once it is found, and if it can't come any more
pub record SoughtText (T : Type 0) : Type 1 where
  pub awaits : List ℕ → Type 0
  pub finds : List ℕ → T → Type 0
  pub never_has : List ℕ → Type 0

abbrev pub search_for : {T : Type 0} → (List ℕ → Type 0) → (List ℕ → T → Type 0) → (List ℕ → Type 0) → SoughtText T
search_for Awaits Finds NeverHas = record { awaits = Awaits; finds = Finds; never_has = NeverHas }

-- the text was found at the start, is still awaited, or doesn't come whatever follows
abbrev pub LooksFor : {T : Type 0} → SoughtText T → List ℕ → ParseStatus T → Type 0
LooksFor sought bytes (Complete found) = sought.finds bytes found
LooksFor sought bytes Partial = sought.awaits bytes
LooksFor sought bytes Invalid = sought.never_has bytes
