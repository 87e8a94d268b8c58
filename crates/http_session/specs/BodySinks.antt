-- The sinks of a body: it is discarded, or decoded as a batch piece by piece.
use Rattle.std.specs.Prelude.{◌≡◌, ℕ, ◌⊎◌, List, ◌++◌, Result}
use Rattle.jaeger_model.specs.declared.batch.Batch.{Batch}
use Rattle.batch_codec.specs.declared.fault.DecodeError.{DecodeError}
use Rattle.batch_codec.specs.declared.fault.DecodeError.TheVariants.{Memory}
use Rattle.batch_feeder.specs.FeederResults.{HasRefused, Repeats}
use Rattle.http_session.specs.declared.receiving.Discard.{Discard}

-- ---- a body that is discarded

abbrev pub Passes : Discard → List ℕ → Discard → Type 0
Passes s w t = Unit {0}

-- ---- a batch

-- The result for any later bytes is that for these bytes followed by them. Or memory ran out before any other fault,
-- and that is the result from then on.
abbrev pub Follows : (List ℕ → Result Batch DecodeError) → List ℕ → (List ℕ → Result Batch DecodeError) → Type 0
Follows old w new = ((rest : List ℕ) → old (w ++ rest) ≡ new rest) ⊎ (HasRefused new Memory × Repeats old Memory)
