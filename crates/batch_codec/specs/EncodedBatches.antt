-- The result of encoding a batch.
use Rattle.std.specs.Prelude.{◌≡◌, ℕ, true, false, Result, Ok, Err, Vec}
use Rattle.jaeger_model.specs.declared.batch.Batch.{Batch}
use Rattle.thrift_binary.specs.declared.fault.WireError.TheVariants.{Truncated, BadLength, BadType, TooDeep, BadBool, BadText}
use Rattle.std.specs.declared.alloc.Global.{Global}
use Rattle.batch_codec.specs.declared.fault.DecodeError.{DecodeError}
use Rattle.batch_codec.specs.declared.fault.DecodeError.TheVariants.{Wire, Missing, BadEnum, Trailing, Memory}
use Rattle.batch_codec.specs.CanonicalTexts.{canon, batch_fits}

-- the one spelling if every length fits; BadLength if one doesn't; no other error unless memory runs out
abbrev pub WritesBatch : Batch → Result (Vec ℕ Global) DecodeError → Type 0
WritesBatch b (Ok v) = (v.items ≡ canon b) × (batch_fits b ≡ true)
WritesBatch b (Err Memory) = Unit {0}
WritesBatch b (Err (Wire BadLength)) = batch_fits b ≡ false
WritesBatch b (Err (Wire Truncated)) = ⊥
WritesBatch b (Err (Wire BadType)) = ⊥
WritesBatch b (Err (Wire TooDeep)) = ⊥
WritesBatch b (Err (Wire BadBool)) = ⊥
WritesBatch b (Err (Wire BadText)) = ⊥
WritesBatch b (Err (Missing p i)) = ⊥
WritesBatch b (Err BadEnum) = ⊥
WritesBatch b (Err Trailing) = ⊥
