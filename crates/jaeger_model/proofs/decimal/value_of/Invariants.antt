use Rattle.std.proofs.Common.{◌≡◌, take, ◌^◌, ◌<◌}
use Rattle.jaeger_model.specs.Decimal.{number_of}
use Rattle.jaeger_model.proofs.decimal.value_of.Given as goal

abbrev pub invariant-loop-byte : goal.invariant-loop-byte
invariant-loop-byte l = (l.number ≡ number_of (take l.byte-index l.digits)) × (l.number < 10 ^ l.byte-index)
