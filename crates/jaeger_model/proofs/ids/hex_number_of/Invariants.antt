use Rattle.std.proofs.Common.{◌≡◌, take, ◌^◌, ◌<◌}
use Rattle.jaeger_model.specs.Ids.{hex_number}
use Rattle.jaeger_model.proofs.ids.hex_number_of.Given as goal

abbrev pub invariant-loop-c : goal.invariant-loop-c
invariant-loop-c l = (l.n ≡ hex_number (take l.c-index l.text)) × (l.n < 16 ^ l.c-index)
