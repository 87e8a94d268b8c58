use Rattle.value_pieces.proofs.CallSteps.{comes-faults}
use Rattle.struct_pieces.proofs.fields.enter_fields.Goals as goal

pub returns-in-Err-clause-continues : goal.returns-in-Err-clause-continues
returns-in-Err-clause-continues g c = comes-faults _ _ _ _ _ c.loop-error.invariant.0 c.in-Err.ensures.reads
