use Rattle.std.proofs.Common.{arith}
use Rattle.std.proofs.lemmas.Grind.{common_steps}
use Rattle.std.proofs.lemmas.List.Elements.{filter_map-append}
use Rattle.plain_store.proofs.links.add_calls.Goals as goal

pub loop-placed-preserved : goal.loop-placed-preserved
loop-placed-preserved c = grind (arith, common_steps, filter_map-append)
