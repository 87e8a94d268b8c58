use Rattle.std.proofs.Common.{arith}
use Rattle.hash_tables.proofs.id_table.IdTable.used.Goals as goal

pub overflow_cast-result : goal.overflow_cast-result
overflow_cast-result c = let w = c.self.invariant.within in let f = c.self.invariant.fits in omega arith
