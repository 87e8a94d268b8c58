use Rattle.std.proofs.Common.{◌≡◌, ◌-◌, ◌++◌, length, replicate}
use Rattle.std.specs.Prelude.{vec_capacity}
use Rattle.hash_tables.proofs.growing.add_free.Given as goal

abbrev pub invariant-loop-added : goal.invariant-loop-added
invariant-loop-added l = record {
  items : l.slots.items ≡ l.fn.slots.items ++ replicate (l._added - length l.fn.slots.items) 0;
  capacity : vec_capacity l.slots ≡ vec_capacity l.fn.slots;
}
