use Rattle.std.proofs.Common.{◌≤◌, length, rules}
use mathlib.Core.List.{IsPrefix}
use Rattle.read_side.proofs.GrowingLists.{one_begins}
use Rattle.read_side.proofs.prefix.HistoryPrefix.is_prefix_of.Goals as goal

pub returns : goal.returns
returns g c =
    let own : IsPrefix c.self.inside.seen.log c.learn.new.self.log = search rules in
    let other : IsPrefix c.other.inside.seen.log c.learn.new.self.log = search rules in
    let within : c.self.inside.len ≤ length c.self.inside.seen.log = search rules in
    let within_other : c.other.inside.len ≤ length c.other.inside.seen.log = search rules in
    let one = one_begins c.self.inside.len c.other.inside.len c.self.inside.seen.log c.other.inside.seen.log c.learn.new.self.log own other within
    within_other in
    rw (← c.self.view_is, ← c.other.view_is) one
