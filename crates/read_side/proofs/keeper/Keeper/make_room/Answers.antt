use Rattle.std.proofs.Common.{sym, ap, ◌∙◌, drop}
use Rattle.read_side.proofs.SpareChanges.{has_writer, has_entries, follows}
use Rattle.read_side.proofs.keeper.Keeper.make_room.Goals as goal

pub invariant_of-self : goal.invariant_of-self
invariant_of-self g c =
    let inv = c.self.invariant in
    let old = c.in-Some.writer in
    let new = c.append_no_change-has_room.new.writer in
    let unsent = c.self.inside.unsent.items in
    let was = sym c.take.ensures.value ∙ c.in-Some.is in
    let is = c.replace.ensures.after in
    let same = ap (λ (d : _). d.shown.value.entries) c.append_no_change-has_room.ensures.desk in (
      has_writer g.N.StoreName.book (λ w. w.desk.shown.value.entries)
          (λ w. drop w.behind w.log.items) c.self.inside.writer c.replace.new.dest old new unsent c.self.inside.journal.held.entries was is same,
      inv.1,
      has_entries g.N.StoreName.book (λ w. w.desk.shown.value.entries)
          (λ w. drop w.behind w.log.items) c.self.inside.writer c.replace.new.dest old new unsent c.self.inside.journal.held.entries was is same
          (c.append_no_change-has_room.ensures.entries unsent) inv.2,
      inv.3,
      inv.4,
      follows g.N.StoreName.book (λ w. w.desk.shown.value.entries)
          (λ w. drop w.behind w.log.items) c.self.inside.writer c.replace.new.dest old new unsent c.self.inside.journal.held.entries was is same
          (λ xs. c.append_no_change-has_room.ensures.follow g.N.StoreName.book xs unsent) inv.5,
    )
