use Rattle.std.proofs.Common.{ap, sym, ◌∙◌, refl}
use Rattle.read_side.specs.LogSteps.{key_in}
use Rattle.read_side.proofs.LogLists.{no_items}
use Rattle.read_side.proofs.counted_log.CountedLog.start.Goals as goal

pub invariant_of-result : goal.invariant_of-result
invariant_of-result g c =
    let pen = c.new_pen-pen in
    let key = ap key_in c.open_row-first.ensures.1 in
    let none = no_items pen.result.nib.key pen.new.seen.log pen.ensures.key in
    record {
      head_is = rw (c.tracked-head.ensures.0, c.open-seen.ensures.4, c.open-seen.ensures.2, pen.ensures.seen) refl;
      pen_book_is = pen.ensures.book ∙ sym pen.ensures.seen;
      right_is = pen.ensures.right;
      key_is = rw key (sym none.1);
      len_is = rw (key, none.0) refl;
    }

pub returns : goal.returns
returns g c =
    let pen = c.new_pen-pen in
    rw (ap key_in c.open_row-first.ensures.1) (no_items pen.result.nib.key pen.new.seen.log pen.ensures.key).0
