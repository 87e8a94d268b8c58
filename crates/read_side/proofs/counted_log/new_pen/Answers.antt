use Rattle.std.proofs.Common.{◌==◌, ap, sym, ◌∙◌}
use prog.Atomic.{either}
use Rattle.logbook.specs.Pages.{step}
use Rattle.read_side.proofs.LogSteps.{make_moves}
use Rattle.read_side.proofs.counted_log.new_pen.Goals as goal

pub compare_exchange-requires : goal.compare_exchange-requires
compare_exchange-requires g c =
    let head = c.requires in
    let book = sym (ap (λ w. w.book) head) in
    let offer = c.plain-offer.ensures in
    let pen = c.no_pen-pen.ensures in (
      ap (λ w. w.tracked) head,
      book,
      pen.0 ∙ book,
      offer.0,
      rw (ap (λ w. w.key) head, pen.1, offer.3) (make_moves c.args.seen.now.log (step 0 0 0 c.plain-offer.result.ask) (λ n. either (n == 0) 0 n)),
    )
