use Rattle.std.proofs.Common.{ap, map}
use Rattle.std.specs.Arc.{arc_value}
use Rattle.trace_server.proofs.Workers.{books_closed}
use Rattle.trace_server.proofs.ending.close_books.Goals as goal

pub returns : goal.returns
returns g c =
    let old = c.args.books in
    let new = c.take_all_in-taken_in.new.books in
    let e = c.in_ok-taken_in.ensures in
    books_closed g.N.StoreName.limits old _ (map arc_value old.unjudged.items) new.inbox.taken (map arc_value new.unjudged.items)
    new.acknowledged new.refused c.close-unanswered.result
    c.requires.judged e.counts.0 e.counts.1 (ap (map arc_value) c.requires.left) e.moved e.whole c.close-unanswered.ensures
