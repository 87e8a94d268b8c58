use Rattle.trace_server.specs.ServerRuns.{served_line, books_line}
use Rattle.trace_server.proofs.ServerEnds.{said_both, said_some}
use Rattle.trace_server.proofs.output_lines.write_last_lines.Goals as goal

pub returns-in-Ok : goal.returns-in-Ok
returns-in-Ok g c =
    let t = c.args.totals in
    said_both _ _ _ (g.W.Output.has_failed c.write_books.new.output) (served_line c.args.served) (books_line t.acknowledged t.refused t.unanswered)
    c.write_books.result c.in-Ok.ensures.0 c.write_books.ensures

pub returns-in-Err : goal.returns-in-Err
returns-in-Err g c =
    let t = c.args.totals in
    said_some _ _ (g.W.Output.has_failed c.write_served.new.output) (served_line c.args.served) (books_line t.acknowledged t.refused t.unanswered)
    c.in-Err.error c.in-Err.ensures.0 c.in-Err.ensures.1
