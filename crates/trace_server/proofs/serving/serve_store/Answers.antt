use Rattle.std.proofs.Common.{◌∙◌, inl, inr, map}
use Rattle.trace_server.specs.ServerRuns.{counts_of, served_line}
use Rattle.trace_server.proofs.ServerEnds.{broken_off}
use Rattle.trace_server.proofs.Workers.{new_open, open_at, open_still, numbers_stay}
use Rattle.trace_server.proofs.serving.serve_store.Goals as goal
use Rattle.std.proofs.lemmas.Result.{IfOk-at_ok}

pub returns-in_default : goal.returns-in_default
returns-in_default g c = inl (0, broken_off _ (g.W.Output.has_failed c.args.output.now) (served_line 0) _ c.end_with.ensures c.requires.output_works)

pub close_books-requires-clause-open : goal.close_books-requires-clause-open
close_books-requires-clause-open g c =
    let on = IfOk-at_ok _ c.in-Ok.is c.serve_sessions-books.ensures.seats in
    let desk = c.serve_sessions-books.ensures.desk in
    open_at c.serve_sessions-books.result.books.inbox.desk c.args.shared.clerk.desk _ desk
    (open_still c.args.shared.clerk.desk _ _ on (new_open c.args.shared.clerk.desk _ c.requires.new))

pub returns-in-Ok-close_books : goal.returns-in-Ok-close_books
returns-in-Ok-close_books g c =
    let on = IfOk-at_ok _ c.in-Ok.is c.serve_sessions-books.ensures.seats in
    let totals = c.in-Ok-close_books.totals in
    inr (record {
      served = c.total_outcome-all.result.served;
      failed = c.total_outcome-all.result.failed;
      counts = counts_of totals.acknowledged totals.refused totals.unanswered;
      lists = c.serve_sessions-books.result.books.keeper;
      seats = map (λ w. w.live.seat) c.in-Ok.workers.items;
      gone_on = on;
      one_for_each = numbers_stay _ _ on ∙ c.requires.numbers;
      books = c.in-Ok-close_books.ensures;
      ends = c.end_with_totals.ensures;
    })
