use Rattle.std.proofs.Common.{false}
use Rattle.std.proofs.lemmas.Result.{err_from_is_err_and}
use Rattle.text_lines.proofs.ReadCounts.{written_limit}
use Rattle.commands.proofs.GetWholes.{finishes, stops_early, stops_late}
use Rattle.commands.proofs.get.take_all.Goals as goal

pub returns-clause-runs : goal.returns-clause-runs
returns-clause-runs g c =
    finishes _ _ _ _ _ _ c.args.limits c.args.trace _ _ _ c.requires.nothing c.in_ok-faulty.ensures.all c.in_ok-found.found c.status_of.result
    (rw c.store.ensures at c.in_ok-found.ensures.found) (rw c.store.ensures at c.in_ok-found.ensures.lines.0)
    c.status_of.ensures c.in_ok-faulty.ensures.works.0 c.in_ok-found.ensures.lines.1

pub returns-in_err-faulty-clause-runs : goal.returns-in_err-faulty-clause-runs
returns-in_err-faulty-clause-runs g c =
    let p = err_from_is_err_and c.from_residual.result c.from_residual.ensures.1 in
    rw (p.1, p.2) (stops_early _ _ c.args.limits c.args.trace _ c.answer_lines.new.handler c.requires.nothing _ c.in_err-faulty.ensures.some)

pub returns-in_err-found-clause-runs : goal.returns-in_err-found-clause-runs
returns-in_err-found-clause-runs g c =
    let p = err_from_is_err_and c.from_residual-in_err-found.result c.from_residual-in_err-found.ensures.1 in
    rw (p.1, p.2) (stops_late _ _ _ _ _ _ c.args.limits c.args.trace _ _ _ c.requires.nothing c.in_ok-faulty.ensures.all _
    (rw c.store.ensures at c.in_err-found.ensures.lines.0) c.in_err-found.ensures.lines.1 c.in_ok-faulty.ensures.works.0)

pub returns-in_err-faulty-clause-limit : goal.returns-in_err-faulty-clause-limit
returns-in_err-faulty-clause-limit g c =
    let p = err_from_is_err_and c.from_residual.result c.from_residual.ensures.1 in
    rw (p.1, p.2) c.in_err-faulty.ensures.limit

pub returns-in_err-found-clause-limit : goal.returns-in_err-found-clause-limit
returns-in_err-found-clause-limit g c =
    let p = err_from_is_err_and c.from_residual-in_err-found.result c.from_residual-in_err-found.ensures.1 in
    rw (p.1, p.2) (written_limit g.R.Input.gives _ _ _ _ _ c.in_err-found.ensures.lines.1)
