use Rattle.std.proofs.lemmas.Result.{err_from_is_err_and}
use Rattle.text_lines.proofs.CompleteRuns.{stops_at_once}
use Rattle.text_lines.specs.RunErrors.{expected_of}
use Rattle.commands.specs.GetRuns.{output_of, status_for}
use Rattle.commands.proofs.get.finish.Goals as goal

pub returns-in_err-batches-clause-runs : goal.returns-in_err-batches-clause-runs
returns-in_err-batches-clause-runs g c =
    let p = err_from_is_err_and c.from_residual.result c.from_residual.ensures.1 in
    let expected = expected_of (output_of c.args.limits c.args.trace) (status_for c.args.limits c.args.trace) in
    rw (p.1, p.2) (stops_at_once _ _ _ _ expected c.requires.input_works c.requires.output_works)

pub returns-in_err-batches-clause-limit : goal.returns-in_err-batches-clause-limit
returns-in_err-batches-clause-limit g c =
    let p = err_from_is_err_and c.from_residual.result c.from_residual.ensures.1 in
    rw (p.1, p.2) tt
