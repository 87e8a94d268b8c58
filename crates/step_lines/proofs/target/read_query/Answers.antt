use Rattle.std.proofs.Common.{Ok, Err}
use Rattle.step_lines.proofs.EndpointsOfPaths.{query_asked, no_path_asked}
use Rattle.step_lines.proofs.target.read_query.Goals as goal

pub returns-in-Ok : goal.returns-in-Ok
returns-in-Ok c = query_asked c.args.target.now (Ok c.in-Ok.query) c.in-Ok.ensures

pub returns-in-Err-NoPath : goal.returns-in-Err-NoPath
returns-in-Err-NoPath c = no_path_asked c.args.target.now (rw c.in-Err-NoPath.field-0-is at c.in-Err-NoPath.ensures)

pub returns-in-Err-Bad : goal.returns-in-Err-Bad
returns-in-Err-Bad c = query_asked c.args.target.now (Err c.in-Err-Bad.parameter) (rw c.in-Err-Bad.field-0-is at c.in-Err-Bad.ensures)
