use Rattle.std.proofs.Common.{sym, ap, ◌∙◌}
use Rattle.matchit.specs.Seek.{first}
use Rattle.query_http.proofs.EndpointsAreFound.{endpoint_found, endpoint_there}
use Rattle.query_http.proofs.paths.endpoint_of.Goals as goal

pub returns-in-Ok : goal.returns-in-Ok
returns-in-Ok c = endpoint_found c.args.path.now _ (sym (ap (λ r. first r c.args.path.now) c.requires) ∙ c.in-Ok.ensures.found)

pub returns-in-Err : goal.returns-in-Err
returns-in-Err c = λ e part p. endpoint_there e part c.args.path.now p (sym (ap (λ r. first r c.args.path.now) c.requires) ∙ c.in-Err.ensures.missing)
