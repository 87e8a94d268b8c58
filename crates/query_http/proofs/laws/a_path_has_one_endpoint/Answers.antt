use Rattle.query_http.proofs.PathLaws.{one_endpoint}
use Rattle.query_http.proofs.laws.a_path_has_one_endpoint.Goals as goal

pub returns : goal.returns
returns c = one_endpoint
