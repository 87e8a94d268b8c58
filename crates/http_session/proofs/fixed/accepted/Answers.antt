use Rattle.std.proofs.Common.{[], sym, ap}
use Rattle.std.specs.Fmt.{digits}
use Rattle.query_http.specs.Responses.{response, field, status_line, type_line, length_line, allow_line, close_line}
use Rattle.http_session.proofs.fixed.accepted.Goals as goal

pub returns-then-close : goal.returns-then-close
unfolding field status_line type_line length_line allow_line close_line digits
returns-then-close c = ap (response 202 [] []) (sym c.if-close.true)

pub returns-else-close : goal.returns-else-close
unfolding field status_line type_line length_line allow_line close_line digits
returns-else-close c = ap (response 202 [] []) (sym c.if-close.false)
