use Rattle.std.proofs.Common.{[], codes, sym, ap}
use Rattle.std.specs.Fmt.{digits}
use Rattle.json.specs.Print.{escape_byte}
use Rattle.query_http.specs.Responses.{response, field, status_line, type_line, length_line, allow_line, close_line}
use Rattle.http_session.specs.Replies.{error_body}
use Rattle.http_session.proofs.fixed.out_of_memory.Goals as goal

pub returns-then-close : goal.returns-then-close
unfolding escape_byte field status_line type_line length_line allow_line close_line digits
returns-then-close c = ap (response 500 (error_body 500 (codes "out of memory")) []) (sym c.if-close.true)

pub returns-else-close : goal.returns-else-close
unfolding escape_byte field status_line type_line length_line allow_line close_line digits
returns-else-close c = ap (response 500 (error_body 500 (codes "out of memory")) []) (sym c.if-close.false)
