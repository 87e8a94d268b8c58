use Rattle.std.proofs.Common.{sym, ◌∙◌}
use Rattle.http_requests.proofs.ChunkParts.{awaits_line_end}
use Rattle.http_requests.proofs.body_reader.look_for_line_end.Goals as goal

pub returns-then-may_begin_line_end : goal.returns-then-may_begin_line_end
returns-then-may_begin_line_end c =
    awaits_line_end c.args.bytes.now (sym c.begins_line_end.ensures ∙ c.if-begins_line_end.false)
    (sym c.may_begin_line_end.ensures ∙ c.if-may_begin_line_end.true)
