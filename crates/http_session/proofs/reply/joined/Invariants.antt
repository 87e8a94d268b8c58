use Rattle.std.proofs.Common.{◌≡◌, ◌++◌, length}
use Rattle.query_json.specs.Parts.{to_come}
use Rattle.http_session.proofs.reply.joined.Given as goal

abbrev pub invariant-loop-whole : goal.invariant-loop-whole
invariant-loop-whole l = l.whole.items ++ to_come l.parts ≡ l.initial.whole.items ++ to_come l.initial.parts

abbrev pub decreases-loop-whole : goal.decreases-loop-whole
decreases-loop-whole l = length (to_come l.parts)
