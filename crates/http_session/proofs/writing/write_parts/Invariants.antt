use Rattle.std.proofs.Common.{◌≡◌, ◌++◌, List, ℕ, length}
use Rattle.std.specs.Io.KnownBytes.{Appends}
use Rattle.query_json.specs.Parts.{to_come}
use Rattle.http_session.proofs.writing.write_parts.Given as goal

-- what was sent, and what is still to come after it
abbrev pub invariant-loop-response : goal.invariant-loop-response
invariant-loop-response g l = (sent : List ℕ)
    × (sent ++ to_come l.response ≡ to_come l.initial.response)
    × Appends (g.W.Output.contents l.initial.output) (g.W.Output.contents l.output) sent
    × (g.W.Output.has_failed l.output ≡ g.W.Output.has_failed l.initial.output)
    × g.W.Output.takes l.initial.output sent l.output

abbrev pub decreases-loop-response : goal.decreases-loop-response
decreases-loop-response g l = length (to_come l.response)
