use Rattle.std.proofs.Common.{◌≡◌, length}
use Rattle.http_requests.specs.Fields.{has_token}
use Rattle.http_requests.proofs.fields.has_token.Given as goal

abbrev pub invariant-loop-item : goal.invariant-loop-item
invariant-loop-item l = has_token l.token l.rest ≡ has_token l.token l.list

abbrev pub decreases-loop-item : goal.decreases-loop-item
decreases-loop-item l = length l.rest
