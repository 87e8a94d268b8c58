use Rattle.std.proofs.Common.{◌≡◌, length, reverse}
use Rattle.httparse.specs.Grammar.{skip_ows}
use Rattle.http_requests.proofs.fields.trimmed.Given as goal

abbrev pub invariant-loop-rest : goal.invariant-loop-rest
invariant-loop-rest l = skip_ows l.rest ≡ skip_ows l.bytes

abbrev pub decreases-loop-rest : goal.decreases-loop-rest
decreases-loop-rest l = length l.rest

abbrev pub invariant-loop-rest-2 : goal.invariant-loop-rest-2
invariant-loop-rest-2 l = skip_ows (reverse l.rest) ≡ skip_ows (reverse (skip_ows l.bytes))

abbrev pub decreases-loop-rest-2 : goal.decreases-loop-rest-2
decreases-loop-rest-2 l = length l.rest
