use Rattle.std.proofs.Common.{◌≡◌, drop}
use Rattle.query_http.specs.QueryStrings.{first_of}
use Rattle.query_http.proofs.query_string.find_parameter.Given as goal

abbrev pub invariant-loop-pair : goal.invariant-loop-pair
invariant-loop-pair l = first_of l.name (drop l.pair-index l.pairs) ≡ first_of l.name l.pairs
