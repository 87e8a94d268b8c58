use Rattle.std.proofs.Common.{◌≡◌, ◌++◌, map}
use Rattle.form_urlencoded.specs.Parse.{raw_pairs_left}
use Rattle.query_http.specs.QueryStrings.{pairs_of, decoded_pair}
use Rattle.query_http.proofs.query_string.query_pairs.Given as goal

abbrev pub invariant-loop-name : goal.invariant-loop-name
invariant-loop-name l = l.all.items ++ map decoded_pair (raw_pairs_left l.name-iterator) ≡ pairs_of l.query_string
