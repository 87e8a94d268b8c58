use Rattle.std.proofs.Common.{◌≡◌, ◌++◌, map, drop}
use Rattle.std.specs.Prelude.{codes}
use Rattle.query_http.specs.QueryStrings.{given_values}
use Rattle.query_http.proofs.tags.tag_values.Given as goal

abbrev pub invariant-loop-pair : goal.invariant-loop-pair
invariant-loop-pair l = map (λ s. s.now) l.values.items ++ given_values (codes "tag") (drop l.pair-index l.pairs) ≡ given_values (codes "tag") l.pairs
