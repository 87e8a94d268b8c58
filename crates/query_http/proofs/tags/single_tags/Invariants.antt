use Rattle.std.proofs.Common.{◌≡◌, map, drop}
use Rattle.query_http.specs.Queries.{tags_from}
use Rattle.query_http.proofs.TagLoops.{with_front}
use Rattle.query_http.proofs.tags.single_tags.Given as goal

abbrev pub invariant-loop-tag : goal.invariant-loop-tag
invariant-loop-tag l = with_front l.pairs.items (tags_from (map (λ s. s.now) (drop l.tag-index l.tags))) ≡ tags_from (map (λ s. s.now) l.tags)
