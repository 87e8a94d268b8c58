use Rattle.std.proofs.Common.{◌≡◌, drop}
use Rattle.std.specs.List.{list_any}
use Rattle.trace_model.specs.Searching.{tag_matches}
use Rattle.plain_store.proofs.search.is_among.Given as goal

abbrev pub invariant-loop-tag : goal.invariant-loop-tag
invariant-loop-tag l = list_any (tag_matches l.asked) (drop l.tag-index l.tags) ≡ list_any (tag_matches l.asked) l.tags
