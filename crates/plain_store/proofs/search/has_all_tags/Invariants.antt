use Rattle.std.proofs.Common.{◌≡◌, drop}
use Rattle.std.specs.List.{list_all}
use Rattle.trace_model.specs.Searching.{has_tag}
use Rattle.plain_store.proofs.search.has_all_tags.Given as goal

abbrev pub invariant-loop-asked : goal.invariant-loop-asked
invariant-loop-asked l = list_all (has_tag l.placed) (drop l.asked-index l.tags) ≡ list_all (has_tag l.placed) l.tags
