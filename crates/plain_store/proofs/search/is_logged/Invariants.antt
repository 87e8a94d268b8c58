use Rattle.std.proofs.Common.{◌≡◌, drop, flat_map}
use Rattle.std.specs.List.{list_any}
use Rattle.jaeger_model.specs.declared.span.Log.{Log}
use Rattle.trace_model.specs.Searching.{tag_matches}
use Rattle.plain_store.proofs.search.is_logged.Given as goal

abbrev pub invariant-loop-log : goal.invariant-loop-log
invariant-loop-log l =
    list_any (tag_matches l.asked) (flat_map (λ (g : Log). g.fields) (drop l.log-index l.logs))
    ≡ list_any (tag_matches l.asked) (flat_map (λ (g : Log). g.fields) l.logs)
