use Rattle.std.proofs.Common.{◌≡◌}
use Rattle.serde_json.specs.View.{members_view}
use Rattle.query_http.specs.Queries.{texts_in}
use Rattle.query_http.proofs.TagLoops.{in_front}
use Rattle.query_http.proofs.tags.object_texts.Given as goal

abbrev pub invariant-loop-key : goal.invariant-loop-key
invariant-loop-key l =
    (goal.iterator-loop-key).can_next l.key-iterator
    × (goal.iterator-loop-key).is_finite l.key-iterator
    × (in_front l.pairs.items (texts_in (members_view l.key-iterator)) ≡ texts_in (members_view l.members.entries))
