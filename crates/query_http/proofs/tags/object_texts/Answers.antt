use Rattle.std.proofs.Common.{rules, ◌≡◌, ◌∷◌, ◌++◌, [], Some}
use Rattle.std.specs.Prelude.{string_bytes}
use Rattle.serde_json.specs.Find.{as_str}
use Rattle.serde_json.specs.View.{view}
use Rattle.query_http.proofs.TagLoops.{texts_more}
use Rattle.query_http.proofs.tags.object_texts.Goals as goal

pub loop-key-preserved : goal.loop-key-preserved
loop-key-preserved c =
    let step : c.loop-key.key-iterator ≡ (c.in-Some.key.now, c.in-Some.value.now) ∷ c.next.new.self = search rules in
    let text : as_str (view c.in-Some.value.now) ≡ Some c.in-Some-as_str.value.now = search rules in
    let pushed : c.push-in-loop-key.new.self.items ≡ c.loop-key.pairs.items ++ (string_bytes c.in-Some.key.now, c.in-Some-as_str.value.now) ∷ [] =
    search rules in (
      tt,
      tt,
      rw pushed (texts_more c.loop-key.pairs.items c.in-Some.key.now c.in-Some.value.now c.next.new.self c.in-Some-as_str.value.now _ text
          (rw step at c.loop-key.invariant.2)),
    )
