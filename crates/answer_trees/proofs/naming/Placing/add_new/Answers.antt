use Rattle.std.proofs.Common.{◌≡◌, ◌++◌, ◌∷◌, ◌∙◌, [], ap}
use Rattle.answer_trees.proofs.PlacesByKeys.{places_more}
use Rattle.answer_trees.proofs.naming.Placing.add_new.Goals as goal

pub returns : goal.returns
returns c = λ spans keys i s own next before.
    let old = c.args.self.now in
    let n = c.in_ok-place.place in
    let placed = c.in_ok-place.ensures.placed spans keys i s own next before in
    let put : c.push.new.self.items ≡ old.places.items ++ n ∷ [] = c.in_ok-push.ensures.items ∙ ap (λ ps. ps.items ++ n ∷ []) c.in_ok-place.ensures.places in
    record {
      by_place = placed.0.by_place;
      processes = placed.0.processes;
      firsts = placed.0.firsts;
      places = places_more spans keys i s c.args.key next old.places.items c.push.new.self.items n before.places put placed.1;
      known = placed.0.known;
    }
