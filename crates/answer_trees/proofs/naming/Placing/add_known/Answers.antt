use Rattle.std.proofs.Common.{◌≡◌, ◌∙◌, sym}
use Rattle.std.specs.Prelude.{Some, option_and_then}
use Rattle.std.specs.Ordering.{nat_cmp}
use Rattle.std.specs.BTreeMap.{get}
use Rattle.answer_trees.proofs.PlacesByKeys.{all_more, known_place, known_processes, places_more}
use Rattle.answer_trees.proofs.naming.Placing.add_known.Goals as goal

pub returns-clause-added : goal.returns-clause-added
returns-clause-added c = λ spans keys i s next before.
    let old = c.args.self.now in
    let key = c.args.key in
    let n = c.in-Some.place in
    let known = get nat_cmp old.known in
    let found : option_and_then known key ≡ Some n = sym c.place_by_key.ensures ∙ c.in-Some.is in
    let place = known_place spans keys i s key next known n before.known found in
    record {
      by_place = before.by_place;
      processes = before.processes ∙ sym (known_processes spans keys i s key next known n before.known found);
      firsts = before.firsts;
      places = places_more spans keys i s key next old.places.items c.push.new.self.items n before.places c.in_ok-push.ensures.items place;
      known = all_more spans keys i s key next known before.known;
    }
