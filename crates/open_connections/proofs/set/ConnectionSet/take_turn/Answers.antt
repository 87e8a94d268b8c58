use Rattle.std.proofs.Common.{◌≡◌, sym, ◌∙◌, ap, refl, subst, Some}
use Rattle.std.specs.Option.{option_map}
use Rattle.slab.specs.Slab.{get}
use Rattle.http_session.proofs.SessionPieces.{promises_of}
use Rattle.open_connections.specs.OpenConnections.{AllOpen}
use Rattle.open_connections.specs.declared.open.OpenConnection.{OpenConnection}
use Rattle.open_connections.proofs.OpenConnections.{all_open_still, rest_of_removed, rest_is_open, all_with_one, stayed}
use Rattle.open_connections.proofs.set.ConnectionSet.take_turn.Goals as goal

pub returns-in-StaysOpen-clause-underway : goal.returns-in-StaysOpen-clause-underway
returns-in-StaysOpen-clause-underway g c =
    let kept = promises_of g.met.B.Backend.submit_knows g.met.B.Backend.read_knows in
    let all = subst (AllOpen _ _ _) (sym c.self.view_is) c.requires.underway in
    let before = rest_is_open _ _ _ c.self.inside.connections c.try_remove.new.self all
    (rest_of_removed c.self.inside.connections c.try_remove.new.self _ c.try_remove.ensures.updates) in
    let after = all_open_still _ kept _ _ _ c.try_remove.new.self c.take_turn.ensures.asks before in
    let is = c.in-StaysOpen.ensures.comes in
    all_with_one _ _ _ c.try_remove.new.self c.insert_reserved-key.new.self _ _ after c.insert_reserved-key.ensures.updates
    (record { then = is.then; underway = is.underway; ready = is.ready; input_works = is.input_works; output_works = is.output_works })

pub returns-in-StaysOpen-clause-turn : goal.returns-in-StaysOpen-clause-turn
returns-in-StaysOpen-clause-turn g c =
    let found : get c.args.self.now c.args.key ≡ Some c.in-Some.open =
    ap (λ set. get set c.args.key) (sym c.self.view_is) ∙ sym c.in-Some.ensures.value in
    let key = c.insert_reserved-key.ensures.key ∙ c.in-Some.ensures.key_is_next in
    stayed _ _ _ (ap (get c.insert_reserved-key.new.self) (sym key) ∙ c.insert_reserved-key.ensures.updates.changed)
    (ap (option_map (λ (o : OpenConnection _). o.began.value)) found ∙ ap Some (sym c.take_turn.ensures.began))

pub returns-in-Ended-clause-underway : goal.returns-in-Ended-clause-underway
returns-in-Ended-clause-underway g c =
    let kept = promises_of g.met.B.Backend.submit_knows g.met.B.Backend.read_knows in
    let all = subst (AllOpen _ _ _) (sym c.self.view_is) c.requires.underway in
    let before = rest_is_open _ _ _ c.self.inside.connections c.try_remove.new.self all
    (rest_of_removed c.self.inside.connections c.try_remove.new.self _ c.try_remove.ensures.updates) in
    all_open_still _ kept _ _ _ c.try_remove.new.self c.take_turn.ensures.asks before

pub returns-in-Ended-clause-turn : goal.returns-in-Ended-clause-turn
returns-in-Ended-clause-turn g c =
    let found : get c.args.self.now c.args.key ≡ Some c.in-Some.open =
    ap (λ set. get set c.args.key) (sym c.self.view_is) ∙ sym c.in-Some.ensures.value in
    record {
      it = c.take_turn.new.self;
      box_is = refl;
      began = ap (option_map (λ (o : OpenConnection _). o.began.value)) found ∙ ap Some (sym c.take_turn.ensures.began);
      comes = c.in-Ended.ensures.comes;
    }
