use Rattle.std.proofs.Common.{sym, subst, ap, ◌∙◌}
use Rattle.open_connections.specs.OpenConnections.{AllOpen}
use Rattle.open_connections.proofs.OpenConnections.{all_with_one, new_open}
use Rattle.open_connections.proofs.set.ConnectionSet.add.Goals as goal

pub returns : goal.returns
returns g c =
    let all = subst (AllOpen _ _ _) (sym c.self.view_is) c.requires.underway in
    let reads = ap g.C.Input.has_failed c.new-buffered.ensures.connection ∙ c.requires.works in
    let is = new_open _ _ c.args.backend.now c.new-open.result c.new-buffered.result c.new-open.ensures.connection c.new-open.ensures.session
    c.new-open.ensures.began
    c.a_new_session_is_underway.ensures.among c.a_new_session_is_underway.ensures.ready reads c.new-buffered.ensures.works in
    record { underway = all_with_one _ _ _ c.self.inside.connections c.insert.new.self _ _ all c.in-Ok.ensures.updates is }
