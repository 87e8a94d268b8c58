use Rattle.std.proofs.Common.{refl, ◌∙◌}
use Rattle.http_session.specs.declared.resumable.Progress.TheVariants.{Paused, Answered}
use Rattle.open_connections.proofs.OpenConnections.{came_on, came_to_end, came_failed, moved_open}
use Rattle.open_connections.proofs.open.OpenConnection.continue_session.Goals as goal

pub returns-in-Paused-clause-comes : goal.returns-in-Paused-clause-comes
returns-in-Paused-clause-comes g c =
    let came = c.in-Ok.ensures in
    came_on _ _ _ _ c.args.self.now _ _ _ c.borrow_room.ensures c.return_room.ensures c.run_piece-taken.ensures.began c.requires.underway _ Paused
    c.in-Paused.is refl came.goes_on came.open came.works

pub returns-in-Answered-clause-comes : goal.returns-in-Answered-clause-comes
returns-in-Answered-clause-comes g c =
    let came = c.in-Ok.ensures in
    let is = came_on _ _ _ _ c.args.self.now c.run_piece-taken.new.self _ _ c.borrow_room.ensures refl c.run_piece-taken.ensures.began c.requires.underway _
    Answered c.in-Answered.is refl came.goes_on came.open came.works in
    moved_open _ _ _ c.run_piece-taken.new.self c.after_response.new.self c.after_response.ensures.connection
    (c.after_response.ensures.session ∙ c.return_room.ensures) c.after_response.ensures.began is

pub returns-in-ClosedByClient-clause-comes : goal.returns-in-ClosedByClient-clause-comes
returns-in-ClosedByClient-clause-comes g c =
    came_to_end _ _ _ _ c.args.self.now _ _ _ c.borrow_room.ensures c.return_room.ensures c.run_piece-taken.ensures.began c.requires.underway _
    c.in-Ended.ended c.in-Ended.is c.in-Ok.ensures.goes_on

pub returns-in-ClosedByResponse-clause-comes : goal.returns-in-ClosedByResponse-clause-comes
returns-in-ClosedByResponse-clause-comes g c =
    came_to_end _ _ _ _ c.args.self.now _ _ _ c.borrow_room.ensures c.return_room.ensures c.run_piece-taken.ensures.began c.requires.underway _
    c.in-Ended.ended c.in-Ended.is c.in-Ok.ensures.goes_on

pub returns-in_default-clause-comes : goal.returns-in_default-clause-comes
returns-in_default-clause-comes g c =
    came_failed _ _ _ _ c.args.self.now _ _ _ c.borrow_room.ensures c.return_room.ensures c.run_piece-taken.ensures.began c.requires.underway
    c.in_default.field-0 c.in_default.ensures.goes_on
