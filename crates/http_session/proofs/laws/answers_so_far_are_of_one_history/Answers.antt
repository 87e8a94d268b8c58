use Rattle.http_session.specs.ResponseOrder.{model_of}
use Rattle.http_session.proofs.SessionPieces.{promises_of, answers_of_one_history}
use Rattle.http_session.proofs.laws.answers_so_far_are_of_one_history.Goals as goal

pub returns : goal.returns
returns g c =
    let model = model_of g.C.Input.remaining g.C.Input.gives g.C.Input.has_failed g.C.Output.contents g.C.Output.takes g.C.Output.has_failed in
    answers_of_one_history _ (promises_of g.met.B.Backend.submit_knows g.met.B.Backend.read_knows) model
