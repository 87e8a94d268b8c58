use Rattle.http_session.specs.ResponseOrder.{model_of}
use Rattle.http_session.proofs.SessionPieces.{promises_of, others_submit, others_read, others_go_on, others_forget_nothing}
use Rattle.http_session.proofs.laws.a_pause_keeps_a_session_underway.Goals as goal

pub returns-clause-submits : goal.returns-clause-submits
returns-clause-submits g c =
    let model = model_of g.C.Input.remaining g.C.Input.gives g.C.Input.has_failed g.C.Output.contents g.C.Output.takes g.C.Output.has_failed in
    others_submit _ (promises_of g.met.B.Backend.submit_knows g.met.B.Backend.read_knows) model

pub returns-clause-reads : goal.returns-clause-reads
returns-clause-reads g c =
    let model = model_of g.C.Input.remaining g.C.Input.gives g.C.Input.has_failed g.C.Output.contents g.C.Output.takes g.C.Output.has_failed in
    others_read _ (promises_of g.met.B.Backend.submit_knows g.met.B.Backend.read_knows) model

pub returns-clause-pieces : goal.returns-clause-pieces
returns-clause-pieces g c =
    let model = model_of g.C.Input.remaining g.C.Input.gives g.C.Input.has_failed g.C.Output.contents g.C.Output.takes g.C.Output.has_failed in
    others_go_on _ (promises_of g.met.B.Backend.submit_knows g.met.B.Backend.read_knows) model

pub returns-clause-others : goal.returns-clause-others
returns-clause-others g c =
    let model = model_of g.C.Input.remaining g.C.Input.gives g.C.Input.has_failed g.C.Output.contents g.C.Output.takes g.C.Output.has_failed in
    others_forget_nothing _ (promises_of g.met.B.Backend.submit_knows g.met.B.Backend.read_knows) model
