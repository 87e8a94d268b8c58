use Rattle.http_session.specs.ResponseOrder.{model_of}
use Rattle.http_session.proofs.SessionPieces.{promises_of}
use Rattle.http_session.proofs.KnownRefusals.{stays_known, stays_known_among}
use Rattle.http_session.proofs.laws.refusals_stay_known.Goals as goal

pub returns-clause-alone : goal.returns-clause-alone
returns-clause-alone g c =
    let model = model_of g.C.Input.remaining g.C.Input.gives g.C.Input.has_failed g.C.Output.contents g.C.Output.takes g.C.Output.has_failed in
    stays_known _ (promises_of g.met.B.Backend.submit_knows g.met.B.Backend.read_knows) model

pub returns-clause-among : goal.returns-clause-among
returns-clause-among g c =
    let model = model_of g.C.Input.remaining g.C.Input.gives g.C.Input.has_failed g.C.Output.contents g.C.Output.takes g.C.Output.has_failed in
    stays_known_among _ (promises_of g.met.B.Backend.submit_knows g.met.B.Backend.read_knows) model
