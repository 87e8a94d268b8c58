use Rattle.std.proofs.Common.{refl, subst}
use Rattle.http_session.specs.IncomingRequests.{HasReceived}
use Rattle.http_session.specs.declared.receiving.SessionStage.{SessionStage}
use Rattle.http_session.specs.declared.receiving.SessionStage.TheVariants.{Body}
use Rattle.http_session.proofs.IncomingParts.{receives_finished}
use Rattle.http_session.proofs.receiving.receive_body.Goals as goal

pub returns-in-Complete-clause-incoming : goal.returns-in-Complete-clause-incoming
returns-in-Complete-clause-incoming c = λ text incoming.
    let part = subst (λ (s : SessionStage). HasReceived s text) c.in-Body.is incoming in
    receives_finished _ _ c.take_part.new.self (Body c.take_part.new.self) c.finish.new.stage c.finish.result refl c.finish.ensures.next
    (c.in-Complete.ensures.part text part) c.finish.ensures.finished
