use Rattle.std.proofs.Common.{sym, subst}
use Rattle.http_session.specs.IncomingRequests.{Carries}
use Rattle.http_session.specs.declared.receiving.BodySink.{BodySink}
use Rattle.http_session.specs.declared.receiving.BodySink.TheVariants.{Batch}
use Rattle.http_session.proofs.IncomingParts.{put_as, batch_carries}
use Rattle.http_session.proofs.receiving.PartialRequest.take_from.Goals as goal

pub returns-in-Batch-clause-took : goal.returns-in-Batch-clause-took
returns-in-Batch-clause-took c =
    let after = c.take_from-in-Batch.new.sink in
    put_as _ Carries _ _ _ _ _ _ _ _ _
    (λ content follows. subst (λ (s : BodySink). Carries s content (Batch after)) (sym c.in-Batch.is) (batch_carries c.in-Batch.body after content follows))
    c.take_from-in-Batch.ensures.took
