use Rattle.http_requests.proofs.Parts.{with_sink, none_taken, taken_in_turn}
use Rattle.http_requests.proofs.body_reader.BodyReader.take_from.Goals as goal

pub steps-init : goal.steps-init
steps-init g c = (with_sink g.S.Sink.takes g.met.S.Sink.takes_nothing _ _ _ _ _ _ (none_taken _ _ _ _ (λ of front fed part. part)), c.requires.looked)

pub returns-in-Some-clause-took : goal.returns-in-Some-clause-took
returns-in-Some-clause-took g c = taken_in_turn g.S.Sink.takes g.met.S.Sink.takes_joined _ _ _ _ c.steps.invariant.0 c.in-Some.ensures.took

pub steps-preserved : goal.steps-preserved
steps-preserved g c =
    (taken_in_turn g.S.Sink.takes g.met.S.Sink.takes_joined _ _ _ _ c.steps.invariant.0 c.in_default.ensures.took, c.in_default.ensures.awaits)
