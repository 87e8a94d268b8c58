use Rattle.http_requests.proofs.Parts.{with_sink, none_taken, at_stage, refused_breaks}
use Rattle.http_requests.proofs.body_reader.BodyReader.step.Goals as goal

pub returns-in-Unreadable-clause-took : goal.returns-in-Unreadable-clause-took
returns-in-Unreadable-clause-took g c =
    with_sink g.S.Sink.takes g.met.S.Sink.takes_nothing _ _ _ _ _ _
    (none_taken _ _ _ _ (λ of front fed part.
    refused_breaks of c.in-Unreadable.why front fed _ _ (at_stage of front fed c.args.self.now _ c.in-Unreadable.is part)))
