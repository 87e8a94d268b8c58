use Rattle.std.proofs.Common.{arith}
use Rattle.http_requests.proofs.Parts.{data_taken, at_stage, length_then, length_ends, some_put}
use Rattle.http_requests.proofs.body_reader.BodyReader.take_length.Goals as goal

pub returns-then-put-count-clause-took : goal.returns-then-put-count-clause-took
returns-then-put-count-clause-took g c =
    let long = some_put c.args.count c.args.received.now.held c.push_some-put.result c.push_some-put.ensures.count in
    data_taken g.S.Sink.takes _ _ _ _ _ _ _ c.push_some-put.result c.push_some-put.ensures.put c.push_some-put.ensures.rest
    (λ of front fed part. length_ends of front fed _ _ c.args.count (at_stage of front fed c.args.self.now _ c.requires.stage part)
    (omega (arith, long, c.if-put-count.true)))

pub returns-clause-took : goal.returns-clause-took
returns-clause-took g c =
    let long = some_put c.args.count c.args.received.now.held c.push_some-put.result c.push_some-put.ensures.count in
    data_taken g.S.Sink.takes _ _ _ _ _ _ _ c.push_some-put.result c.push_some-put.ensures.put c.push_some-put.ensures.rest
    (λ of front fed part. length_then of front fed _ _ c.args.count _ (at_stage of front fed c.args.self.now _ c.requires.stage part)
    (omega (arith, long, c.push_some-put.ensures.count)))
