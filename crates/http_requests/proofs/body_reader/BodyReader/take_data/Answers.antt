use Rattle.std.proofs.Common.{ap, length, arith}
use Rattle.std.proofs.lemmas.List.{length-drop}
use Rattle.http_requests.specs.ReceivedBytes.{ReadBuffer}
use Rattle.http_requests.proofs.ChunkParts.{shorter}
use Rattle.http_requests.proofs.Parts.{data_taken, at_stage, data_then, some_put}
use Rattle.http_requests.proofs.body_reader.BodyReader.take_data.Goals as goal

pub returns-then-put-count-clause-took : goal.returns-then-put-count-clause-took
returns-then-put-count-clause-took g c =
    let long = some_put c.args.count c.args.received.now.held c.push_some-put.result c.push_some-put.ensures.count in
    data_taken g.S.Sink.takes _ _ _ _ _ _ _ c.push_some-put.result c.push_some-put.ensures.put c.push_some-put.ensures.rest
    (λ of front fed part. data_then of front fed _ _ c.args.count _ (at_stage of front fed c.args.self.now _ c.requires.stage part)
    (omega (arith, long, c.push_some-put.ensures.count)))

pub returns-else-put-count-clause-took : goal.returns-else-put-count-clause-took
returns-else-put-count-clause-took g c =
    let long = some_put c.args.count c.args.received.now.held c.push_some-put.result c.push_some-put.ensures.count in
    data_taken g.S.Sink.takes _ _ _ _ _ _ _ c.push_some-put.result c.push_some-put.ensures.put c.push_some-put.ensures.rest
    (λ of front fed part. data_then of front fed _ _ c.args.count _ (at_stage of front fed c.args.self.now _ c.requires.stage part)
    (omega (arith, long, c.push_some-put.ensures.count)))

pub returns-else-put-count-clause-awaits : goal.returns-else-put-count-clause-awaits
returns-else-put-count-clause-awaits g c =
    shorter _ _ (omega (
      arith,
      c.push_some-put.ensures.count,
      c.if-put-count.false,
      ap (λ (b : ReadBuffer). length b.held) c.push_some-put.ensures.rest,
      length-drop c.push_some-put.result c.args.received.now.held,
    ))
