use Rattle.std.proofs.Common.{take, sym, subst}
use Rattle.http_requests.specs.ReceivedBytes.{ReadBuffer}
use Rattle.http_session.specs.IncomingRequests.{HasReceived, ReceivesOf}
use Rattle.http_session.specs.declared.receiving.SessionStage.{SessionStage}
use Rattle.http_session.proofs.IncomingParts.{begins_request, cut_back}
use Rattle.http_session.proofs.receiving.receive_head.Goals as goal

pub returns-in_ok-question-in-Complete-clause-incoming : goal.returns-in_ok-question-in-Complete-clause-incoming
returns-in_ok-question-in-Complete-clause-incoming c =
    let old = c.args.received.now in
    let n = c.in-Complete.found.len in
    let frames = rw c.as_slice.ensures at c.in-Complete.ensures.found in
    let asks = rw c.as_slice-in-Complete.ensures at c.in_ok-question-in-Complete.ensures.asks in
    let part = begins_request old.held c.in-Complete.found c.in_ok-question-in-Complete.question c.new-partial.result frames asks
    c.new-partial.ensures.part c.new-partial.ensures.judged c.new-partial.ensures.closes in
    let incoming = subst (λ (s : SessionStage). HasReceived s (take n old.held)) (sym c.assign.ensures) part in
    subst (λ (b : ReadBuffer). ReceivesOf b c.receive_body.new.received c.receive_body.new.stage c.receive_body.result)
    (cut_back old c.take.new.self n c.take.ensures) (c.receive_body.ensures.incoming (take n old.held) incoming)
