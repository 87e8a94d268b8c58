use Rattle.std.proofs.Common.{length, None}
use Rattle.http_requests.specs.PartialRequests.{HasLooked, ContinuesBody, reader_moment}
use Rattle.http_requests.proofs.body_reader.BodyReader.take_from.Given as goal

abbrev pub invariant-steps : goal.invariant-steps
invariant-steps g l =
    ContinuesBody g.S.Sink.takes (reader_moment l.initial.self l.initial.received l.initial.sink)
    (reader_moment l.self l.received l.sink) None
    × HasLooked l.self l.received.held

abbrev pub decreases-steps : goal.decreases-steps
decreases-steps g l = length l.received.held
