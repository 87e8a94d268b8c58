use Rattle.std.proofs.Common.{◌≡◌}
use Rattle.http_requests.specs.PartialRequests.{HasLooked, TakesPart}
use Rattle.http_requests.specs.AwaitedReads.{source_of}
use Rattle.http_requests.specs.Bodies.{body_moment, body_call}
use Rattle.http_requests.proofs.bodies.read_body.Given as goal

abbrev pub invariant-reads : goal.invariant-reads
invariant-reads g l =
    TakesPart (body_call g.S.Sink.takes (source_of g.R.Input.remaining g.R.Input.gives) l.fn.body_length)
    (body_moment l.initial.input l.initial.received l.initial.sink) (body_moment l.input l.received l.sink) l.reader
    × (g.R.Input.has_failed l.input ≡ g.R.Input.has_failed l.initial.input)
    × HasLooked l.reader l.received.held

abbrev pub decreases-reads : goal.decreases-reads
decreases-reads g l = l.received.reads_left
