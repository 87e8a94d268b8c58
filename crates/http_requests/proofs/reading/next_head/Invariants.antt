use Rattle.std.proofs.Common.{◌≡◌}
use Rattle.http_requests.specs.Heads.{AwaitsHead}
use Rattle.http_requests.specs.PartialRequests.{HasSeen}
use Rattle.http_requests.specs.AwaitedReads.{source_of}
use Rattle.http_requests.specs.ReceivedBytes.{ReadsOnWhile, read_moment}
use Rattle.http_requests.proofs.reading.next_head.Given as goal

abbrev pub invariant-reads : goal.invariant-reads
invariant-reads g l =
    ReadsOnWhile (source_of g.R.Input.remaining g.R.Input.gives) AwaitsHead
    (read_moment l.initial.input l.initial.received) (read_moment l.input l.received)
    × (g.R.Input.has_failed l.input ≡ g.R.Input.has_failed l.initial.input)
    × HasSeen l.wait l.received.held

abbrev pub decreases-reads : goal.decreases-reads
decreases-reads g l = l.received.reads_left
