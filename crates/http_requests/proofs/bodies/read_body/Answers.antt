use Rattle.std.proofs.Common.{◌∙◌, refl, sym}
use Rattle.std.proofs.lemmas.Result.{err_from_is_err_and}
use Rattle.http_requests.specs.AwaitedReads.{source_of}
use Rattle.http_requests.proofs.Parts.{has_looked}
use Rattle.http_requests.proofs.PartByPart.{begins_body, more_body, malformed_body, ended_body, body_read_on, body_stops_there}
use Rattle.http_requests.proofs.bodies.read_body.Goals as goal

pub reads-init : goal.reads-init
reads-init g c = (
  begins_body g.S.Sink.takes (source_of g.R.Input.remaining g.R.Input.gives) g.met.S.Sink.takes_nothing _ _ _ _ _ c.new-reader.ensures.part,
  refl,
  c.new-reader.ensures.looked _,
)

pub returns-in-Invalid-clause-body : goal.returns-in-Invalid-clause-body
returns-in-Invalid-clause-body g c =
    malformed_body g.S.Sink.takes (source_of g.R.Input.remaining g.R.Input.gives)
    g.met.S.Sink.takes_joined _ _ _ _ _ _ _ c.take_from.new.sink _ _ c.take_from.new.self c.reads.invariant.0 c.in-Invalid.why c.in-Invalid.ensures.took

pub returns-in-Partial-clause-body : goal.returns-in-Partial-clause-body
returns-in-Partial-clause-body g c =
    let part = more_body g.S.Sink.takes (source_of g.R.Input.remaining g.R.Input.gives)
    g.met.S.Sink.takes_joined _ _ _ _ _ _ _ _ _ _ _ c.reads.invariant.0 c.in-Partial.ensures.took in
    let at_end = part.reads.on.end c.requires.end (sym c.has_ended.ensures ∙ c.if-has_ended.true) in
    ended_body g.S.Sink.takes (source_of g.R.Input.remaining g.R.Input.gives)
    _ _ c.reads.input _ _ c.take_from.new.received _ _ _ _ part c.in-Partial.ensures.awaits at_end

pub reads-preserved : goal.reads-preserved
reads-preserved g c =
    let part = more_body g.S.Sink.takes (source_of g.R.Input.remaining g.R.Input.gives)
    g.met.S.Sink.takes_joined _ _ _ _ _ _ _ _ _ _ _ c.reads.invariant.0 c.in-Partial-2.ensures.took in
    let read = c.in_ok-read_more-in-Partial-2.ensures in (
      body_read_on g.S.Sink.takes (source_of g.R.Input.remaining g.R.Input.gives) _ _ _ _ _ _ _ _ _ _ part c.in-Partial-2.ensures.awaits read.ok read.read,
      read.same ∙ c.reads.invariant.1,
      has_looked c.take_from.new.self c.take_from.new.received.held c.read_more.new.self.held read.read.0 read.read.2 c.in-Partial-2.ensures.awaits,
    )

pub returns-in_err-read_more-in-Partial-2-clause-err : goal.returns-in_err-read_more-in-Partial-2-clause-err
returns-in_err-read_more-in-Partial-2-clause-err g c =
    let part = more_body g.S.Sink.takes (source_of g.R.Input.remaining g.R.Input.gives)
    g.met.S.Sink.takes_joined _ _ _ _ _ _ _ _ _ _ _ c.reads.invariant.0 c.in-Partial-2.ensures.took in
    let p = err_from_is_err_and c.from_residual.result c.from_residual.ensures.1 in
    rw (p.1, p.2) (body_stops_there g.S.Sink.takes (source_of g.R.Input.remaining g.R.Input.gives)
    _ _ _ _ _ c.take_from.new.received _ _ _ _ part c.in-Partial-2.ensures.awaits _ _ c.in_err-read_more-in-Partial-2.ensures.err)
