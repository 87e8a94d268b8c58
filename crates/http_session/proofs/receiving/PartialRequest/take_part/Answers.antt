use Rattle.std.proofs.Common.{sym, ◌∙◌}
use Rattle.http_session.proofs.IncomingParts.{receives_whole, receives_malformed, receives_end_inside, receives_more}
use Rattle.http_session.proofs.receiving.PartialRequest.take_part.Goals as goal

pub returns-in-Complete-clause-part : goal.returns-in-Complete-clause-part
returns-in-Complete-clause-part c =
    λ text part. receives_whole c.args.self.now c.take_from.new.self text _ _ part c.in-Complete.ensures.closes c.in-Complete.ensures.took

pub returns-in-Invalid-clause-part : goal.returns-in-Invalid-clause-part
returns-in-Invalid-clause-part c =
    λ text part. receives_malformed c.args.self.now c.take_from.new.self text _ _ part c.in-Invalid.fault c.in-Invalid.ensures.took

pub returns-in-Partial-clause-part : goal.returns-in-Partial-clause-part
returns-in-Partial-clause-part c = λ text part.
    receives_end_inside c.args.self.now c.take_from.new.self text _ _ part c.in-Partial.ensures.closes c.in-Partial.ensures.took c.in-Partial.ensures.awaits
    (sym c.has_ended.ensures ∙ c.if-has_ended.true)

pub returns-in-Partial-2-clause-part : goal.returns-in-Partial-2-clause-part
returns-in-Partial-2-clause-part c =
    λ text part. receives_more c.args.self.now c.take_from.new.self text _ _ part c.in-Partial-2.ensures.closes c.in-Partial-2.ensures.took
