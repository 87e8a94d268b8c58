use Rattle.std.proofs.Common.{rules, ◌∙◌, refl}
use Rattle.intake.specs.Turns.{WasEmpty}
use Rattle.intake.proofs.JudgedRuns.{ran-start, ran-on, still-empty, no-job-left}
use Rattle.intake.proofs.clerk.Clerk.run.Goals as goal

pub loop-init : goal.loop-init
loop-init g c = (ran-start _ _ c.accounts.ensures.each, refl, refl)

pub loop-preserved-in-Served-1 : goal.loop-preserved-in-Served-1
loop-preserved-in-Served-1 g c =
    let i = c.loop.invariant in
    let e = c.turn.ensures in
    let t = ran-on _ _ c.loop.clerk c.turn.new.self c.loop.keeper c.turn.new.keeper c.turn.result i.0 e.served e.unchanged in
    (t.0, t.1 ∙ i.1, t.2 ∙ i.2)

pub returns-in-Ok-Ended-clause-empty : goal.returns-in-Ok-Ended-clause-empty
returns-in-Ok-Ended-clause-empty g c =
    let empty = no-job-left c.turn.result (WasEmpty c.loop.clerk.ended c.loop.clerk.taken) (search rules) c.turn.ensures.empty in
    still-empty c.loop.clerk.ended c.leave.result.inbox.ended c.loop.clerk.taken c.leave.result.inbox.taken (search rules) (search rules) empty
