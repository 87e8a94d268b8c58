use Rattle.std.proofs.Common.{List, subst, sym, ap, ◌∙◌}
use Rattle.trace_model.specs.declared.entry.Entry.{Entry}
use Rattle.read_side.specs.Keepers.{accepted}
use Rattle.intake.specs.Denials.{IsReasonBy}
use Rattle.intake.proofs.TrueDenials.{refused-left-out}
use Rattle.intake.proofs.clerk.judge_entry.Goals as goal

pub returns-in_default-clause-denied : goal.returns-in_default-clause-denied
returns-in_default-clause-denied g c =
    let why = c.refusal_without_receipt.result in
    let out = refused-left-out g.N.StoreName.limits c.receipt.new.self c.args.recorded why c.receipt.new.self c.refusal_without_receipt.ensures in
    let same = ap accepted c.receipt.ensures.same ∙ sym c.history-accepted.ensures in
    subst (λ (list : List Entry). IsReasonBy g.N.StoreName.limits list c.args.recorded why) same out

pub returns-in-Err-clause-denied : goal.returns-in-Err-clause-denied
returns-in-Err-clause-denied g c =
    let why = c.in-Err.refusal in
    let out = refused-left-out g.N.StoreName.limits c.receipt.new.self c.args.recorded why c.admit_record.new.self c.in-Err.ensures.refused in
    let same = ap accepted c.receipt.ensures.same ∙ sym c.history-accepted.ensures in
    subst (λ (list : List Entry). IsReasonBy g.N.StoreName.limits list c.args.recorded why) same out
