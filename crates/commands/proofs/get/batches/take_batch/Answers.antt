use Rattle.std.proofs.Common.{rules, ◌≡◌, ◌==◌, ◌∙◌, length, true, false, Ok, Err}
use Rattle.std.proofs.lemmas.Result.{IfOk-weaker}
use Rattle.batch_codec.specs.HexSpelling.{batch_in}
use Rattle.commands.specs.JudgedLines.{without_blanks}
use Rattle.commands.proofs.LineSteps.{line_skipped, line_refused, line_judged}
use Rattle.commands.proofs.get.batches.take_batch.Goals as goal

pub returns-then-is_empty : goal.returns-then-is_empty
returns-then-is_empty c =
    let none : (length (without_blanks c.args.line.now.items) == 0) ≡ true = search rules in
    line_skipped c.args.store.now c.args.line.now.items none

pub returns-in-Err : goal.returns-in-Err
returns-in-Err c =
    let some : (length (without_blanks c.args.line.now.items) == 0) ≡ false = search rules in
    let is : Err c.in-Err.fault ≡ batch_in (without_blanks c.args.line.now.items) = search rules in
    line_refused c.args.store.now c.args.line.now.items c.in-Err.fault some is

pub returns-in-Ok : goal.returns-in-Ok
returns-in-Ok c =
    let some : (length (without_blanks c.args.line.now.items) == 0) ≡ false = search rules in
    let is : Ok c.in-Ok.batch ≡ batch_in (without_blanks c.args.line.now.items) = search rules in
    IfOk-weaker c.admit.result _ _ (λ fault e. e ∙ line_judged c.args.store.now c.args.line.now.items c.in-Ok.batch some is) c.admit.ensures
