use Rattle.std.proofs.Common.{rules, ◌≡◌, ◌==◌, length, true, false, Ok, Err, sym, ap, ◌∙◌, subst}
use Rattle.step_lines.specs.Steps.{step_in}
use Rattle.commands.specs.PlayRuns.{MakesStep, play_moment}
use Rattle.commands.proofs.PlayLines.{line_faulty, line_played, line_skipped}
use Rattle.commands.proofs.play.script.ScriptLineHandler.handle_line.Goals as goal

pub returns-then-is_empty : goal.returns-then-is_empty
returns-then-is_empty c =
    let none : (length c.args.line.now.items == 0) ≡ true = search rules in
    line_skipped c.args.self.now c.args.number c.args.line.now.items c.args.reply.now.items c.requires none

pub returns-in_ok-play_step-in-Ok : goal.returns-in_ok-play_step-in-Ok
returns-in_ok-play_step-in-Ok c =
    let some : (length c.args.line.now.items == 0) ≡ false = search rules in
    let is : Ok c.in-Ok.step ≡ step_in c.args.line.now.items = sym c.in-Ok.is ∙ c.in_ok-step.ensures ∙ ap step_in c.as_slice.ensures.value in
    line_played c.args.self.now c.play_step.new.world c.args.number c.args.line.now.items c.args.reply.now.items c.play_step.new.reply.items c.in-Ok.step
    c.requires
    some is (subst (λ w. MakesStep (play_moment c.args.reply.now.items w) (play_moment c.play_step.new.reply.items c.play_step.new.world) c.in-Ok.step)
    c.self.view_is c.in_ok-play_step-in-Ok.ensures)

pub returns-in_ok-write_fault-in-Err : goal.returns-in_ok-write_fault-in-Err
returns-in_ok-write_fault-in-Err c =
    let some : (length c.args.line.now.items == 0) ≡ false = search rules in
    let is : Err c.in-Err.fault ≡ step_in c.args.line.now.items = sym c.in-Err.is ∙ c.in_ok-step.ensures ∙ ap step_in c.as_slice.ensures.value in
    line_faulty c.args.self.now c.args.number c.args.line.now.items c.args.reply.now.items c.write_fault.new.reply.items c.in-Err.fault c.requires
    some is c.in_ok-write_fault-in-Err.ensures
