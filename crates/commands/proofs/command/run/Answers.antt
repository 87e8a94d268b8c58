use Rattle.std.proofs.Common.{inl, inr, refl, subst, map, List, Option, ℕ}
use Rattle.commands.specs.GetRuns.{output_of as get_output, status_for as get_status}
use Rattle.commands.specs.PlayRuns.{output_of as play_output, status_for as play_status}
use Rattle.session_devices.specs.Traffic.{traffic_of}
use Rattle.text_lines.specs.RunErrors.{RunsAs, expected_of}
use Rattle.commands.specs.CommandArguments.{AsksCommand}
use Rattle.commands.specs.declared.arguments.Command.TheVariants.{Get, Pipe, Play, Serve}
use Rattle.commands.specs.PipeRuns.{Pipes}
use Rattle.commands.specs.ServeRuns.{ServesOrNot}
use Rattle.commands.proofs.command.run.Goals as goal

pub returns-in_default : goal.returns-in_default
returns-in_default g c = inr (record {
  unread = refl;
  input_works = c.requires.input_works;
  fault = inr (inr (refl, c.requires.output_works));
  accepted = λ command a. refl;
  bad_trace = λ limits t e. absurd cc;
})

pub returns-in-Ok-Get : goal.returns-in-Ok-Get
returns-in-Ok-Get g c =
    let limits = c.in-Ok-Get.limits in
    let id = c.in-Ok-Get.trace in
    let does : Option (List ℕ) → Type 0 =
    λ w. RunsAs (traffic_of g.R.Input.remaining g.R.Input.has_failed c.args.input.now c.run_get.new.input)
    (record { before = w; after = g.W.Output.contents c.run_get.new.output; failed = g.W.Output.has_failed c.run_get.new.output })
    (expected_of (get_output limits id) (get_status limits id)) c.run_get.result in
    inl (
      Get limits id,
      subst (AsksCommand (map g.S.AsStr.text c.args.arguments.now)) c.in-Ok-Get.field-0-is c.in-Ok-Get.ensures.asked,
      subst does c.in-Ok-Get.ensures.silent c.run_get.ensures.runs,
    )

pub returns-in-Ok-Pipe : goal.returns-in-Ok-Pipe
returns-in-Ok-Pipe g c =
    let limits = c.in-Ok-Pipe.limits in
    let does : Option (List ℕ) → Type 0 =
    λ w. Pipes (traffic_of g.R.Input.remaining g.R.Input.has_failed c.args.input.now c.run_pipe.new.input)
    (record { before = w; after = g.W.Output.contents c.run_pipe.new.output; failed = g.W.Output.has_failed c.run_pipe.new.output }) limits c.run_pipe.result in
    inl (
      Pipe limits,
      subst (AsksCommand (map g.S.AsStr.text c.args.arguments.now)) c.in-Ok-Pipe.field-0-is c.in-Ok-Pipe.ensures.asked,
      subst does c.in-Ok-Pipe.ensures.silent c.run_pipe.ensures.pipes,
    )

pub returns-in-Ok-Play : goal.returns-in-Ok-Play
returns-in-Ok-Play g c =
    let limits = c.in-Ok-Play.limits in
    let does : Option (List ℕ) → Type 0 =
    λ w. RunsAs (traffic_of g.R.Input.remaining g.R.Input.has_failed c.args.input.now c.run_play.new.input)
    (record { before = w; after = g.W.Output.contents c.run_play.new.output; failed = g.W.Output.has_failed c.run_play.new.output })
    (expected_of (play_output limits) (play_status limits)) c.run_play.result in
    inl (
      Play limits,
      subst (AsksCommand (map g.S.AsStr.text c.args.arguments.now)) c.in-Ok-Play.field-0-is c.in-Ok-Play.ensures.asked,
      subst does c.in-Ok-Play.ensures.silent c.run_play.ensures.runs,
    )

pub returns-in-Ok-Serve : goal.returns-in-Ok-Serve
returns-in-Ok-Serve g c =
    let options = c.in-Ok-Serve.options in
    let does : Option (List ℕ) → Type 0 =
    λ w. ServesOrNot options
    (record { before = w; after = g.W.Output.contents c.run_serve.new.output; failed = g.W.Output.has_failed c.run_serve.new.output }) c.run_serve.result in
    inl (
      Serve options,
      subst (AsksCommand (map g.S.AsStr.text c.args.arguments.now)) c.in-Ok-Serve.field-0-is c.in-Ok-Serve.ensures.asked,
      (refl, c.requires.input_works, subst does c.in-Ok-Serve.ensures.silent c.run_serve.ensures),
    )

pub returns-in-Err : goal.returns-in-Err
returns-in-Err g c = inr (record {
  unread = refl;
  input_works = c.requires.input_works;
  fault = c.in-Err.ensures.status;
  accepted = c.in-Err.ensures.accepted;
  bad_trace = c.in-Err.ensures.bad_trace;
})
