-- What a run of the program does.
use Rattle.std.specs.Prelude.{◌≡◌, false, List, codes, ◌⊎◌}
use Rattle.std.specs.Io.KnownBytes.{Appends}
use Rattle.clap.specs.Words.{Text}
use Rattle.trace_model.specs.declared.limits.Limits.{Limits}
use Rattle.text_lines.specs.declared.exit_status.ExitStatus.{ExitStatus}
use Rattle.text_lines.specs.declared.exit_status.ExitStatus.TheVariants.{Usage, OutOfMemory}
use Rattle.session_devices.specs.Traffic.{Traffic}
use Rattle.text_lines.specs.RunErrors.{RunsAs, expected_of}
use Rattle.commands.specs.GetRuns.{output_of as get_output, status_for as get_status}
use Rattle.commands.specs.PlayRuns.{output_of as play_output, status_for as play_status}
use Rattle.commands.specs.Arguments.{IsFaultOf, TakesGet}
use Rattle.commands.specs.CommandArguments.{Accepts, AsksCommand}
use Rattle.commands.specs.declared.arguments.Command.{Command}
use Rattle.commands.specs.declared.arguments.Command.TheVariants.{Get, Pipe, Play, Serve}
use Rattle.commands.specs.PipeRuns.{Pipes}
use Rattle.commands.specs.ServeRuns.{ServesOrNot}

-- what the command writes for its input, and its status
abbrev pub Does : Command → Traffic → Traffic → ExitStatus → Type 0
Does (Get limits id) input output status = RunsAs input output (expected_of (get_output limits id) (get_status limits id)) status
Does (Pipe limits) input output status = Pipes input output limits status
Does (Play limits) input output status = RunsAs input output (expected_of (play_output limits) (play_status limits)) status
Does (Serve options) input output status =
    (input.after ≡ input.before) × (input.failed ≡ false) × ServesOrNot options output status

-- no command was run: nothing was read, and the arguments were answered
pub record AnswersArguments (arguments : List Text) (input output : Traffic) (status : ExitStatus) : Type 0 where
  pub unread : input.after ≡ input.before
  pub input_works : input.failed ≡ false
  pub fault : IsFaultOf status output.failed
  pub accepted : (command : Command) → Accepts arguments command → status ≡ OutOfMemory
  pub bad_trace : (limits : Limits) → TakesGet arguments limits → status ≡ Usage → Appends output.before output.after (codes "bad trace id\n")

-- the command of the arguments was run, or the arguments were answered with a fault
abbrev pub Runs : List Text → Traffic → Traffic → ExitStatus → Type 0
Runs arguments input output status =
    ((command : Command) × AsksCommand arguments command × Does command input output status) ⊎ AnswersArguments arguments input output status
