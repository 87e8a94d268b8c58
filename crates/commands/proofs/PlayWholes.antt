-- A run of `play`, from what its lines come to.
use Rattle.std.proofs.Common.{◌≡◌, ℕ, Bool, false, List, ◌++◌, Option, sym, ap, ◌∙◌, subst}
use Rattle.std.specs.Io.KnownBytes.{Appends}
use Rattle.session_devices.specs.Traffic.{Traffic}
use Rattle.trace_model.specs.declared.limits.Limits.{Limits}
use Rattle.schedule_core.specs.Machine.{Machine, new_machine}
use Rattle.text_lines.specs.declared.exit_status.ExitStatus.{ExitStatus}
use Rattle.text_lines.specs.declared.run_error.RunError.{RunError}
use Rattle.text_lines.specs.Lines.{lines_of}
use Rattle.text_lines.specs.RunErrors.{RunsToTheEnd, RunsUpTo, expected_of, status_by}
use Rattle.text_lines.specs.HandledLines.{AnswersAll, AnswersSome, LineReply, LineResult, TakesEach, handling_of, numbered, run_of}
use Rattle.text_lines.proofs.LineResults.{lines_come_to, said_append}
use Rattle.text_lines.proofs.CompleteRuns.{some_more, stops_some}
use Rattle.commands.specs.PlayRuns.{IsMachineAt, TakesStep, all_played, output_of, played, status_at, status_for}

-- what lines come to, taken one after the other
lines_played : (w : Option Machine) (limits : Limits) (lines : List (List ℕ)) (result : LineResult (Option Machine)) → IsMachineAt w (new_machine limits)
    → TakesEach TakesStep w (numbered 1 lines) result → result.reply ≡ (all_played limits lines).reply
lines_played w limits lines result stands e =
    let r = lines_come_to played IsMachineAt TakesStep (λ w n line reply v takes m at. takes m at) w (new_machine limits) 1 lines result stands e in
    r.1

module _ (input output : Traffic) (limits : Limits) (w0 w1 : Option Machine) where
  pub finishes : IsMachineAt w0 (new_machine limits) → (faulty : Bool) → AnswersAll (run_of (handling_of TakesStep w0 w1) input output) faulty
      → (status : ExitStatus) → status ≡ status_at faulty → input.failed ≡ false → output.failed ≡ false
      → RunsToTheEnd input output (expected_of (output_of limits) (status_for limits)) status
  finishes stands faulty a status is input_works output_works =
      let r = lines_played w0 limits (lines_of a.all.bytes) (record { reply = a.all.reply; held = w1 }) stands a.all.each in
      record {
        bytes = a.all.bytes;
        read = a.all.read;
        whole = a.all.whole;
        written = subst (Appends output.before output.after) (ap (λ (x : LineReply). x.text) r) a.written;
        status_is = is ∙ ap status_at (a.all.faulty_is ∙ ap (λ (x : LineReply). x.faulty) r);
        input_works = input_works;
        output_works = output_works;
      }

  pub stops : IsMachineAt w0 (new_machine limits) → (h : RunError) → AnswersSome (run_of (handling_of TakesStep w0 w1) input output) h
      → (status : ExitStatus) → status ≡ status_by h → RunsUpTo input output (expected_of (output_of limits) (status_for limits)) status
  stops stands h a status is =
      let r = lines_played w0 limits a.first.lines (record { reply = a.first.reply; held = a.first.last }) stands a.first.each in
      let more = said_append played 1 (new_machine limits) a.first.lines a.first.others in
      let whole : output_of limits (a.first.taken ++ a.first.rest) ≡ a.first.reply.text ++ more.0 =
      ap (λ ls. (all_played limits ls).reply.text) a.first.split ∙ more.1 ∙ ap (λ (x : LineReply). x.text ++ more.0) (sym r) in
      rw is (stops_some (run_of (handling_of TakesStep w0 w1) input output) h (expected_of (output_of limits) (status_for limits)) a
      (some_more output.before output.after a.first.reply.text more.0 (output_of limits (a.first.taken ++ a.first.rest)) whole a.written))
