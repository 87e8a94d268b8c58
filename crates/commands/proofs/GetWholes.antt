-- A run of `get`, from what its lines come to.
use Rattle.std.proofs.Common.{◌≡◌, ℕ, Bool, false, List, ◌++◌, Option, is_some, sym, ap, ◌∙◌, subst, append_assoc}
use Rattle.std.specs.Io.KnownBytes.{Appends}
use Rattle.std.proofs.KnownBytes.{Appends-trans}
use Rattle.jaeger_model.specs.declared.ids.TraceId.{TraceId}
use Rattle.session_devices.specs.Traffic.{Traffic}
use Rattle.trace_model.specs.declared.limits.Limits.{Limits}
use Rattle.trace_model.specs.LimitedHistories.{LimitedHistory}
use Rattle.text_lines.specs.declared.exit_status.ExitStatus.{ExitStatus}
use Rattle.text_lines.specs.declared.run_error.RunError.{RunError}
use Rattle.text_lines.specs.Lines.{lines_of}
use Rattle.text_lines.specs.RunErrors.{Expected, IsWhyOf, RunsToTheEnd, RunsUpTo, WritesSome, expected_of, status_by}
use Rattle.text_lines.specs.HandledLines.{AnswersAll, AnswersSome, LineReply, LineResult, LineRun, TakesEach, handling_of, numbered, run_of}
use Rattle.text_lines.proofs.LineResults.{lines_come_to, said_append}
use Rattle.text_lines.proofs.CompleteRuns.{some_after, some_more, stops_all, stops_some}
use Rattle.commands.specs.GetRuns.{TakesBatch, all_lines, trace_by_id, line_result, nothing_held, output_of, status_at, status_for, trace_lines}

abbrev moved : Option (List ℕ) → Option (List ℕ) → Bool → Traffic
moved before after failed = record { before = before; after = after; failed = failed }

-- what lines come to, taken one after the other
lines_judged : (s : LimitedHistory) (limits : Limits) (lines : List (List ℕ)) (result : LineResult LimitedHistory) → s ≡ nothing_held limits
    → TakesEach TakesBatch s (numbered 1 lines) result
    → (result.held ≡ (all_lines limits lines).held) × (result.reply ≡ (all_lines limits lines).reply)
lines_judged s limits lines result start e =
    lines_come_to line_result (λ (a b : LimitedHistory). a ≡ b) TakesBatch each s (nothing_held limits) 1 lines result start e
  where
    each : (w : LimitedHistory) (n : ℕ) (line : List ℕ) (reply : LineReply) (v : LimitedHistory) → TakesBatch w n line reply v → (s : LimitedHistory) → w ≡ s
        → (v ≡ (line_result n s line).held) × (reply ≡ (line_result n s line).reply)
    each w n line reply v e s same = (e.0 ∙ ap (λ h. (line_result n h line).held) same, e.1 ∙ ap (λ h. (line_result n h line).reply) same)

abbrev expected : Limits → TraceId → Expected
expected limits id = expected_of (output_of limits id) (status_for limits id)

abbrev lines_run : Traffic → Traffic → LimitedHistory → LimitedHistory → LineRun LimitedHistory
lines_run input output held0 held1 = run_of (handling_of TakesBatch held0 held1) input output

module _ (input : Traffic) (out0 out1 out2 : Option (List ℕ)) (o1 o2 : Bool) (limits : Limits) (id : TraceId) (held0 held1 : LimitedHistory)
    (faulty : Bool) where
  pub finishes : held0 ≡ nothing_held limits → AnswersAll (lines_run input (moved out0 out1 o1) held0 held1) faulty → (found : Bool) (status : ExitStatus)
      → found ≡ is_some (trace_by_id held1 id) → Appends out1 out2 (trace_lines (trace_by_id held1 id))
      → status ≡ status_at faulty found → input.failed ≡ false → o2 ≡ false
      → RunsToTheEnd input (moved out0 out2 o2) (expected limits id) status
  finishes start a found status f reply s input_works output_works =
      let lines = lines_of a.all.bytes in
      let all : LineResult LimitedHistory = all_lines limits lines in
      let r = lines_judged held0 limits lines (record { reply = a.all.reply; held = held1 }) start a.all.each in
      record {
        bytes = a.all.bytes;
        read = a.all.read;
        whole = a.all.whole;
        written = subst (Appends out0 out2) (λ k. (r.1 k).text ++ trace_lines (trace_by_id (r.0 k) id)) (Appends-trans out0 out1 out2 _ _ a.written reply);
        status_is =
            s ∙ ap (λ b. status_at b found) (a.all.faulty_is ∙ ap (λ (x : LineReply). x.faulty) r.1)
            ∙ ap (status_at all.reply.faulty) (f ∙ ap (λ x. is_some (trace_by_id x id)) r.0);
        input_works = input_works;
        output_works = output_works;
      }

  -- the lines of the trace were not written whole
  pub stops_late : held0 ≡ nothing_held limits → AnswersAll (lines_run input (moved out0 out1 o1) held0 held1) faulty → (h : RunError)
      → WritesSome out1 out2 (trace_lines (trace_by_id held1 id)) → IsWhyOf h o2 → input.failed ≡ false
      → RunsUpTo input (moved out0 out2 o2) (expected limits id) (status_by h)
  stops_late start a h some why input_works =
      let r = lines_judged held0 limits (lines_of a.all.bytes) (record { reply = a.all.reply; held = held1 }) start a.all.each in
      let whole : a.all.reply.text ++ trace_lines (trace_by_id held1 id) ≡ output_of limits id a.all.bytes =
      λ k. (r.1 k).text ++ trace_lines (trace_by_id (r.0 k) id) in
      stops_all (lines_run input (moved out0 out1 o1) held0 held1) out2 faulty o2 h (expected limits id) a
      (subst (WritesSome out0 out2) whole (some_after out0 out1 out2 _ _ a.written some)) why input_works

-- not all lines were taken
pub stops_early : (input output : Traffic) (limits : Limits) (id : TraceId) (held0 held1 : LimitedHistory) → held0 ≡ nothing_held limits → (h : RunError)
    → AnswersSome (lines_run input output held0 held1) h → RunsUpTo input output (expected limits id) (status_by h)
stops_early input output limits id held0 held1 start h a =
    let all = a.first.taken ++ a.first.rest in
    let r = lines_judged held0 limits a.first.lines (record { reply = a.first.reply; held = a.first.last }) start a.first.each in
    let more = said_append line_result 1 (nothing_held limits) a.first.lines a.first.others in
    let tail = trace_lines (trace_by_id (all_lines limits (lines_of all)).held id) in
    let whole : output_of limits id all ≡ a.first.reply.text ++ (more.0 ++ tail) =
    ap (λ ls. (all_lines limits ls).reply.text ++ tail) a.first.split ∙ ap (λ x. x ++ tail) more.1
    ∙ append_assoc (all_lines limits a.first.lines).reply.text more.0 tail
    ∙ ap (λ (x : LineReply). x.text ++ (more.0 ++ tail)) (sym r.1) in
    stops_some (lines_run input output held0 held1) h (expected limits id) a
    (some_more output.before output.after a.first.reply.text (more.0 ++ tail) (output_of limits id all) whole a.written)
