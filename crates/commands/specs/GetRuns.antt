-- What `get` writes for an input.
use Rattle.std.specs.Prelude.{◌≡◌, ℕ, Bool, true, false, List, [], ◌++◌, flat_map, Option, Some, None, is_some, codes}
use Rattle.std.specs.Fmt.{decimal, signed_decimal}
use Rattle.jaeger_model.specs.declared.ids.TraceId.{TraceId}
use Rattle.jaeger_model.specs.declared.placed.Placed.{Placed}
use Rattle.jaeger_model.specs.Ids.{trace_text, span_text}
use Rattle.trace_model.specs.declared.answer.Shown.{Shown}
use Rattle.trace_model.specs.declared.limits.Limits.{Limits}
use Rattle.trace_model.specs.LimitedHistories.{LimitedHistory}
use Rattle.trace_model.specs.Histories.{events}
use Rattle.trace_model.specs.ShownSpans.{trace_found}
use Rattle.text_lines.specs.declared.exit_status.ExitStatus.{ExitStatus}
use Rattle.text_lines.specs.declared.exit_status.ExitStatus.TheVariants.{Success, NotFound, FaultyLine}
use Rattle.text_lines.specs.Lines.{lines_of}
use Rattle.text_lines.specs.HandledLines.{LineReply, LineResult, HandlesLine}
use Rattle.text_lines.specs.LineResults.{result_of_lines}
use Rattle.commands.specs.LineFaults.{line_fault_text}
use Rattle.commands.specs.declared.get.line_fault.LineFault.{LineFault}
use Rattle.commands.specs.JudgedLines.{JudgedLine, judged_line}

-- ---- the lines

abbrev pub fault_line : ℕ → Option LineFault → List ℕ
fault_line n None = []
fault_line n (Some fault) = codes "line " ++ decimal n ++ codes ": " ++ line_fault_text fault ++ codes "\n"

-- the reply to a line
abbrev pub said_to : ℕ → JudgedLine → LineReply
said_to n j = record { text = fault_line n j.fault; faulty = is_some j.fault }

-- the result of the line with the number n
abbrev pub line_result : ℕ → LimitedHistory → List ℕ → LineResult LimitedHistory
line_result n held line = record { reply = said_to n (judged_line held line); held = (judged_line held line).held }

abbrev pub TakesBatch : HandlesLine LimitedHistory
TakesBatch held n line reply after = (after ≡ (line_result n held line).held) × (reply ≡ (line_result n held line).reply)

-- ---- the trace

abbrev pub ids_text : Placed → List ℕ
ids_text p = trace_text p.span.trace ++ codes " " ++ span_text p.span.id ++ codes " "

abbrev pub times_text : Placed → List ℕ
times_text p = signed_decimal p.span.start ++ codes " " ++ signed_decimal p.span.duration ++ codes " "

abbrev pub names_text : Placed → List ℕ
names_text p = p.process.service ++ codes " " ++ p.span.operation ++ codes "\n"

-- trace, span, start, duration, service and operation
abbrev pub span_line : Placed → List ℕ
span_line p = ids_text p ++ times_text p ++ names_text p

abbrev pub shown_line : Shown → List ℕ
shown_line s = span_line s.placed

abbrev pub trace_lines : Option (List Placed) → List ℕ
trace_lines None = codes "trace not found\n"
trace_lines (Some spans) = flat_map span_line spans

abbrev pub trace_by_id : LimitedHistory → TraceId → Option (List Placed)
trace_by_id held id = trace_found held.limits.traces (events held.entries) id

-- ---- the complete run

abbrev pub nothing_held : Limits → LimitedHistory
nothing_held limits = record { limits = limits; entries = [] }

-- the result of the lines
abbrev pub all_lines : Limits → List (List ℕ) → LineResult LimitedHistory
all_lines limits lines = result_of_lines line_result 1 (nothing_held limits) lines

-- a line for each line that can't be used, and then the spans of the trace
abbrev pub output_of : Limits → TraceId → List ℕ → List ℕ
output_of limits id input =
    let all = all_lines limits (lines_of input) in
    all.reply.text ++ trace_lines (trace_by_id all.held id)

-- a line couldn't be used; otherwise whether the trace was found
abbrev pub status_at : Bool → Bool → ExitStatus
status_at true found = FaultyLine
status_at false true = Success
status_at false false = NotFound

abbrev pub status_for : Limits → TraceId → List ℕ → ExitStatus
status_for limits id input =
    let all = all_lines limits (lines_of input) in
    status_at all.reply.faulty (is_some (trace_by_id all.held id))
