-- What becomes of a line of input.
use Rattle.std.specs.Prelude.{ℕ, ◌==◌, ◌&&◌, Bool, not, List, filter, length, Option, Some, None, Result, Ok, Err, if◌then◌else◌}
use Rattle.jaeger_model.specs.declared.batch.Batch.{Batch}
use Rattle.batch_codec.specs.declared.hex_fault.HexFault.{HexFault}
use Rattle.batch_codec.specs.HexSpelling.{batch_in}
use Rattle.trace_model.specs.declared.admission.Admission.{Admission}
use Rattle.trace_model.specs.declared.entry.Entry.{Entry}
use Rattle.trace_model.specs.declared.refusal.Refusal.{Refusal}
use Rattle.trace_model.specs.LimitedHistories.{LimitedHistory}
use Rattle.trace_model.specs.Refusals.{admission, with_admitted}
use Rattle.span_store.specs.NextEntry.{next_entry}
use Rattle.commands.specs.declared.get.line_fault.LineFault.{LineFault}
use Rattle.commands.specs.declared.get.line_fault.LineFault.TheVariants.{NoBatch, Refused}

-- the byte is neither a space nor a tab
abbrev pub is_written : ℕ → Bool
is_written c = not (c == 32) && not (c == 9)

-- the line without its spaces and tabs
abbrev pub without_blanks : List ℕ → List ℕ
without_blanks line = filter is_written line

-- the batch of a line: none if it has only spaces and tabs
abbrev pub batch_on : List ℕ → Option (Result Batch HexFault)
batch_on line = if length (without_blanks line) == 0 then None else Some (batch_in (without_blanks line))

-- why a line can't be used, if it can't, and the store after it
pub record JudgedLine : Type 0 where
  pub fault : Option LineFault
  pub held : LimitedHistory

-- no fault if it is added, or if its batch was sent before and nothing is added
abbrev pub fault_by : Result Admission Refusal → Option LineFault
fault_by (Ok a) = None
fault_by (Err refusal) = Some (Refused refusal)

abbrev pub admitted : LimitedHistory → Entry → Result Admission Refusal → JudgedLine
admitted held entry answer = record { fault = fault_by answer; held = with_admitted held entry answer }

abbrev pub taken_in : LimitedHistory → Option (Result Batch HexFault) → JudgedLine
taken_in held None = record { fault = None; held = held }
taken_in held (Some (Err fault)) = record { fault = Some (NoBatch fault); held = held }
taken_in held (Some (Ok batch)) = admitted held (next_entry held batch) (admission held.limits held.entries (next_entry held batch))

-- a batch that was refused, or sent before, doesn't change the store
unfoldable pub judged_line : LimitedHistory → List ℕ → JudgedLine
judged_line held line = taken_in held (batch_on line)
