-- What becomes of a line, step by step.
use Rattle.std.proofs.Common.{◌≡◌, ℕ, ◌==◌, true, false, List, length, Some, None, Ok, Err, refl}
use Rattle.jaeger_model.specs.declared.batch.Batch.{Batch}
use Rattle.batch_codec.specs.declared.hex_fault.HexFault.{HexFault}
use Rattle.batch_codec.specs.HexSpelling.{batch_in}
use Rattle.trace_model.specs.LimitedHistories.{LimitedHistory}
use Rattle.trace_model.specs.Refusals.{admission}
use Rattle.span_store.specs.NextEntry.{next_entry}
use Rattle.commands.specs.declared.get.line_fault.LineFault.TheVariants.{NoBatch}
use Rattle.commands.specs.JudgedLines.{admitted, judged_line, without_blanks}

pub line_skipped : (held : LimitedHistory) (line : List ℕ) → (length (without_blanks line) == 0) ≡ true
    → record { fault = None; held = held } ≡ judged_line held line
unfolding judged_line
line_skipped held line none = rw none refl

pub line_refused : (held : LimitedHistory) (line : List ℕ) (f : HexFault) → (length (without_blanks line) == 0) ≡ false → Err f ≡ batch_in (without_blanks line)
    → record { fault = Some (NoBatch f); held = held } ≡ judged_line held line
unfolding judged_line
line_refused held line f some is = rw (some, ← is) refl

pub line_judged : (held : LimitedHistory) (line : List ℕ) (b : Batch) → (length (without_blanks line) == 0) ≡ false → Ok b ≡ batch_in (without_blanks line)
    → admitted held (next_entry held b) (admission held.limits held.entries (next_entry held b)) ≡ judged_line held line
unfolding judged_line
line_judged held line b some is = rw (some, ← is) refl
