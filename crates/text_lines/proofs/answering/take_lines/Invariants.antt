use Rattle.std.proofs.Common.{◌≡◌, false}
use Rattle.session_devices.specs.Traffic.{traffic_of}
use Rattle.session_devices.specs.declared.limits.TheConstants.{MAX_READS}
use Rattle.text_lines.specs.LineReads.{most_bytes_left}
use Rattle.text_lines.specs.ReadCounts.{CountsReads, reads_of}
use Rattle.text_lines.specs.HandledLines.{SoFar, handling_of, run_of}
use Rattle.text_lines.proofs.answering.take_lines.Given as goal

abbrev pub invariant-lines : goal.invariant-lines
invariant-lines g l = record {
  so_far : SoFar
      (run_of (handling_of g.T.LineHandler.takes l.fn.handler l.handler) (traffic_of g.R.Input.remaining g.R.Input.has_failed l.fn.input l.input)
      (traffic_of g.W.Output.contents g.W.Output.has_failed l.fn.output l.output))
      (record { feed = l.lines; waits = l.buffer; number = l.number; faulty = l.faulty });
  made : CountsReads (reads_of g.R.Input.gives l.fn.input l.input) MAX_READS l.lines.reads_left;
  input_works : g.R.Input.has_failed l.input ≡ false;
  output_works : g.W.Output.has_failed l.output ≡ false;
}

abbrev pub decreases-lines : goal.decreases-lines
decreases-lines g l = most_bytes_left l.lines
