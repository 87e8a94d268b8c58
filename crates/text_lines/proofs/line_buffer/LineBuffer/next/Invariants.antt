use Rattle.std.proofs.Common.{◌≡◌, false}
use Rattle.text_lines.specs.LineReads.{Gathers, feed_moment}
use Rattle.text_lines.specs.ReadCounts.{CountsReads, reads_of}
use Rattle.text_lines.specs.RunErrors.{Moves}
use Rattle.text_lines.proofs.line_buffer.LineBuffer.next.Given as goal

abbrev pub invariant-pieces : goal.invariant-pieces
invariant-pieces g l = record {
  gathered : Gathers (feed_moment (g.R.Input.remaining l.initial.input) l.initial.self) (feed_moment (g.R.Input.remaining l.input) l.self) l.line.items;
  made : CountsReads (reads_of g.R.Input.gives l.initial.input l.input) l.initial.self.reads_left l.self.reads_left;
  moves : Moves (g.W.Output.contents l.initial.output) (g.W.Output.contents l.output) l.initial.buffer l.buffer;
  input_works : g.R.Input.has_failed l.input ≡ false;
  output_works : g.W.Output.has_failed l.output ≡ false;
}

abbrev pub decreases-pieces : goal.decreases-pieces
decreases-pieces g l = l.self.reads_left
