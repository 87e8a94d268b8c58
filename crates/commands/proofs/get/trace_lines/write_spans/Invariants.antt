use Rattle.std.proofs.Common.{◌≡◌, false, take}
use Rattle.std.specs.Prelude.{flat_map}
use Rattle.text_lines.specs.RunErrors.{Moves}
use Rattle.commands.specs.GetRuns.{shown_line}
use Rattle.commands.proofs.get.trace_lines.write_spans.Given as goal

abbrev pub invariant-loop-shown : goal.invariant-loop-shown
invariant-loop-shown g l = record {
  moves : Moves (g.W.Output.contents l.fn.output) (g.W.Output.contents l.output) (flat_map shown_line (take l.shown-index l.spans)) l.buffer;
  works : g.W.Output.has_failed l.output ≡ false;
}
