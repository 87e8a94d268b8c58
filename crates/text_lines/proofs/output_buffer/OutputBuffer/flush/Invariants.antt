use Rattle.std.proofs.Common.{◌≡◌, ◌≤◌, ◌-◌, drop, false, vec_len}
use Rattle.text_lines.specs.RunErrors.{Moves}
use Rattle.text_lines.proofs.output_buffer.OutputBuffer.flush.Given as goal

abbrev pub invariant-writes : goal.invariant-writes
invariant-writes g l = record {
  moves : Moves (g.W.Output.contents l.initial.output) (g.W.Output.contents l.output) (drop l.initial.self-inside.at l.initial.self-inside.text.items)
      (drop l.self-inside.at l.self-inside.text.items);
  within : l.self-inside.at ≤ vec_len l.self-inside.text;
  works : g.W.Output.has_failed l.output ≡ false;
}

abbrev pub decreases-writes : goal.decreases-writes
decreases-writes g l = vec_len l.self-inside.text - l.self-inside.at
