use Rattle.std.proofs.Common.{rules, ◌-◌, ◌∙◌, length, take, drop}
use Rattle.std.specs.Io.KnownBytes.{Appends}
use Rattle.text_lines.proofs.Buffers.{moves_on}
use Rattle.text_lines.proofs.output_buffer.OutputBuffer.flush.Goals as goal

pub writes-preserved : goal.writes-preserved
writes-preserved g c =
    let items = c.writes.self-inside.text.items in
    let wrote : Appends (g.W.Output.contents c.writes.output) (g.W.Output.contents c.write.new.self)
    (take c.in_ok-count.count (take (length items - c.writes.self-inside.at) (drop c.writes.self-inside.at items))) = search rules in
    record {
      moves = moves_on _ _ _ _ items c.writes.self-inside.at c.in_ok-count.count c.writes.invariant.moves wrote;
      within = search rules;
      works = c.in_ok-count.ensures.ok ∙ c.writes.invariant.works;
    }
