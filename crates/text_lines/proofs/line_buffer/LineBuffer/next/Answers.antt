use Rattle.std.proofs.Common.{◌++◌, ◌≡◌, ◌==◌, take, length, rules, true, false}
use Rattle.text_lines.proofs.TakenLines.{gathers_more, takes_line, ends, no_feed}
use Rattle.text_lines.proofs.Buffers.{moves_then}
use Rattle.text_lines.proofs.ReadCounts.{reads_on}
use Rattle.text_lines.specs.Lines.{without_return, HasNoFeed}
use Rattle.text_lines.proofs.line_buffer.LineBuffer.next.Goals as goal

pub returns-in-Some-clause-line : goal.returns-in-Some-clause-line
returns-in-Some-clause-line g c =
    let k = c.in-Some.count in
    let h = rw c.waiting.ensures at c.in-Some.ensures in
    let taken : c.drop_return.new.line.items ≡ without_return (c.pieces.line.items ++ take k c.pieces.self.waiting) = search rules in
    rw (c.skip.ensures, taken) (takes_line _ _ _ c.pieces.self c.pieces.line.items k c.pieces.invariant.gathered h.0.high h.1 h.0.before)

pub returns-then-has_ended-clause-line : goal.returns-then-has_ended-clause-line
returns-then-has_ended-clause-line g c =
    let plain : HasNoFeed c.pieces.self.waiting = no_feed _ (rw c.waiting.ensures at c.in_default.ensures) in
    let ended : c.pieces.self.ended ≡ true = search rules in
    let all : c.extend_from_slice-in-pieces.new.self.items ≡ c.pieces.line.items ++ c.pieces.self.waiting = search rules in
    let none : c.is_empty.result ≡ (length (c.pieces.line.items ++ c.pieces.self.waiting) == 0) = search rules in
    rw (none, c.skip_all.ensures, all) (ends _ _ _ c.pieces.self c.pieces.line.items c.pieces.invariant.gathered plain ended)

pub pieces-preserved : goal.pieces-preserved
pieces-preserved g c =
    let plain : HasNoFeed c.pieces.self.waiting = no_feed _ (rw c.waiting.ensures at c.in_default.ensures) in
    let goes : c.pieces.self.ended ≡ false = search rules in
    let all : c.extend_from_slice-in-pieces.new.self.items ≡ c.pieces.line.items ++ c.pieces.self.waiting = search rules in
    record {
      gathered =
          rw all (gathers_more _ _ _ _ c.pieces.self _ c.pieces.line.items c.pieces.invariant.gathered plain goes
          (rw c.skip_all.ensures at c.in_ok-fill.ensures.read));
      made = reads_on g.R.Input.gives _ _ _ _ _ _ c.pieces.invariant.made (rw c.skip_all.ensures at c.fill.ensures.made);
      moves = moves_then _ _ _ _ _ _ c.pieces.invariant.moves c.flush.ensures.moves;
      input_works = c.in_ok-fill.ensures.works;
      output_works = c.in_ok-flush.ensures.works;
    }

pub returns-in_err-flush-clause-buffer : goal.returns-in_err-flush-clause-buffer
returns-in_err-flush-clause-buffer g c = moves_then _ _ _ _ _ _ c.pieces.invariant.moves c.flush.ensures.moves

pub returns-in_err-fill-clause-buffer : goal.returns-in_err-fill-clause-buffer
returns-in_err-fill-clause-buffer g c = moves_then _ _ _ _ _ _ c.pieces.invariant.moves c.flush.ensures.moves

pub returns-in_err-fill-clause-made : goal.returns-in_err-fill-clause-made
returns-in_err-fill-clause-made g c = reads_on g.R.Input.gives _ _ _ _ _ _ c.pieces.invariant.made (rw c.skip_all.ensures at c.fill.ensures.made)
