use Rattle.std.proofs.Common.{◌≡◌, ◌-◌, length, arith, ap}
use Rattle.std.proofs.lemmas.List.{with_items_is}
use Rattle.text_lines.specs.LineReads.{Feed}
use Rattle.text_lines.specs.declared.line_buffer.TheConstants.{READ_BYTES}
use Rattle.text_lines.proofs.ReadCounts.{one_read}
use Rattle.text_lines.proofs.Feeds.{fills}
use Rattle.text_lines.proofs.line_buffer.LineBuffer.fill.Goals as goal

pub returns-clause-read : goal.returns-clause-read
returns-clause-read g c =
    let room : length c.read.new.buf ≡ READ_BYTES = omega arith in
    let before : c.self.inside.reads_left ≡ c.args.self.now.reads_left = ap (λ (f : Feed). f.reads_left) c.self.view_is in
    fills _ _ c.args.self.now _ c.read.new.buf 0 c.in_ok-count.count (c.self.inside.reads_left - 1)
    (with_items_is c.self.inside.piece c.read.new.buf (omega arith))
    c.in_ok-count.ensures.bytes.0 c.in_ok-count.ensures.bytes.1 c.in_ok-count.ensures.bound.0 room (omega arith) (omega arith)

pub returns-clause-made : goal.returns-clause-made
returns-clause-made g c =
    let before : c.self.inside.reads_left ≡ c.args.self.now.reads_left = ap (λ (f : Feed). f.reads_left) c.self.view_is in
    one_read g.R.Input.gives _ _ _ _ (c.self.inside.reads_left - 1) c.in_ok-count.ensures.given (omega arith)

pub returns-in_err-count-clause-made : goal.returns-in_err-count-clause-made
returns-in_err-count-clause-made g c =
    let before : c.self.inside.reads_left ≡ c.args.self.now.reads_left = ap (λ (f : Feed). f.reads_left) c.self.view_is in
    one_read g.R.Input.gives _ _ _ _ (c.self.inside.reads_left - 1) c.in_err-count.ensures.none (omega arith)
