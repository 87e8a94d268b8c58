use Rattle.std.proofs.Common.{◌∙◌, ap, ◌++◌}
use Rattle.text_lines.proofs.Buffers.{flushed}
use Rattle.text_lines.proofs.output_buffer.write_text.Goals as goal

pub returns : goal.returns
returns g c =
    flushed _ _ _ _ c.args.text.now _ c.flush.result (c.in_ok-push.ensures.ok ∙ ap (λ x. x ++ c.args.text.now) c.new-buffer.ensures)
    c.flush.ensures.moves c.flush.ensures.ok
    c.flush.ensures.works c.flush.ensures.err
