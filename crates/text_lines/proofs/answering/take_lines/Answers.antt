use Rattle.std.proofs.Common.{◌≡◌, inl, inr, refl, false, [], ap, ◌∙◌, ◌++◌}
use Rattle.std.proofs.lemmas.Result.{err_from_is_err_and}
use Rattle.text_lines.specs.declared.run_error.RunError.TheVariants.{Device, Memory}
use Rattle.session_devices.specs.declared.limits.TheConstants.{MAX_READS}
use Rattle.text_lines.proofs.Buffers.{moves_nothing}
use Rattle.text_lines.proofs.ReadCounts.{limit_is_reads, no_read, reads_on}
use Rattle.text_lines.proofs.HandledLines.{begins, ends, goes_on, line_lost, stays, stops}
use Rattle.text_lines.proofs.answering.take_lines.Goals as goal

pub returns-in_err-lines-clause-some : goal.returns-in_err-lines-clause-some
returns-in_err-lines-clause-some g c =
    let p = err_from_is_err_and c.from_residual.result c.from_residual.ensures.1 in
    rw (p.1, p.2) (stops g.T.LineHandler.takes _ _ _ _ _ _ false _ false _ _ _ _ _ _ _ _ _ Memory
    (begins g.T.LineHandler.takes _ _ _ _ c.args.handler.now (record { waiting = []; reads_left = MAX_READS; ended = false })
    c.args.buffer.now refl c.requires.empty)
    (stays _ _ _ _ Memory (c.requires.input_works, c.requires.output_works)) (moves_nothing _ c.args.buffer.now))

pub lines-init : goal.lines-init
lines-init g c = record {
  so_far = begins g.T.LineHandler.takes _ _ _ _ c.args.handler.now c.in_ok-lines.lines c.args.buffer.now c.in_ok-lines.ensures c.requires.empty;
  made = rw c.in_ok-lines.ensures (no_read g.R.Input.gives c.args.input.now MAX_READS);
  input_works = c.requires.input_works;
  output_works = c.requires.output_works;
}

pub returns-in_err-next-clause-some : goal.returns-in_err-next-clause-some
returns-in_err-next-clause-some g c =
    let p = err_from_is_err_and c.from_residual-in_err-next.result c.from_residual-in_err-next.ensures.1 in
    let input = g.R.Input.remaining c.next.new.input in
    let output = g.W.Output.contents c.next.new.output in
    let input_failed = g.R.Input.has_failed c.next.new.input in
    let output_failed = g.W.Output.has_failed c.next.new.output in
    rw (p.1, p.2) (stops g.T.LineHandler.takes _ _ input _ _ output _ input_failed _ output_failed _ _ _ _ _ _ _ _ _
    c.lines.invariant.so_far c.in_err-next.ensures.err c.next.ensures.buffer)

pub returns-in_err-faulty-clause-some : goal.returns-in_err-faulty-clause-some
returns-in_err-faulty-clause-some g c =
    let p = err_from_is_err_and c.from_residual-in_err-faulty.result c.from_residual-in_err-faulty.ensures.1 in
    rw (p.1, p.2) (stops g.T.LineHandler.takes _ _ _ _ _ _ _ _ _ _ _ _ _ _ _ _ _ _ Memory c.lines.invariant.so_far
    (line_lost _ _ _ c.next.new.self c.next.new.line.items _ _ (rw c.if-branch.true at c.in_ok-next.ensures.line)
    c.in_ok-next.ensures.works.0 c.in_ok-next.ensures.works.1) c.next.ensures.buffer)

pub returns-in_err-push-clause-some : goal.returns-in_err-push-clause-some
returns-in_err-push-clause-some g c =
    let p = err_from_is_err_and c.from_residual-in_err-push.result c.from_residual-in_err-push.ensures.1 in
    rw (p.1, p.2, c.in_err-push.ensures.err) (stops g.T.LineHandler.takes _ _ _ _ _ _ _ _ _ _ _ _ _ _ _ _ _ _ Memory c.lines.invariant.so_far
    (line_lost _ _ _ c.next.new.self c.next.new.line.items _ _ (rw c.if-branch.true at c.in_ok-next.ensures.line)
    c.in_ok-next.ensures.works.0 c.in_ok-next.ensures.works.1) c.next.ensures.buffer)

pub lines-preserved : goal.lines-preserved
lines-preserved g c =
    let says : c.push.new.self ≡ c.next.new.buffer ++ c.handle_line.new.reply.items =
    c.in_ok-push.ensures.ok ∙ ap (λ x. c.next.new.buffer ++ x) c.as_slice.ensures.value in
    record {
      so_far =
          goes_on g.T.LineHandler.takes _ _ _ _ _ _ _ _ _ _ _ _ _ _ _ c.next.new.self _ _ c.push.new.self _ _ _ _ c.next.new.line.items
          c.handle_line.new.reply.items
          c.lines.invariant.so_far
          (rw c.if-branch.true at c.in_ok-next.ensures.line) c.next.ensures.buffer c.in_ok-faulty.ensures says c.flush_if_large.ensures.moves;
      made = reads_on g.R.Input.gives _ _ _ _ _ _ c.lines.invariant.made c.next.ensures.made;
      input_works = c.in_ok-next.ensures.works.0;
      output_works = c.in_ok-flush_if_large.ensures.works;
    }

pub returns-in_err-flush_if_large-clause-some : goal.returns-in_err-flush_if_large-clause-some
returns-in_err-flush_if_large-clause-some g c =
    let p = err_from_is_err_and c.from_residual-in_err-flush_if_large.result c.from_residual-in_err-flush_if_large.ensures.1 in
    let says : c.push.new.self ≡ c.next.new.buffer ++ c.handle_line.new.reply.items =
    c.in_ok-push.ensures.ok ∙ ap (λ x. c.next.new.buffer ++ x) c.as_slice.ensures.value in
    rw (p.1, p.2, c.in_err-flush_if_large.ensures.err.0) (stops g.T.LineHandler.takes _ _ _ _ _ _ false _ false _ _ _ _ _ _ _ _ _ Device
    (goes_on g.T.LineHandler.takes _ _ _ _ _ _ _ _ _ _ _ _ _ _ _ c.next.new.self _ _ c.push.new.self _ _ _ _ c.next.new.line.items
    c.handle_line.new.reply.items
    c.lines.invariant.so_far
    (rw c.if-branch.true at c.in_ok-next.ensures.line) c.next.ensures.buffer c.in_ok-faulty.ensures says c.flush_if_large.ensures.moves)
    (stays _ c.next.new.self _ _ Device (inr (inl c.in_err-flush_if_large.ensures.err.1))) (moves_nothing _ c.flush_if_large.new.self))

pub returns-clause-all : goal.returns-clause-all
returns-clause-all g c =
    ends g.T.LineHandler.takes _ _ _ _ _ _ _ _ _ _ _ _ _ _ _ _ _ _ c.lines.invariant.so_far
    (rw c.if-branch.false at c.in_ok-next.ensures.line) c.next.ensures.buffer

pub returns-in_err-next-clause-limit : goal.returns-in_err-next-clause-limit
returns-in_err-next-clause-limit g c =
    let p = err_from_is_err_and c.from_residual-in_err-next.result c.from_residual-in_err-next.ensures.1 in
    rw (p.1, p.2) (limit_is_reads g.R.Input.gives _ _ _ _ _ _ (reads_on g.R.Input.gives _ _ _ _ _ _ c.lines.invariant.made c.next.ensures.made)
    c.in_err-next.ensures.limit)
