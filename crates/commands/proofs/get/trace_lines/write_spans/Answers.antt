use Rattle.std.proofs.Common.{◌≡◌, ◌++◌, ◌∙◌, ap, arith, take, rules}
use Rattle.std.proofs.lemmas.List.{take_all}
use Rattle.std.proofs.lemmas.Result.{err_from_is_err_and}
use Rattle.std.specs.Prelude.{flat_map}
use Rattle.text_lines.proofs.Buffers.{flushed, moves_then}
use Rattle.commands.specs.GetRuns.{shown_line}
use Rattle.commands.proofs.WrittenLines.{moves_one, none_moved, part_written}
use Rattle.commands.proofs.get.trace_lines.write_spans.Goals as goal

pub loop-shown-init : goal.loop-shown-init
loop-shown-init g c = record { moves = none_moved _ _ c.new-buffer.ensures; works = c.requires }

pub returns-in_err-write_span : goal.returns-in_err-write_span
returns-in_err-write_span g c =
    let p = err_from_is_err_and c.from_residual.result c.from_residual.ensures.1 in
    rw (p.1, p.2) (part_written shown_line c.args.spans.now c.loop-shown.shown-index _ _ _ c.loop-shown.invariant.moves, c.loop-shown.invariant.works)

pub returns-in_err-push : goal.returns-in_err-push
returns-in_err-push g c =
    let p = err_from_is_err_and c.from_residual-in_err-push.result c.from_residual-in_err-push.ensures.1 in
    rw (p.1, p.2) (part_written shown_line c.args.spans.now c.loop-shown.shown-index _ _ _ c.loop-shown.invariant.moves, c.loop-shown.invariant.works)

pub flush_if_large-requires : goal.flush_if_large-requires
flush_if_large-requires g c = c.loop-shown.invariant.works

pub returns-in_err-flush_if_large : goal.returns-in_err-flush_if_large
returns-in_err-flush_if_large g c =
    let p = err_from_is_err_and c.from_residual-in_err-flush_if_large.result c.from_residual-in_err-flush_if_large.ensures.1 in
    let text : c.write_span.new.reply.items ≡ shown_line c.shown-item.result = search rules in
    let says : c.push.new.self ≡ c.loop-shown.buffer ++ c.write_span.new.reply.items =
    c.in_ok-push.ensures.ok ∙ ap (λ x. c.loop-shown.buffer ++ x) c.as_slice.ensures.value in
    rw (p.1, p.2, c.in_err-flush_if_large.ensures.err.0) (
      part_written shown_line c.args.spans.now _ _ _ _
          (moves_one shown_line c.args.spans.now c.loop-shown.shown-index c.shown-item.result _ _ _ _ _ _ _ c.loop-shown-test.true c.shown-item.is text
          c.loop-shown.invariant.moves says c.flush_if_large.ensures.moves),
      c.in_err-flush_if_large.ensures.err.1,
    )

pub loop-shown-preserved : goal.loop-shown-preserved
loop-shown-preserved g c =
    let text : c.write_span.new.reply.items ≡ shown_line c.shown-item.result = search rules in
    let says : c.push.new.self ≡ c.loop-shown.buffer ++ c.write_span.new.reply.items =
    c.in_ok-push.ensures.ok ∙ ap (λ x. c.loop-shown.buffer ++ x) c.as_slice.ensures.value in
    record {
      moves = moves_one shown_line c.args.spans.now c.loop-shown.shown-index c.shown-item.result _ _ _ _ _ _ _ c.loop-shown-test.true c.shown-item.is text
          c.loop-shown.invariant.moves says c.flush_if_large.ensures.moves;
      works = c.in_ok-flush_if_large.ensures.works;
    }

pub flush-requires : goal.flush-requires
flush-requires g c = c.loop-shown.invariant.works

pub returns : goal.returns
returns g c =
    let all : flat_map shown_line (take c.loop-shown.shown-index c.args.spans.now) ≡ flat_map shown_line c.args.spans.now =
    ap (flat_map shown_line) (take_all c.loop-shown.shown-index c.args.spans.now (omega arith)) in
    flushed _ _ _ _ (flat_map shown_line c.args.spans.now) _ c.flush.result all
    (moves_then _ _ _ _ _ _ c.loop-shown.invariant.moves c.flush.ensures.moves) c.flush.ensures.ok c.flush.ensures.works c.flush.ensures.err
