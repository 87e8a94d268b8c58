use Rattle.std.proofs.Common.{◌∙◌, ap, sym, length, slice_index_or, slice_range, arith}
use Rattle.collected_traces.proofs.TraceParts.{no_cut, cut_got, bounds}
use Rattle.collected_traces.proofs.trace_parts.trace_part.Goals as goal

pub returns-then-index-starts : goal.returns-then-index-starts
returns-then-index-starts g c = sym (no_cut c.args.items.now c.args.starts.now c.args.index c.if-index-starts.true)

pub part-requires-clause-ordered : goal.part-requires-clause-ordered
part-requires-clause-ordered g c =
    let ordered = (bounds (length c.args.items.now) c.args.starts.now c.args.index 0 c.requires c.if-index-starts.false).0 in
    omega (arith, c.next_start-end.ensures, ordered)

pub part-requires-clause-within : goal.part-requires-clause-within
part-requires-clause-within g c =
    let within = (bounds (length c.args.items.now) c.args.starts.now c.args.index 0 c.requires c.if-index-starts.false).1 in
    omega (arith, c.next_start-end.ensures, within)

pub returns : goal.returns
returns g c =
    c.part.ensures ∙ ap (slice_range c.args.items.now (slice_index_or c.args.starts.now c.args.index 0)) c.next_start-end.ensures
    ∙ cut_got c.args.items.now c.args.starts.now c.args.index 0 c.if-index-starts.false
