use Rattle.std.proofs.Common.{◌<◌, ◌≤◌, ◌∙◌, ◌+◌, length, map, sym, ap, arith}
use Rattle.std.specs.Prelude.{filter}
use Rattle.std.proofs.lemmas.List.{take_all}
use Rattle.trace_assembly.specs.AssembledRows.{spots_of}
use Rattle.journal_traces.proofs.SkippedTraces.{spots_more, spots_skipped}
use Rattle.journal_traces.proofs.window_candidates.spots_within.Goals as goal

pub loop-index-init : goal.loop-index-init
loop-index-init c =
    let ids = c.args.assembly.now.newest.ids in
    let first = c.next_within-index.ensures in
    let many = c.requires in
    let within : c.next_within-index.result ≤ length ids = omega (arith, first.within) in
    record {
      place = within;
      found =
          λ p fails. ap (filter p) c.new-spots.ensures.items
          ∙ sym (spots_skipped c.args.window c.args.starts.now c.args.assembly.now p fails 0 c.next_within-index.result first.from within first.skipped);
    }

pub loop-index-preserved : goal.loop-index-preserved
loop-index-preserved c =
    let ids = c.args.assembly.now.newest.ids in
    let i = c.loop-index.index in
    let many = c.requires in
    let below : i < length ids = omega (arith, c.loop-index-test.true, c.len.ensures) in
    let next = c.next_within-index-in-loop-index.ensures in
    let within : c.next_within-index-in-loop-index.result ≤ length ids = omega (arith, next.within) in
    record {
      place = within;
      found = λ p fails.
          ap (filter p) c.in_ok-push_tightly.ensures.items
          ∙ spots_more c.args.assembly.now p c.loop-index.spots.items c.spots_at.result i below c.spots_at.ensures (c.loop-index.invariant.found p fails)
          ∙ sym (spots_skipped c.args.window c.args.starts.now c.args.assembly.now p fails (i + 1)
          c.next_within-index-in-loop-index.result next.from within next.skipped);
    }

pub returns : goal.returns
returns c = λ p fails.
    let ids = c.args.assembly.now.newest.ids in
    let many = c.requires in
    let end : length ids ≤ c.loop-index.index = omega (arith, c.loop-index-test.false, c.len.ensures) in
    c.loop-index.invariant.found p fails ∙ ap (λ ts. filter p (map (spots_of c.args.assembly.now) ts)) (take_all c.loop-index.index ids end)
