use Rattle.std.proofs.Common.{◌≡◌, ◌+◌, ◌/◌, ◌<◌, ◌∙◌, get_or, length, sym, ap, arith, inl, inr}
use Rattle.std.proofs.lemmas.Bool.{cases_lt}
use Rattle.std.proofs.lemmas.List.{get_or_read}
use Rattle.trace_ring.specs.StartRanges.{no_range, overlaps}
use Rattle.trace_ring.proofs.BlockRanges.{block_before}
use Rattle.trace_ring.proofs.first_starts.starts.FirstStarts.next_within.Goals as goal

pub loop-at-preserved : goal.loop-at-preserved
loop-at-preserved c =
    let s = c.self.inside in
    let at = c.loop-at.at in
    let i = c.loop-at.invariant in
    let from = i.from in
    let below : at < length s.opened.items = omega arith in
    let range = get_or_read s.ranges.items (at / 256) c.index.result.now (block_before s.opened.items (length s.ranges.items) at c.self.invariant.4 below)
    c.index.ensures no_range in
    record {
      from = omega (arith, from);
      skipped = λ k low high. elim (cases_lt (s.evicted + k) at) [
        | inl before ↦ i.skipped k low before
        | inr here ↦
            let same : (s.evicted + k) / 256 ≡ at / 256 = omega (arith, here, high) in
            ap (λ n. overlaps c.args.window (get_or s.ranges.items n no_range)) same
            ∙ sym (c.overlaps.ensures ∙ ap (overlaps c.args.window) range) ∙ c.if-overlaps.false
      ];
    }
