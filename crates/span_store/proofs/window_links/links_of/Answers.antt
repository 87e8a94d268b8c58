use Rattle.std.proofs.Common.{◌<◌, ◌≤◌, ◌∙◌, [], length, sym, ap, arith}
use Rattle.std.proofs.lemmas.List.{take_all}
use Rattle.std.proofs.lemmas.List.Sums.{fold_more}
use Rattle.call_links.specs.LinkTallies.{with_trace, tallied}
use Rattle.span_store.proofs.window_links.links_of.Goals as goal

pub loop-index-preserved : goal.loop-index-preserved
loop-index-preserved c =
    let traces = c.args.traces.now in
    let i = c.loop-index.index in
    let within : i < length traces = omega (arith, c.loop-index-test.true, c.count-index-end.ensures) in
    c.in_ok-add.ensures ∙ (λ j. with_trace (c.loop-index.invariant j) ((c.deref.ensures.value ∙ c.in_ok-spans.ensures) j))
    ∙ sym (fold_more with_trace [] traces i [] within)

pub returns : goal.returns
returns c =
    let traces = c.args.traces.now in
    let all : length traces ≤ c.loop-index.index = omega (arith, c.loop-index-test.false, c.count-index-end.ensures) in
    c.in_ok-links.ensures traces c.requires (c.loop-index.invariant ∙ ap tallied (take_all c.loop-index.index traces all))
