use Rattle.std.proofs.Common.{◌≡◌, ◌<◌, ◌+◌, ◌-◌, ◌∙◌, ap, arith, get_or, length, rules}
use Rattle.query_json.proofs.TagTexts.{Opened-begun, Opened-end, Opened-next}
use Rattle.query_json.proofs.writing.values.write_tags.Goals as goal

pub loop-index-init : goal.loop-index-init
loop-index-init c =
    let tags = c.args.tags.now in
    let some : 0 < length tags = search rules in
    Opened-begun tags some c.push_str-2.ensures

pub loop-index-preserved : goal.loop-index-preserved
loop-index-preserved c =
    let tags = c.args.tags.now in
    let i = c.loop-index.index in
    let within : i + 1 < length tags = search rules in
    let tag = c.index-tags-index in
    Opened-next tags i tag.result c.loop-index.invariant within tag.is c.write_from_key.ensures

pub returns : goal.returns
returns c =
    let tags = c.args.tags.now in
    let i = c.loop-index.index in
    let last : i + 1 ≡ length tags = search rules in
    let tag = c.index-tags-last in
    let place : length tags - 1 ≡ i = omega (arith, last) in
    Opened-end tags i tag.result c.loop-index.invariant last (tag.is ∙ ap (λ k. get_or tags k tag.result) place) c.write_from_key-2.ensures
