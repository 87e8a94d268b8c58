use Rattle.std.proofs.Common.{◌<◌, ap, arith, length}
use Rattle.std.proofs.lemmas.List.{drop_more, map-id}
use Rattle.serde_json.specs.Data.{Data, null}
use Rattle.serde_json.specs.Written.{compact_text}
use Rattle.answer_trees.specs.Trees.{list}
use Rattle.json_page.proofs.Pages.{◌▸◌, Puts-is}
use Rattle.query_json.proofs.Pages.{Going-over, list_begun}
use Rattle.query_json.proofs.ListWalks.{Going-next}
use Rattle.query_json.proofs.writing.write_list.Goals as goal

pub loop-index-init : goal.loop-index-init
loop-index-init g c =
    let ds = g.L.WriteItems.trees c.args.items in
    let some : 0 < length ds = omega (arith, c.count-count.ensures, c.if-count-eq0.false) in
    list_begun (λ (d : Data). d) (drop_more ds 0 null some) (c.push_str-2.ensures ▸ c.write_item.ensures)

pub loop-index-preserved : goal.loop-index-preserved
loop-index-preserved g c =
    let l = c.loop-index in
    let ds = g.L.WriteItems.trees c.args.items in
    let within : l.index < length ds = omega (arith, c.count-count.ensures, c.loop-index-test.true) in
    Going-next (drop_more ds l.index null within) l.invariant (c.push_str-in-loop-index.ensures ▸ c.write_item-in-loop-index.ensures)

pub returns : goal.returns
returns g c =
    let ds = g.L.WriteItems.trees c.args.items in
    Puts-is (Going-over ds c.loop-index.index c.loop-index.invariant (omega (arith, c.loop-index-test.false, c.count-count.ensures)) c.push_str-3.ensures)
    (ap (λ ts. compact_text (list ts)) (map-id ds))
