use Rattle.std.proofs.Common.{◌≡◌, ◌<◌, ◌+◌, ◌++◌, ◌∷◌, ◌∙◌, [], ap, ap₂, sym, arith, length, map, slice_index_or, take}
use Rattle.std.proofs.lemmas.List.{map_push, take_all, take_more}
use Rattle.serde_json.proofs.Views.{view-Array}
use Rattle.serde_json.specs.View.{view}
use Rattle.answer_trees.specs.ProcessNames.{process_name}
use Rattle.answer_trees.specs.Trees.{list, processes_of, span_tree}
use Rattle.answer_trees.specs.TraceProcesses.{process_place}
use Rattle.answer_trees.proofs.ProcessNames.{name_at, place_at, place_below_all}
use Rattle.answer_trees.proofs.trace.spans_json.Goals as goal

pub bounds-names-places : goal.bounds-names-places
bounds-names-places c =
    let spans = c.args.spans.now in
    let s = c.index-spans-index.result in
    let placed = place_at spans c.args.places.now c.loop-index.index s c.requires.places (omega arith) c.index-spans-index.is in
    let below = place_below_all spans c.loop-index.index s (omega arith) c.index-spans-index.is in
    omega (arith, placed, below, c.requires.count)

pub offset_bounds-names-places : goal.offset_bounds-names-places
offset_bounds-names-places c =
    let spans = c.args.spans.now in
    let s = c.index-spans-index.result in
    let placed = place_at spans c.args.places.now c.loop-index.index s c.requires.places (omega arith) c.index-spans-index.is in
    let below = place_below_all spans c.loop-index.index s (omega arith) c.index-spans-index.is in
    let within : slice_index_or c.args.places.now c.loop-index.index 0 < length c.args.names.now = omega (arith, placed, below, c.requires.count) in
    omega arith

pub loop-index-preserved : goal.loop-index-preserved
loop-index-preserved c =
    let l = c.loop-index in
    let spans = c.args.spans.now in
    let ps = processes_of spans in
    let s = c.index-spans-index.result in
    let placed = place_at spans c.args.places.now l.index s c.requires.places (omega arith) c.index-spans-index.is in
    let below = place_below_all spans l.index s (omega arith) c.index-spans-index.is in
    let within : slice_index_or c.args.places.now l.index 0 < length ps = omega (arith, placed, below) in
    let named : c.as_str-process.result.now ≡ process_name (process_place ps s) =
    c.as_str-process.ensures.value ∙ name_at (length ps) _ c.args.names.now c.index-names-places.result c.requires.names within c.index-names-places.is
    ∙ ap process_name placed in
    let more : take (l.index + 1) spans ≡ take l.index spans ++ s ∷ [] =
    take_more spans l.index s (omega arith) ∙ ap (λ y. take l.index spans ++ y ∷ []) (sym c.index-spans-index.is) in
    ap (map view) c.in_ok-push.ensures.items ∙ map_push view l.trees.items c.in_ok-span_json.field-0
    ∙ ap₂ (λ ts t. ts ++ t ∷ []) l.invariant (c.in_ok-span_json.ensures ps named)
    ∙ sym (map_push (span_tree ps) (take l.index spans) s) ∙ sym (ap (map (span_tree ps)) more)

pub returns : goal.returns
returns c =
    let spans = c.args.spans.now in
    let all : take c.loop-index.index spans ≡ spans = take_all c.loop-index.index spans c.loop-index-test.false in
    view-Array c.loop-index.trees ∙ ap list (c.loop-index.invariant ∙ ap (map (span_tree (processes_of spans))) all)
