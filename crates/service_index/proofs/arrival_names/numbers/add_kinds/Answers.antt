use Rattle.std.proofs.Common.{◌≡◌, ◌∙◌, ◌++◌, ◌-◌, length, map, take, drop, ap, arith}
use Rattle.std.proofs.lemmas.List.{length-drop, map-append, take_all}
use Rattle.jaeger_model.specs.Tags.{kind_of}
use Rattle.jaeger_model.specs.Kinds.{kind_text}
use Rattle.service_index.proofs.KeptKinds.{first_and_rest, fewer_kinds}
use Rattle.service_index.proofs.arrival_names.numbers.add_kinds.Goals as goal

pub add_known-requires : goal.add_known-requires
add_known-requires c =
    let fewer = fewer_kinds c.as_slice-known.result.now c.args.spans.now (c.as_slice-known.ensures ∙ c.requires.first) in
    let room = c.requires.room in
    omega arith

pub offset_bounds-spans-known : goal.offset_bounds-spans-known
offset_bounds-spans-known c =
    let fewer = fewer_kinds c.as_slice-known.result.now c.args.spans.now (c.as_slice-known.ensures ∙ c.requires.first) in
    search (arith, fewer)

pub slice_bounds-find_kinds-count : goal.slice_bounds-find_kinds-count
slice_bounds-find_kinds-count c =
    let fewer = fewer_kinds c.as_slice-known.result.now c.args.spans.now (c.as_slice-known.ensures ∙ c.requires.first) in
    omega arith

pub slice_bounds-find_kinds-start : goal.slice_bounds-find_kinds-start
slice_bounds-find_kinds-start c =
    let fewer = fewer_kinds c.as_slice-known.result.now c.args.spans.now (c.as_slice-known.ensures ∙ c.requires.first) in
    omega arith

pub returns-clause-kinds : goal.returns-clause-kinds
returns-clause-kinds c =
    let old = c.args.kinds.now.items in
    let known = c.as_slice-known.result.now in
    let spans = c.args.spans.now in
    let are : map kind_text known ≡ map kind_of (take 32 spans) = c.as_slice-known.ensures ∙ c.requires.first in
    let rest : take (length spans - length known) (drop (length known) spans) ≡ drop (length known) spans =
    take_all (length spans - length known) (drop (length known) spans) (omega (arith, length-drop (length known) spans)) in
    c.find_kinds.ensures.kinds ∙ (λ i. (ap (map kind_text) c.add_known.ensures.kinds ∙ map-append kind_text old known) i ++ ap (map kind_of) rest i)
    ∙ first_and_rest old known spans are
