use Rattle.std.proofs.Common.{◌≡◌, ◌∙◌, [], sym, ap, map, rules}
use Rattle.std.specs.BTreeMap.{insert_entry}
use Rattle.std.proofs.lemmas.List.{map-id, map_push}
use Rattle.std.proofs.lemmas.List.Sums.{fold_push}
use Rattle.std.proofs.lemmas.Map.Iter.{iter_end}
use Rattle.jaeger_model.specs.Texts.{text_cmp}
use Rattle.call_links.specs.ServiceRanks.{service_entry, name_entry, with_name, named}
use Rattle.call_links.proofs.TalliesByName.{name_put}
use Rattle.call_links.proofs.order.by_name.Goals as goal

pub loop-number-preserved : goal.loop-number-preserved
loop-number-preserved c =
    let done = c.loop-number.yielded in
    ap (map name_entry) c.in_ok-insert.ensures.entries
    ∙ name_put c.loop-number.names.entries c.name_of.result c.in-Some.number
    ∙ (λ i. insert_entry text_cmp (c.loop-number.invariant i) (c.name_of.ensures i) c.in-Some.number)
    ∙ sym (ap named (map_push service_entry done _) ∙ fold_push with_name [] (map service_entry done) _)

pub returns : goal.returns
returns c =
    let all : map (λ x. x) c.loop-number.yielded ≡ c.args.services.entries = search (rules, iter_end) in
    c.loop-number.invariant ∙ ap (λ es. named (map service_entry es)) (sym (map-id c.loop-number.yielded) ∙ all)
