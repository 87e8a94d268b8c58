use Rattle.std.proofs.Common.{◌≡◌, ◌∙◌, sym, ap, map, rules, ℕ, List}
use Rattle.std.proofs.lemmas.List.{map-id}
use Rattle.std.proofs.lemmas.Simd.{map-map}
use Rattle.std.proofs.lemmas.Map.Iter.{iter_end}
use Rattle.call_links.specs.ServiceRanks.{name_entry, named}
use Rattle.call_links.proofs.order.numbers_by_name.Goals as goal

pub returns : goal.returns
returns c =
    let all : map (λ x. x) c.loop-number.yielded ≡ c.in_ok-names.names.entries = search (rules, iter_end) in
    c.loop-number.invariant ∙ ap (map (λ e. (name_entry e).1)) (sym (map-id c.loop-number.yielded) ∙ all)
    ∙ sym (map-map (λ (e : List ℕ × ℕ). e.1) name_entry c.in_ok-names.names.entries)
    ∙ ap (map (λ (e : List ℕ × ℕ). e.1)) (c.in_ok-names.ensures ∙ ap named c.in_ok-services.ensures)
