use Rattle.std.proofs.Common.{◌≡◌, ◌∙◌, ◌++◌, ◌∷◌, [], false, Some, ap, ap₂, subst, sym, cond, length, map, arith, rules, ◌<◌, ◌^◌}
use Rattle.std.specs.Prelude.{All}
use Rattle.std.proofs.lemmas.List.{length-map, map_push}
use Rattle.std.proofs.lemmas.List.Elements.{All-push}
use Rattle.jaeger_model.specs.Sameness.{same_process}
use Rattle.answer_trees.specs.ProcessNames.{among, place}
use Rattle.answer_trees.specs.ProcessNumbers.{IsFirst, first_process, placed_processes, place_among}
use Rattle.jaeger_model.specs.ProcessOrderLaws.{process_ties}
use Rattle.answer_trees.proofs.DistinctProcesses.{added_known, added_new, found_below, found_place, itself, not_found, place_more, place_new}
use Rattle.answer_trees.proofs.naming.ProcessTable.place_of.Goals as goal
use Rattle.answer_trees.proofs.naming.ProcessTable.place_of.Goals.{In-Some, In_ok-insert}

-- ---- it has a place

found : (c : In-Some) → Some c.in-Some.place ≡ place_among c.args.first.process.now (placed_processes c.args.self.now)
found c = sym c.in-Some.is ∙ c.copied.ensures ∙ c.get.ensures.value ∙ c.requires (record { 0 = c.args.first.process })

pub returns-in-Some-clause-processes : goal.returns-in-Some-clause-processes
returns-in-Some-clause-processes c =
    let p = c.args.first.process.now in
    let ps = placed_processes c.args.self.now in
    sym (added_known p ps (found_place p ps c.in-Some.place (found c)).0)

pub returns-in-Some-clause-place : goal.returns-in-Some-clause-place
returns-in-Some-clause-place c = (found_place c.args.first.process.now (placed_processes c.args.self.now) c.in-Some.place (found c)).1

pub returns-in-Some-clause-within : goal.returns-in-Some-clause-within
returns-in-Some-clause-within c =
    let items = c.args.self.now.processes.items in
    let below = found_below c.args.first.process.now (placed_processes c.args.self.now) c.in-Some.place (found c) in
    let small : c.len-next.result < 2 ^ 64 = search rules in
    omega (arith, below, length-map items first_process, c.len-next.ensures, small)

-- ---- it is the next

absent : (c : In_ok-insert) → among c.args.first.process.now (placed_processes c.args.self.now) ≡ false
absent c =
    not_found c.args.first.process.now (placed_processes c.args.self.now)
    (sym c.in_default.is ∙ c.copied.ensures ∙ c.get.ensures.value ∙ c.requires (record { 0 = c.args.first.process }))

next : (c : In_ok-insert) → c.len-next.result ≡ length (placed_processes c.args.self.now)
next c =
    let items = c.args.self.now.processes.items in
    let long : c.len-next.result ≡ length items = search rules in
    long ∙ sym (length-map items first_process)

pushed : (c : In_ok-insert) → placed_processes (record { processes = c.push.new.self; places = c.insert.new.self }) ≡ placed_processes c.args.self.now
    ++ c.args.first.process.now ∷ []
pushed c = ap (map first_process) c.in_ok-push.ensures.items ∙ map_push first_process c.args.self.now.processes.items c.args.first

pub returns-clause-by_place : goal.returns-clause-by_place
returns-clause-by_place c = λ k.
    let p = c.args.first.process.now in
    let q = k.0.now in
    let ps = placed_processes c.args.self.now in
    c.in_ok-insert.ensures.updates.0 k
    ∙ ap₂ (λ t o. cond t (Some c.len-next.result) o) (sym (process_ties p q)) (c.requires k)
    ∙ ap (λ n. cond (same_process p q) (Some n) (place_among q ps)) (next c)
    ∙ place_more p ps (absent c) q
    ∙ ap (place_among q) (sym (pushed c))

pub returns-clause-processes : goal.returns-clause-processes
returns-clause-processes c = pushed c ∙ sym (added_new c.args.first.process.now (placed_processes c.args.self.now) (absent c))

pub returns-clause-place : goal.returns-clause-place
returns-clause-place c =
    let p = c.args.first.process.now in
    let ps = placed_processes c.args.self.now in
    next c ∙ sym (place_new p p ps (itself p) (absent c)) ∙ ap (place p) (sym (pushed c))

pub returns-clause-firsts : goal.returns-clause-firsts
returns-clause-firsts c =
    λ spans is all. subst (All (IsFirst spans)) (sym c.in_ok-push.ensures.items) (All-push (IsFirst spans) c.args.self.now.processes.items c.args.first all is)
