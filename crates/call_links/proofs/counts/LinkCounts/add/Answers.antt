use Rattle.std.proofs.Common.{◌∙◌, sym, ap, fold, rules, take}
use Rattle.std.specs.Prelude.{option_map, filter_map}
use Rattle.std.specs.Ordering.{nat_cmp}
use Rattle.std.specs.BTreeMap.{get}
use Rattle.std.proofs.lemmas.List.{take_all}
use Rattle.std.proofs.lemmas.List.Sums.{fold_push}
use Rattle.call_links.specs.NumberedCalls.{service_seen, numbered_call, call_by}
use Rattle.call_links.specs.LinkTallies.{with_call}
use Rattle.trace_model.proofs.Lists.{read_some, read_none}
use Rattle.call_links.proofs.ServiceTables.{gathered_calls}
use Rattle.call_links.proofs.counts.LinkCounts.add.Goals as goal
use Rattle.call_links.proofs.counts.LinkCounts.add.Goals.{in-Some+in_ok-count, in_default}

pub loop-span-preserved : goal.loop-span-preserved
loop-span-preserved c =
    let call = call_by (λ id. option_map service_seen (get nat_cmp c.in_ok-first.first id)) in
    let trace = c.args.trace.now in
    let i = c.loop-span.span-index in
    let s = c.span-item.result in
    elim c.match-call_to.branch [
      | in-Some+in_ok-count w ↦
          w.self-is ∙ w.in_ok-count.ensures
          ∙ ap (λ es. with_call es (numbered_call w.in-Some.call)) c.loop-span.invariant
          ∙ sym (
          ap (fold with_call c.args.self.now)
          (read_some call trace i s (numbered_call w.in-Some.call) (search rules)
          (ap call (sym c.span-item.is) ∙ sym c.call_to.ensures ∙ ap (option_map numbered_call) w.in-Some.is))
          ∙ fold_push with_call c.args.self.now (filter_map call (take i trace)) (numbered_call w.in-Some.call)
          )
      | in_default w ↦
          w.self-is ∙ c.loop-span.invariant
          ∙ ap (fold with_call c.args.self.now)
          (sym (read_none call trace i s (search rules)
          (ap call (sym c.span-item.is) ∙ sym c.call_to.ensures ∙ ap (option_map numbered_call) w.in_default.is)))
    ]

pub returns : goal.returns
returns c =
    let call = call_by (λ id. option_map service_seen (get nat_cmp c.in_ok-first.first id)) in
    c.loop-span.invariant
    ∙ ap (fold with_call c.args.self.now)
    (ap (filter_map call) (take_all c.loop-span.span-index c.args.trace.now c.loop-span-test.false)
    ∙ gathered_calls (λ id. option_map service_seen (get nat_cmp c.in_ok-first.first id)) c.args.trace.now c.in_ok-first.ensures)
