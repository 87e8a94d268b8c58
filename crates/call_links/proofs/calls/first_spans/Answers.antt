use Rattle.std.proofs.Common.{◌∙◌, sym, ap, rules}
use Rattle.std.specs.Prelude.{option_map, is_some}
use Rattle.std.specs.Ordering.{nat_cmp}
use Rattle.std.specs.BTreeMap.{get}
use Rattle.call_links.specs.NumberedCalls.{service_seen}
use Rattle.call_links.proofs.ServiceTables.{services_entered, services_kept, put_back}
use Rattle.call_links.proofs.calls.first_spans.Goals as goal
use Rattle.call_links.proofs.calls.first_spans.Goals.{in-Some+in_ok-insert, in_default}

pub loop-span-preserved : goal.loop-span-preserved
loop-span-preserved c = λ q.
    let had = get nat_cmp c.loop-span.first in
    let id = c.id-id.result in
    let xs = c.args.trace.now in
    let i = c.loop-span.span-index in
    elim c.match-branch-2.branch [
      | in-Some+in_ok-insert w ↦
          let first = sym w.in-Some.is ∙ c.in_ok-before.ensures.old in
          ap (λ m. option_map service_seen (get nat_cmp m q)) w.first-is
          ∙ ap (option_map service_seen)
          (put_back q id had (get nat_cmp c.insert.new.self q) (get nat_cmp w.insert-in-Some.new.self q) _ w.in-Some.before
          (c.in_ok-before.ensures.updates.0 q) (w.in_ok-insert.ensures.updates.0 q) first)
          ∙ services_kept q id had xs i c.span-item.result (search rules) c.span-item.is c.id-id.ensures c.loop-span.invariant (ap is_some (sym first))
      | in_default w ↦
          ap (λ m. option_map service_seen (get nat_cmp m q)) w.first-is
          ∙ services_entered q id had (get nat_cmp c.insert.new.self q) _ xs i c.span-item.result (search rules)
          c.span-item.is c.id-id.ensures c.loop-span.invariant
          (ap is_some (sym c.in_ok-before.ensures.old ∙ w.in_default.is)) (c.in_ok-before.ensures.updates.0 q) (search rules)
    ]
