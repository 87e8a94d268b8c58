use Rattle.std.proofs.Common.{rules, ◌≡◌, ◌∙◌, ◌+◌, ◌<◌, ◌≤◌, List, [], length, take, ap, sym, subst, arith}
use Rattle.std.proofs.lemmas.List.{length-map, take_more}
use Rattle.std.proofs.lemmas.List.Sums.{fold_push}
use Rattle.jaeger_model.specs.Texts.{insert_once, sorted_set}
use Rattle.trace_model.specs.Histories.{arrivals}
use Rattle.service_index.specs.ListedNames.{Listed, listed, listed_cmp}
use Rattle.service_index.specs.Labels.{service_alone}
use Rattle.service_index.specs.Indexes.{listing_by}
use Rattle.service_index.specs.OperationRows.{AreOperationRows}
use Rattle.service_index.specs.KeptNames.{names_of_arrivals, reports, reported_at}
use Rattle.service_index.proofs.RowsOfOperations.{rows_more}
use Rattle.service_index.proofs.arrival_names.names.add_arrivals.Goals as goal

pub loop-n-preserved : goal.loop-n-preserved
loop-n-preserved c =
    let h = c.args.arrivals.now in
    let names = names_of_arrivals h in
    let n = c.loop-n.n in
    let old = c.loop-n.invariant in
    let all : length (reports h) ≡ length (arrivals h) = length-map (arrivals h) listed in
    let below : n < length (reports h) = omega (arith, c.loop-n-test.true, c.requires.within) in
    let index = c.add_at-row.new.self in
    let so_far : listing_by names index ≡ sorted_set listed_cmp (take (n + 1) (reports h)) =
    c.add_at-row.ensures.listed ∙ ap (λ (ls : List Listed). insert_once listed_cmp ls (reported_at h n)) old.1
    ∙ sym (fold_push (insert_once listed_cmp) [] (take n (reports h)) (reported_at h n))
    ∙ sym (ap (sorted_set listed_cmp) (take_more (reports h) n (service_alone []) below)) in
    let rows : AreOperationRows names index.operations.numbers c.push_reserved.new.self.items =
    subst (AreOperationRows names index.operations.numbers) (sym c.push_reserved.ensures.items)
    (rows_more names c.loop-n.index.operations.numbers index.operations.numbers c.loop-n.rows.items n c.add_at-row.result old.5 old.6
    (omega (arith, below, all)) c.add_at-row.ensures.operations c.add_at-row.ensures.row) in
    let used : index.used ≡ n + 1 = search rules in
    let room : index.room ≡ c.args.index.now.room = search rules in
    let within : n + 1 ≤ c.args.end = omega (arith, c.loop-n-test.true) in
    (c.add_at-row.ensures.indexed, so_far, used, room, within, rows, search rules, search rules)
