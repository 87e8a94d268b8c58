use Rattle.std.proofs.Common.{ℕ, ◌∙◌, ◌-◌, ◌<◌, List, get_or, ap, sym, subst, arith}
use Rattle.jaeger_model.specs.Texts.{sorted_set}
use Rattle.std.proofs.lemmas.List.{length-map, map_push}
use Rattle.trace_model.specs.Names.{operation_cmp}
use Rattle.service_index.specs.Probes.{AreNumbersBelow}
use Rattle.service_index.specs.Indexes.{operations_at}
use Rattle.service_index.proofs.LinkedOperations.{walk_start, walk_step}
use Rattle.service_index.proofs.LabelProbes.{no_numbers, numbers_more}
use Rattle.service_index.proofs.index.numbers_along.Goals as goal

pub loop-at-init : goal.loop-at-init
loop-at-init c = record {
  within = c.requires.within;
  held = λ count all. subst (AreNumbersBelow count) (sym c.new-along.ensures.items) (no_numbers count);
  along =
      λ names chain s h. (
        h.own,
        ap (λ (ns : List ℕ). sorted_set operation_cmp (operations_at names ns)) c.new-along.ensures.items
            ∙ walk_start names c.args.numbers.now s c.args.newest h,
      );
}

pub loop-at-preserved : goal.loop-at-preserved
loop-at-preserved c =
    let numbers = c.args.numbers.now in
    let at = c.loop-at.at in
    let pos : 0 < at = c.loop-at-test.true in
    let within = c.loop-at.invariant.within in
    let row = at - 1 in
    let n = get_or numbers row 0 in
    let next = get_or c.args.earlier.now row 0 in
    let known = c.loop-at.along.items in
    let low = c.requires.falls.before row (omega arith) in
    record {
      within = omega arith;
      held =
          λ count all. subst (AreNumbersBelow count) (sym c.in_ok-push.ensures.items)
          (numbers_more count known n (c.loop-at.invariant.held count all) (all.held row (omega arith)));
      along = λ names chain s h.
          let kept = c.loop-at.invariant.along names chain s h in
          let own = kept.0 pos in
          let l = length-map numbers (λ n. (names.at n).service) in
          let before = chain.before row (omega arith) in (
            λ more. before.own more ∙ own,
            ap (λ (ns : List ℕ). sorted_set operation_cmp (operations_at names ns)) c.in_ok-push.ensures.items
                ∙ ap (sorted_set operation_cmp) (map_push (λ (k : ℕ). (names.at k).operation) known n)
                ∙ walk_step names numbers s at row next (operations_at names known) (omega arith) within own before kept.1,
          );
    }
