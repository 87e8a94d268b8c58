use Rattle.std.proofs.Common.{◌≡◌, ◌<◌, ◌++◌, ◌∷◌, [], ◌∙◌, length, get_or, sym, ap, subst, rules}
use Rattle.std.specs.Prelude.{fold}
use Rattle.std.specs.List.{AllByRecursion}
use Rattle.std.proofs.lemmas.List.{get_or_default}
use Rattle.trace_model.proofs.Lists.{each_front, each_behind}
use Rattle.plain_store.specs.RootPaths.{next_clock, downward}
use Rattle.plain_store.proofs.RootPaths.{clock_pops}
use Rattle.plain_store.proofs.adjust.clock_down.Goals as goal

pub loop-place-preserved : goal.loop-place-preserved
loop-place-preserved c =
    let m = c.args.max_skew in
    let trace = c.args.trace.now in
    let rest = c.pop.new.self.items in
    let k = c.in-Some.place in
    let parted : c.loop-place.path.items ≡ rest ++ k ∷ [] = search rules in
    let below = subst (AllByRecursion (λ j. j < length trace)) parted c.loop-place.invariant.within in
    record {
      within = each_front (λ j. j < length trace) rest (k ∷ []) below;
      so_far = λ d.
          let within = (each_behind (λ j. j < length trace) rest (k ∷ []) below).0 in
          let here : c.in_ok-clock.clock ≡ next_clock m c.loop-place.clock (get_or trace k d) =
          c.in_ok-clock.ensures ∙ ap (next_clock m c.loop-place.clock) (c.index-trace-place.is ∙ get_or_default trace k c.index-trace-place.result d within) in
          ap (λ o. fold (next_clock m) o (downward trace rest d)) here
          ∙ sym (clock_pops m trace d c.loop-place.clock rest k)
          ∙ ap (λ ks. fold (next_clock m) c.loop-place.clock (downward trace ks d)) (sym parted)
          ∙ c.loop-place.invariant.so_far d;
    }
