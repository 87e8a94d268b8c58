use Rattle.std.proofs.Common.{ap, sym}
use Rattle.std.specs.Prelude.{option_map}
use Rattle.std.proofs.lemmas.Result.{IfOk-weaker}
use Rattle.plain_store.proofs.RootPaths.{up_and_down, no_way_up, way_is_within}
use Rattle.plain_store.proofs.adjust.clock_of.Goals as goal

pub clock_down-requires : goal.clock_down-requires
clock_down-requires c =
    way_is_within c.args.max_skew c.args.trace.now c.args.parents.now c.args.place c.requires.parents c.requires.within
    (option_map (λ v. v.items) c.in_ok-path.field-0) c.in-Some.path.items c.in_ok-path.ensures (ap (option_map (λ v. v.items)) (sym c.in-Some.is))

pub returns-in-Some : goal.returns-in-Some
returns-in-Some c =
    IfOk-weaker c.clock_down.result _ _ (λ k f.
    up_and_down c.args.max_skew c.args.trace.now c.args.parents.now c.args.place c.requires.parents c.requires.within
    (option_map (λ v. v.items) c.in_ok-path.field-0) c.in-Some.path.items k c.in_ok-path.ensures (ap (option_map (λ v. v.items)) (sym c.in-Some.is)) f)
    c.clock_down.ensures

pub returns-in-None : goal.returns-in-None
returns-in-None c =
    no_way_up c.args.max_skew c.args.trace.now c.args.parents.now c.args.place c.requires.parents c.requires.within
    (option_map (λ v. v.items) c.in_ok-path.field-0) c.in_ok-path.ensures (ap (option_map (λ v. v.items)) (sym c.in-None.is))
