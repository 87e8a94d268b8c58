use Rattle.std.proofs.Common.{◌≡◌, ◌+◌, ◌<◌, ◌∙◌, ap, get_or, length, map, rules, subst, sym, take}
use Rattle.std.specs.Prelude.{All}
use Rattle.std.specs.Bool.{OnFalse, OnTrue}
use Rattle.std.proofs.lemmas.List.{take_all}
use Rattle.std.proofs.lemmas.Option.{get_or_from_slice_get}
use Rattle.answer_trees.specs.ProcessNumbers.{IsFirst, first_process}
use Rattle.answer_trees.specs.ProcessPlaces.{ComesNext, HasPlaces}
use Rattle.answer_trees.specs.Trees.{processes_of}
use Rattle.answer_trees.specs.TraceProcesses.{process_place}
use Rattle.answer_trees.proofs.PlacesByKeys.{come_next}
use Rattle.answer_trees.proofs.naming.lent_places.Goals as goal
use Rattle.answer_trees.proofs.naming.lent_places.Goals.{then-not-branch+in_ok-add_new, else-not-branch}

pub loop-index-init : goal.loop-index-init
loop-index-init c = c.in_ok-placing.ensures.placed c.args.spans.now c.args.keys.now

pub loop-index-preserved : goal.loop-index-preserved
loop-index-preserved c =
    let i = c.loop-index.index in
    let spans = c.args.spans.now in
    let keys = c.args.keys.now in
    let key = c.key_at-key.result in
    let within : i < length spans = search rules in
    elim c.if-not-branch.branch [
      | then-not-branch+in_ok-add_new w ↦
          let s = w.at.result in
          let is : s ≡ get_or spans i s = sym (get_or_from_slice_get spans i s s w.at.ensures) in
          let next : ComesNext spans keys i s key = record { within = within; is = is; stands = c.key_at-key.ensures; shares = c.requires } in
          let kept : c.add_known.new.self ≡ c.loop-index.placing =
          subst (λ b. OnFalse b (c.add_known.new.self ≡ c.loop-index.placing)) w.if-not-branch.true c.in_ok-add_known.ensures.kept in
          let before : HasPlaces spans keys i c.add_known.new.self = subst (HasPlaces spans keys i) (sym kept) c.loop-index.invariant in
          subst (HasPlaces spans keys (i + 1)) (sym w.placing-is) (w.in_ok-add_new.ensures spans keys i s w.process.ensures next before)
      | else-not-branch w ↦
          subst (HasPlaces spans keys (i + 1)) (sym w.placing-is)
          (come_next spans keys i key (HasPlaces spans keys (i + 1) c.add_known.new.self) within c.key_at-key.ensures c.requires
          (λ s next. subst (λ b. OnTrue b (HasPlaces spans keys (i + 1) c.add_known.new.self)) w.if-not-branch.false
          (c.in_ok-add_known.ensures.added spans keys i s next c.loop-index.invariant)))
    ]

pub returns-clause-places : goal.returns-clause-places
returns-clause-places c =
    let spans = c.args.spans.now in
    let all : take c.loop-index.index spans ≡ spans = search (rules, take_all) in
    c.into_parts.ensures.places ∙ c.loop-index.invariant.places ∙ ap (map (process_place (processes_of spans))) all

pub returns-clause-processes : goal.returns-clause-processes
returns-clause-processes c =
    let spans = c.args.spans.now in
    let all : take c.loop-index.index spans ≡ spans = search (rules, take_all) in
    ap (map first_process) c.into_parts.ensures.processes ∙ c.loop-index.invariant.processes ∙ ap processes_of all

pub returns-clause-firsts : goal.returns-clause-firsts
returns-clause-firsts c = subst (All (IsFirst c.args.spans.now)) (sym c.into_parts.ensures.processes) c.loop-index.invariant.firsts
