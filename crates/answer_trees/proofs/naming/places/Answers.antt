use Rattle.std.proofs.Common.{◌≡◌, ◌+◌, ◌<◌, ◌∙◌, List, ap, get_or, length, map, rules, subst, sym, take}
use Rattle.std.specs.Bool.{OnFalse, OnTrue}
use Rattle.std.proofs.lemmas.List.{take_all}
use Rattle.trace_model.specs.declared.answer.Shown.{Shown}
use Rattle.answer_trees.specs.ProcessNumbers.{first_process}
use Rattle.answer_trees.specs.ProcessPlaces.{ComesNext, HasPlaces}
use Rattle.answer_trees.specs.Trees.{processes_of}
use Rattle.answer_trees.specs.TraceProcesses.{process_place}
use Rattle.answer_trees.proofs.naming.places.Goals as goal
use Rattle.answer_trees.proofs.naming.places.Goals.{then-not-branch+in_ok-add_new, else-not-branch}

pub loop-index-init : goal.loop-index-init
loop-index-init c = c.in_ok-placing.ensures.placed c.args.trace.now c.process_keys-keys.result.now

pub loop-index-preserved : goal.loop-index-preserved
loop-index-preserved c =
    let i = c.loop-index.index in
    let spans = c.args.trace.now in
    let s = c.shown-item.result in
    let slice : c.as_slice-shown-items.result.now ≡ spans = c.as_slice-shown-items.ensures in
    let within : i < length spans = subst (λ (l : List Shown). i < length l) slice (search rules) in
    let is : s ≡ get_or spans i s = subst (λ (l : List Shown). s ≡ get_or l i s) slice c.shown-item.is in
    let keys = c.process_keys-keys.result.now in
    let next : ComesNext spans keys i s c.key_at-key.result =
    record { within = within; is = is; stands = c.key_at-key.ensures; shares = c.process_keys-keys.ensures } in
    elim c.if-not-branch.branch [
      | then-not-branch+in_ok-add_new w ↦
          let kept : c.add_known.new.self ≡ c.loop-index.placing =
          subst (λ b. OnFalse b (c.add_known.new.self ≡ c.loop-index.placing)) w.if-not-branch.true c.in_ok-add_known.ensures.kept in
          let before : HasPlaces spans keys i c.add_known.new.self = subst (HasPlaces spans keys i) (sym kept) c.loop-index.invariant in
          subst (HasPlaces spans keys (i + 1)) (sym w.placing-is) (w.in_ok-add_new.ensures spans keys i s w.get.ensures next before)
      | else-not-branch w ↦
          subst (HasPlaces spans keys (i + 1)) (sym w.placing-is)
          (subst (λ b. OnTrue b (HasPlaces spans keys (i + 1) c.add_known.new.self)) w.if-not-branch.false
          (c.in_ok-add_known.ensures.added spans keys i s next c.loop-index.invariant))
    ]

pub returns-clause-places : goal.returns-clause-places
returns-clause-places c =
    let spans = c.args.trace.now in
    let all : take c.loop-index.index spans ≡ spans = search (rules, take_all) in
    c.into_parts.ensures.places ∙ c.loop-index.invariant.places ∙ ap (map (process_place (processes_of spans))) all

pub returns-clause-processes : goal.returns-clause-processes
returns-clause-processes c =
    let spans = c.args.trace.now in
    let all : take c.loop-index.index spans ≡ spans = search (rules, take_all) in
    ap (map first_process) c.into_parts.ensures.processes ∙ c.loop-index.invariant.processes ∙ ap processes_of all
