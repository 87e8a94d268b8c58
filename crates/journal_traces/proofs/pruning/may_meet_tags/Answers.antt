use Rattle.std.proofs.Common.{◌∙◌, sym, eqb-true, below_more, arith, get_or, bit_or}
use Rattle.journal_traces.proofs.TagMasks.{unmarked, all_marked_by}
use Rattle.journal_traces.proofs.pruning.may_meet_tags.Goals as goal

pub returns-then-not-covers : goal.returns-then-not-covers
returns-then-not-covers c = λ asked is.
    sym (unmarked c.args.bits.now c.args.mask.now asked c.loop-word.word is (sym c.covers.ensures ∙ c.if-not-covers.true))

pub loop-word-preserved : goal.loop-word-preserved
loop-word-preserved c =
    let bits = c.args.bits.now in
    let mask = c.args.mask.now in
    let word = c.loop-word.word in
    below_more _ _ c.loop-word.invariant (eqb-true (bit_or (get_or bits word 0) (get_or mask word 0)) (get_or bits word 0)
    (sym c.covers.ensures ∙ c.if-not-covers.false))

pub returns : goal.returns
returns c = λ asked is. sym (all_marked_by c.args.bits.now c.args.mask.now asked c.loop-word.word (omega arith) is c.loop-word.invariant)
