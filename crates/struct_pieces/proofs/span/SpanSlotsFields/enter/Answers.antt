use Rattle.std.proofs.Common.{rules, w16, ◌≡◌, pos, refl, sym}
use Rattle.std.proofs.lemmas.Int.{to_z-of_z}
use mir.Val.{SFits}
use Rattle.batch_codec.specs.SpanReading.{take_span}
use Rattle.batch_codec.specs.ReferenceReading.{reference_at}
use Rattle.batch_codec.specs.TagReading.{tag_at}
use Rattle.batch_codec.specs.LogReading.{log_at}
use Rattle.struct_pieces.proofs.NewLists.{enlisted}
use Rattle.struct_pieces.proofs.span.SpanSlotsFields.enter.Goals as goal

pub returns-in_default-clause-continues : goal.returns-in_default-clause-continues
returns-in_default-clause-continues c =
    let f : SFits w16 c.args.id = search rules in
    simp to_z-of_z at c.enter_in_pieces.ensures.continues

pub returns-in-15-eq6-clause-continues : goal.returns-in-15-eq6-clause-continues
unfolding take_span reference_at
returns-in-15-eq6-clause-continues c =
    let i : c.args.id ≡ pos 6 = rw c.in-15-eq6.is-1 at (sym (to_z-of_z w16 c.args.id c.ranges.id)) in
    rw (c.in-15-eq6.is-0, i) (enlisted (λ s. s) (λ s. record c.args.self.now { references = s }) _ _ _ _ _ _ _ _ _ _ c.enter_list.ensures.continues
    (λ p v is w. rw is.1 refl))

pub returns-in-15-eq10-clause-continues : goal.returns-in-15-eq10-clause-continues
unfolding take_span tag_at
returns-in-15-eq10-clause-continues c =
    let i : c.args.id ≡ pos 10 = rw c.in-15-eq10.is-1 at (sym (to_z-of_z w16 c.args.id c.ranges.id)) in
    rw (c.in-15-eq10.is-0, i) (enlisted (λ s. s) (λ s. record c.args.self.now { tags = s }) _ _ _ _ _ _ _ _ _ _ c.enter_list-in-15-eq10.ensures.continues
    (λ p v is w. rw is.1 refl))

pub returns-in-15-eq11-clause-continues : goal.returns-in-15-eq11-clause-continues
unfolding take_span log_at
returns-in-15-eq11-clause-continues c =
    let i : c.args.id ≡ pos 11 = rw c.in-15-eq11.is-1 at (sym (to_z-of_z w16 c.args.id c.ranges.id)) in
    rw (c.in-15-eq11.is-0, i) (enlisted (λ s. s) (λ s. record c.args.self.now { logs = s }) _ _ _ _ _ _ _ _ _ _ c.enter_list-in-15-eq11.ensures.continues
    (λ p v is w. rw is.1 refl))
