use Rattle.std.proofs.Common.{rules, w16, ◌≡◌, pos, refl, sym}
use Rattle.std.proofs.lemmas.Int.{to_z-of_z}
use mir.Val.{SFits}
use Rattle.batch_codec.specs.ProcessReading.{take_process}
use Rattle.batch_codec.specs.TagReading.{tag_at}
use Rattle.struct_pieces.proofs.NewLists.{enlisted}
use Rattle.struct_pieces.proofs.process.OwnedProcessSlotsFields.enter.Goals as goal

pub returns-in_default-clause-continues : goal.returns-in_default-clause-continues
returns-in_default-clause-continues c =
    let f : SFits w16 c.args.id = search rules in
    simp to_z-of_z at c.enter_in_pieces.ensures.continues

pub returns-in-15-eq2-clause-continues : goal.returns-in-15-eq2-clause-continues
unfolding take_process tag_at
returns-in-15-eq2-clause-continues c =
    let i : c.args.id ≡ pos 2 = rw c.in-15-eq2.is-1 at (sym (to_z-of_z w16 c.args.id c.ranges.id)) in
    rw (c.in-15-eq2.is-0, i) (rw (sym c.self.view_is)
    (enlisted (λ s. s) (λ s. record { service = c.self.inside.service; tags = s }) _ _ _ _ _ _ _ _ _ _ c.enter_list.ensures.continues
    (λ p v is w. rw is.1 refl)))
