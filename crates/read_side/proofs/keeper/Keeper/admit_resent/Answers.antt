use Rattle.std.proofs.Common.{rules, ◌≡◌, ◌∙◌, ◌++◌, List, ap, sym, subst, Some}
use Rattle.std.proofs.lemmas.List.{append-nil}
use Rattle.std.specs.Arc.{arc_value}
use Rattle.trace_model.specs.declared.entry.Entry.{Entry}
use Rattle.trace_model.specs.Places.{entry_at}
use Rattle.read_side.specs.Keepers.{Lists, accepted}
use Rattle.read_side.specs.Receipts.{StandsAt}
use Rattle.read_side.proofs.AdmittedPlaces.{entry_stands}
use Rattle.read_side.proofs.keeper.Keeper.admit_resent.Goals as goal
use Rattle.read_side.proofs.keeper.Keeper.admit_resent.Goals.{else-has_pending-via-then-has_pending+else-not-publish, else-has_pending-via-else-has_pending}

pub receipt_for-requires : goal.receipt_for-requires
receipt_for-requires g c =
    let old = c.args.self.now in
    let e : Entry = arc_value c.in_ok-entry.entry in
    let at : entry_at c.self.inside.journal.held.entries c.args.place ≡ Some e = search rules in
    let found : entry_at (accepted old) c.args.place ≡ Some e =
    ap (λ (h : List Entry). entry_at h c.args.place) (sym (c.self.invariant.2 ∙ ap accepted c.self.view_is)) ∙ at in
    let shown : c.else-has_pending.self.published ≡ accepted old = elim c.else-has_pending.branch [
      | else-has_pending-via-then-has_pending+else-not-publish w ↦ ap (λ (l : Lists). l.published) (w.self-is ∙ w.if-not-publish.ensures)
      | else-has_pending-via-else-has_pending w ↦
          ap (λ (l : Lists). l.published) w.self-is
          ∙ (sym (append-nil old.published) ∙ ap (λ (z : List Entry). old.published ++ z) (sym w.if-has_pending.ensures))
    ] in
    subst (λ (h : List Entry). StandsAt h c.args.place e) (sym shown) (entry_stands (accepted old) c.args.place e found)
