use Rattle.std.proofs.Common.{◌≡◌, true, false, Ok, Some, refl}
use Rattle.std.specs.Option.{is_some}
use Rattle.std.proofs.lemmas.Result.{err_from_is_err_and}
use Rattle.wire_pieces.proofs.Steps.{reaches-none, reaches-some, waits-inside, refused-inside}
use Rattle.wire_pieces.proofs.SkipSteps.{now-waits, now-refused, now-done, size-next, list-next, map-next, field-waits, field-refused, field-stop, field-value}
use Rattle.wire_pieces.proofs.SkipSteps.{comes-progress, progresses-state, refused-state, comes-to-state}
use Rattle.wire_pieces.specs.declared.skip.SkipProgress.TheVariants as progress
use Rattle.wire_pieces.proofs.skip.Skipping.step.Goals as goal

pub returns-in-Nothing-clause-progress : goal.returns-in-Nothing-clause-progress
returns-in-Nothing-clause-progress c = c.between_values.ensures.progress c.args.piece.now

pub returns-then-is_none-clause-progress : goal.returns-then-is_none-clause-progress
returns-then-is_none-clause-progress c =
    let none : is_some c.more.result ≡ false = c.if-is_none.ensures in
    progresses-state _ _ _ _ c.in-Past.is refl _ _ _ (Ok progress.NeedsMore)
    (now-waits _ _ _ _ _ (reaches-none _ _ _ _ _ none c.more.ensures.reads))

pub returns-else-is_none-clause-progress : goal.returns-else-is_none-clause-progress
returns-else-is_none-clause-progress c =
    let some : is_some c.more.result ≡ true = c.if-is_none.ensures in
    progresses-state _ _ _ _ c.in-Past.is refl _ _ _ (Ok progress.Continue) (now-done _ _ _ _ (reaches-some _ _ _ _ _ some c.more.ensures.reads))

pub returns-in_err-size-in-Size-clause-progress : goal.returns-in_err-size-in-Size-clause-progress
returns-in_err-size-in-Size-clause-progress c =
    let p = err_from_is_err_and c.from_residual.result c.from_residual.ensures.1 in
    rw (p.1, p.2) (refused-state _ _ _ _ c.in-Size.is refl _ _ (now-refused _ _ _ _ (refused-inside _ _ _ _ c.in_err-size-in-Size.ensures.reads)))

pub returns-in_default-clause-progress : goal.returns-in_default-clause-progress
returns-in_default-clause-progress c =
    progresses-state _ _ _ _ c.in-Size.is refl _ _ _ (Ok progress.NeedsMore)
    (now-waits _ _ _ _ _ (waits-inside _ (rw c.in_default.is at c.in_ok-size-in-Size.ensures.reads)))

pub returns-in-Some-clause-progress : goal.returns-in-Some-clause-progress
returns-in-Some-clause-progress c =
    progresses-state _ _ _ _ c.in-Size.is refl _ _ _ (Ok progress.Continue)
    (size-next _ _ _ _ _ _ c.skip_bytes-self.ensures.reads (rw c.in-Some.is at c.in_ok-size-in-Size.ensures.reads))

pub returns-in_err-more-in-Field-clause-progress : goal.returns-in_err-more-in-Field-clause-progress
returns-in_err-more-in-Field-clause-progress c =
    let p = err_from_is_err_and c.from_residual-in_err-more-in-Field.result c.from_residual-in_err-more-in-Field.ensures.1 in
    rw (p.1, p.2) (refused-state _ _ _ _ c.in-Field.is refl _ _ (field-refused _ _ _ _ c.in_err-more-in-Field.ensures.reads))

pub returns-in-None-clause-progress : goal.returns-in-None-clause-progress
returns-in-None-clause-progress c =
    progresses-state _ _ _ _ c.in-Field.is refl _ _ _ (Ok progress.NeedsMore) (field-waits _ _ _ _ _ (rw c.in-None.is at c.in_ok-more-in-Field.ensures.reads))

pub returns-in-Some-Stop-clause-progress : goal.returns-in-Some-Stop-clause-progress
returns-in-Some-Stop-clause-progress c =
    progresses-state _ _ _ _ c.in-Field.is refl _ _ _ (Ok progress.Continue)
    (field-stop _ _ _ _ (rw (c.in-Some-Stop.is, c.in-Some-Stop.field-0-is) at c.in_ok-more-in-Field.ensures.reads))

pub returns-in-Some-Field-clause-progress : goal.returns-in-Some-Field-clause-progress
returns-in-Some-Field-clause-progress c =
    progresses-state _ _ _ _ c.in-Field.is refl _ _ _ _
    (comes-progress _ _ _ _ _ _ _ (field-value _ _ _ _ _ _ (rw (c.in-Some-Field.is, c.in-Some-Field.field-0-is) at c.in_ok-more-in-Field.ensures.reads))
    (c.begin.ensures.progress _))

pub returns-in_err-code-in-List-clause-progress : goal.returns-in_err-code-in-List-clause-progress
returns-in_err-code-in-List-clause-progress c =
    let p = err_from_is_err_and c.from_residual-in_err-code-in-List.result c.from_residual-in_err-code-in-List.ensures.1 in
    rw (p.1, p.2) (refused-state _ _ _ _ c.in-List.is refl _ _ (now-refused _ _ _ _ (refused-inside _ _ _ _ c.in_err-code-in-List.ensures.reads)))

pub returns-in_default-2-clause-progress : goal.returns-in_default-2-clause-progress
returns-in_default-2-clause-progress c =
    progresses-state _ _ _ _ c.in-List.is refl _ _ _ (Ok progress.NeedsMore)
    (now-waits _ _ _ _ _ (waits-inside _ (rw c.in_default-2.is at c.in_ok-code-in-List.ensures.reads)))

pub returns-in-Some-2-clause-progress : goal.returns-in-Some-2-clause-progress
returns-in-Some-2-clause-progress c =
    progresses-state _ _ _ _ c.in-List.is refl _ _ _ (Ok progress.Continue)
    (comes-to-state _ _ _ _ refl c.push.ensures.items _ _ _ (list-next _ _ _ _ _ _ (rw c.in-Some-2.is at c.in_ok-code-in-List.ensures.reads)))

pub returns-in_err-key-in-Map-clause-progress : goal.returns-in_err-key-in-Map-clause-progress
returns-in_err-key-in-Map-clause-progress c =
    let p = err_from_is_err_and c.from_residual-in_err-key-in-Map.result c.from_residual-in_err-key-in-Map.ensures.1 in
    rw (p.1, p.2) (refused-state _ _ _ _ c.in-Map.is refl _ _ (now-refused _ _ _ _ (refused-inside _ _ _ _ c.in_err-key-in-Map.ensures.reads)))

pub returns-in_default-3-clause-progress : goal.returns-in_default-3-clause-progress
returns-in_default-3-clause-progress c =
    progresses-state _ _ _ _ c.in-Map.is refl _ _ _ (Ok progress.NeedsMore)
    (now-waits _ _ _ _ _ (waits-inside _ (rw c.in_default-3.is at c.in_ok-key-in-Map.ensures.reads)))

pub returns-in-Some-3-clause-progress : goal.returns-in-Some-3-clause-progress
returns-in-Some-3-clause-progress c =
    progresses-state _ _ _ _ c.in-Map.is refl _ _ _ (Ok progress.Continue)
    (comes-to-state _ _ _ _ refl c.push-in-Map.ensures.items _ _ _ (map-next _ _ _ _ _ _ _ (rw c.in-Some-3.is at c.in_ok-key-in-Map.ensures.reads)))
