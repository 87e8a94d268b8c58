use Rattle.std.proofs.Common.{rules, inl, inr, ◌≡◌}
use Rattle.std.proofs.lemmas.Result.{err_from_is_err_and}
use Rattle.text_lines.specs.declared.run_error.RunError.TheVariants.{Device, Memory}
use Rattle.text_lines.proofs.HandledLines.{all_answered, all_lost, some_answered, some_left}
use Rattle.text_lines.proofs.answering.answer_lines.Goals as goal

pub returns-in_err-flush-in-Ok-clause-some : goal.returns-in_err-flush-in-Ok-clause-some
returns-in_err-flush-in-Ok-clause-some g c =
    let p = err_from_is_err_and c.from_residual.result c.from_residual.ensures.1 in
    rw (p.1, p.2) (all_lost _ _ _ _ _ _ _ _ _ _ _ c.in-Ok.ensures.all c.flush.ensures.moves
    c.in_err-flush-in-Ok.ensures.err.0 c.in_err-flush-in-Ok.ensures.err.1)

pub returns-in_err-flush-in-Err-Memory-clause-some : goal.returns-in_err-flush-in-Err-Memory-clause-some
returns-in_err-flush-in-Err-Memory-clause-some g c =
    let p = err_from_is_err_and c.from_residual-in_err-flush-in-Err-Memory.result c.from_residual-in_err-flush-in-Err-Memory.ensures.1 in
    rw (p.1, p.2, c.in_err-flush-in-Err-Memory.ensures.err.0) (some_answered _ _ _ _ _ _ _ _ _ _ Device c.in-Err-Memory.ensures.some
    c.flush-in-Err-Memory.ensures.moves (λ why. inr (inl c.in_err-flush-in-Err-Memory.ensures.err.1)))

pub returns-in-Err-Memory-clause-some : goal.returns-in-Err-Memory-clause-some
returns-in-Err-Memory-clause-some g c =
    let memory : c.in-Err-Memory.field-0 ≡ Memory = search rules in
    some_answered _ _ _ _ _ _ _ _ _ _ Memory c.in-Err-Memory.ensures.some c.flush-in-Err-Memory.ensures.moves
    (λ why. let w = rw memory at why in (w.0, c.in_ok-flush-in-Err-Memory.ensures.works))

pub returns-clause-some : goal.returns-clause-some
returns-clause-some g c = some_left _ _ _ Device c.in-Err-Device.field-0-is c.in-Err-Device.ensures.some

pub returns-in-Ok-clause-all : goal.returns-in-Ok-clause-all
returns-in-Ok-clause-all g c =
    all_answered _ _ _ _ _ _ _ _ _ c.in-Ok.ensures.all (rw c.in_ok-flush-in-Ok.ensures.ok at c.flush.ensures.moves)
