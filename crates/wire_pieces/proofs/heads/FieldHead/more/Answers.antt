use Rattle.std.proofs.lemmas.Result.{err_from_is_err_and}
use Rattle.wire_pieces.specs.Heads.{head_of}
use Rattle.wire_pieces.proofs.Steps.{comes-reaches, comes-refused}
use Rattle.wire_pieces.proofs.HeadSteps.{head-typed}
use Rattle.wire_pieces.proofs.heads.FieldHead.more.Goals as goal

pub returns-in_err-head-in-First-clause-reads : goal.returns-in_err-head-in-First-clause-reads
returns-in_err-head-in-First-clause-reads c =
    let p = err_from_is_err_and c.from_residual.result c.from_residual.ensures.1 in
    rw (p.1, p.2) (comes-refused _ _ _ _ _
    (head-typed c.args.self.now (record { code = c.in-Some.code; id = c.new.result })
    _ _ c.in-First.is c.in-Some.ensures c.if-code-eq-STOP.false c.new.ensures.nothing) c.in_err-head-in-First.ensures.reads)

pub returns-in_ok-head-in-First-clause-reads : goal.returns-in_ok-head-in-First-clause-reads
returns-in_ok-head-in-First-clause-reads c =
    comes-reaches head_of _ _ _ (head-typed c.args.self.now (record { code = c.in-Some.code; id = c.new.result })
    _ _ c.in-First.is c.in-Some.ensures c.if-code-eq-STOP.false c.new.ensures.nothing) c.in_ok-head-in-First.ensures.reads
