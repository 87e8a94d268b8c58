use Rattle.std.proofs.Common.{ℕ, ◌≡◌, false, sym, ◌∙◌, subst}
use Rattle.http_requests.specs.LineEnds.{is_due}
use Rattle.http_requests.proofs.searching.look_when_due.Goals as goal

pub returns-else-is_due : goal.returns-else-is_due
returns-else-is_due g c = g.met.S.Search.awaited_still c.args.bytes.now c.args.seen c.requires.before
    (subst (λ (most : ℕ). is_due c.args.bytes.now c.args.seen most ≡ false) c.MAX_LENGTH.ensures (sym c.is_due.ensures ∙ c.if-is_due.false))
