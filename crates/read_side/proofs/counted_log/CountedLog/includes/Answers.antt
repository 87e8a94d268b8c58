use Rattle.std.proofs.Common.{◌≡◌, ◌==◌, List, ap, sym, subst, ◌∙◌}
use mathlib.Core.List.{IsPrefix}
use prog.Atomic.{either}
use Rattle.logbook.specs.Pages.{step}
use Rattle.read_side.specs.declared.log_steps.Link.{Link}
use Rattle.read_side.specs.LogSteps.{LacksKey, next_key, key_in}
use Rattle.read_side.proofs.LogLists.{seen_prefix}
use Rattle.read_side.proofs.LogSteps.{look_moves}
use Rattle.read_side.proofs.counted_log.CountedLog.includes.Goals as goal

pub compare_exchange-requires : goal.compare_exchange-requires
compare_exchange-requires g c =
    let head = c.self.invariant.head_is in
    let at = sym (ap (λ w. w.book) head) in
    let offer = c.plain-offer.ensures in (
      ap (λ w. w.tracked) head,
      c.learn.ensures.0 ∙ (ap (λ s. s.book) c.again-both.ensures ∙ at),
      c.self.invariant.pen_book_is ∙ at,
      offer.0,
      rw (ap (λ w. w.key) head, offer.3)
          (look_moves c.learn.new.self.log c.self.inside.pen.nib (step 0 0 0 c.plain-offer.result.ask) (λ n. either (n == 0) 0 n) c.self.invariant.right_is),
    )

pub returns-clause-prefix : goal.returns-clause-prefix
returns-clause-prefix g c =
    let own = c.self.inside.seen.log in
    let both = c.learn.new.self.log in
    let all = c.compare_exchange.new.seen.log in
    let book = ap (λ s. s.book) c.seen.view_is ∙ (c.requires ∙ sym (ap (λ s. s.book) c.self.view_is)) in
    let first : key_in c.seen.inside.first.log ≡ key_in c.self.inside.first.log = ap (λ b. b.first) book in
    let mine : IsPrefix own both = subst (λ (l : List (Link g.row.T.Denot)). IsPrefix l both) (ap (λ s. s.log) c.again-both.ensures) c.learn.ensures.2 in
    let lacks : LacksKey (next_key (key_in c.self.inside.first.log) own) all = rw (← c.self.invariant.key_is) c.compare_exchange.ensures.7.1 in
    rw (← c.seen.view_is, ← c.self.view_is)
    (seen_prefix (key_in c.self.inside.first.log) (key_in c.seen.inside.first.log) own c.seen.inside.seen.log both all first mine
    c.learn.ensures.3 c.compare_exchange.ensures.6 lacks)
