use Rattle.std.proofs.Common.{◌≡◌, ap, sym, ◌∙◌}
use Rattle.read_side.specs.LogSteps.{key_in}
use Rattle.read_side.proofs.LogLists.{items_prefix}
use Rattle.read_side.proofs.counted_log.SeenLog.learn.Goals as goal

pub returns-clause-own : goal.returns-clause-own
returns-clause-own g c = rw (← c.self.view_is) (items_prefix (key_in c.self.inside.first.log) c.self.inside.seen.log c.learn.new.self.log c.learn.ensures.2)

pub returns-clause-other : goal.returns-clause-other
returns-clause-other g c =
    let book = ap (λ s. s.book) c.other.view_is ∙ (c.requires ∙ sym (ap (λ s. s.book) c.self.view_is)) in
    let first : key_in c.other.inside.first.log ≡ key_in c.self.inside.first.log = ap (λ b. b.first) book in
    rw (← c.other.view_is, first) (items_prefix (key_in c.self.inside.first.log) c.other.inside.seen.log c.learn.new.self.log c.learn.ensures.3)
