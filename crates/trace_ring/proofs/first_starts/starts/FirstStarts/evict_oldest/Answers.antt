use Rattle.std.proofs.Common.{◌∙◌, ap, sym, drop}
use Rattle.std.proofs.lemmas.List.{drop-drop}
use Rattle.trace_ring.specs.FirstStarts.{Starts}
use Rattle.trace_ring.proofs.first_starts.starts.FirstStarts.evict_oldest.Goals as goal

pub returns-then-self-len-clause-starts : goal.returns-then-self-len-clause-starts
returns-then-self-len-clause-starts c =
    sym (drop-drop 1 c.self.inside.evicted c.self.inside.opened.items) ∙ ap (λ (s : Starts). drop 1 s.starts) c.self.view_is
