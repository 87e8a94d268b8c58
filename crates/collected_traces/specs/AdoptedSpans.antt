-- Spans as a store answers them.
use Rattle.jaeger_model.specs.declared.placed.Placed.{Placed}
use Rattle.jaeger_model.specs.Parents.{with_parent}

-- with its parent among its references
abbrev pub adopted : Placed → Placed
adopted p = record { process = p.process; span = with_parent p.span }
