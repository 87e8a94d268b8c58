-- A history and its limits.
use Rattle.std.specs.Prelude.{List}
use Rattle.trace_model.specs.declared.entry.Entry.{Entry}
use Rattle.trace_model.specs.declared.limits.Limits.{Limits}

pub record LimitedHistory : Type 0 where
  pub limits : Limits
  pub entries : List Entry
