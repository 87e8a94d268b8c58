-- The value of a pass.
use Rattle.std.specs.Prelude.{List, [], Bool, false}
use Rattle.trace_model.specs.declared.entry.Entry.{Entry}

-- the list that it entered last, and the longest that it knows: that one, or a receipt's
pub record Known : Type 0 where
  pub entered : List Entry
  pub known : List Entry

-- what a pass knows, and whether it is inside: then it stays in the list that it entered, which is the one known
pub record PassValue : Type 0 where
  pub entered : List Entry
  pub known : List Entry
  pub is_inside : Bool

abbrev pub none_known : Known
none_known = record { entered = []; known = [] }

-- a pass that knows this, and is inside or not
abbrev pub with_inside : Known → Bool → PassValue
with_inside k inside = record { entered = k.entered; known = k.known; is_inside = inside }

-- a pass that was just made
abbrev pub new_pass : PassValue
new_pass = with_inside none_known false

-- it knows what it knew, and is outside
abbrev pub come_out : PassValue → PassValue
come_out p = record p { is_inside = false }
