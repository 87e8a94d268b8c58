-- The value of a held pass, which stays inside.
use Rattle.std.specs.Prelude.{◌≡◌, true, List}
use Rattle.std.specs.Borrow.{MutBor}
use Rattle.trace_model.specs.declared.entry.Entry.{Entry}
use Rattle.read_side.specs.declared.held.Held.{Held}
use Rattle.read_side.specs.Passes.{PassValue}

-- the pass, by the borrow that is kept
abbrev pub pass_of : {N : Type 0} → Held N → MutBor PassValue
pass_of h = h.pass

-- the list that is held
abbrev pub held_list : {N : Type 0} → Held N → List Entry
held_list h = (pass_of h).now.known

-- it is inside that list
abbrev pub IsInside : {N : Type 0} → Held N → Type 0
IsInside h = (pass_of h).now.is_inside ≡ true
