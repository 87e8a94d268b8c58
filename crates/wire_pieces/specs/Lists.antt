-- A partially received list of values of one type.
use Rattle.std.specs.Prelude.{ℕ, List, [], ◌∷◌, ◌++◌, Result, Ok, Err, ◌||◌, ◌==◌, if◌then◌else◌}
use Rattle.thrift_binary.specs.declared.fault.WireError.{WireError}
use Rattle.thrift_binary.specs.declared.fault.WireError.TheVariants.{BadType}
use Rattle.thrift_binary.specs.Reading.{◌>>=◌, lift}
use Rattle.thrift_binary.specs.Lists.{items_at}
use Rattle.wire_pieces.specs.Pieces.{Reader}
use Rattle.wire_pieces.specs.declared.heads.ListHead.{ListHead}
use Rattle.wire_pieces.specs.Heads.{list_head}

-- after the items that have arrived
abbrev pub with_beginning : {A E : Type 0} → List A → Result (List A × List ℕ) E → Result (List A × List ℕ) E
with_beginning beginning read = read >>= λ x. Ok (beginning ++ x.0, x.1)

-- after the items that have arrived, a partially received one, and n others
unfoldable pub items_from : {A E : Type 0} → Reader A E → List A → ℕ → Reader A E → Reader (List A) E
items_from one items n now w = now w >>= λ x. with_beginning (items ++ x.0 ∷ []) (items_at one n x.1)

-- what follows the head of a list of values of the type c
abbrev pub items_after_head : {A E : Type 0} → (WireError → E) → ℕ → Reader A E → ℕ × ℕ → Reader (List A) E
items_after_head wire c one h w = if (h.1 == 0) || (h.0 == c) then items_at one h.1 w else Err (wire BadType)

-- a list with a partially received head
abbrev pub list_head_from : {A E : Type 0} → (WireError → E) → ℕ → Reader A E → ListHead → Reader (List A) E
list_head_from wire c one p w = lift wire (list_head p w) >>= λ h. items_after_head wire c one h.0 h.1
