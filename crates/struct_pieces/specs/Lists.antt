-- A partially received list of structs. The type code of a struct, 12, is written out on purpose.
use Rattle.std.specs.Prelude.{ℕ, List, [], ◌∷◌, ◌++◌, Option, Some, None, Result}
use Rattle.thrift_binary.specs.Reading.{◌>>=◌}
use Rattle.thrift_binary.specs.Lists.{items_at}
use Rattle.wire_pieces.specs.Lists.{list_head_from, items_from, with_beginning}
use Rattle.batch_codec.specs.declared.fault.DecodeError.{DecodeError}
use Rattle.batch_codec.specs.Decoding.{Reading, wire}
use Rattle.wire_pieces.specs.declared.heads.ListHead.{ListHead}

-- What has arrived of a list: its complete items, the number of those after the next one, its head, and what has arrived
-- of the next item.
pub record ListState (A P : Type 0) : Type 0 where
  pub items : List A
  pub left : ℕ
  pub head : ListHead
  pub one : Option P

abbrev pub list_state : {A P : Type 0} → List A → ℕ → ListHead → Option P → ListState A P
list_state items left head one = record { items = items; left = left; head = head; one = one }

-- a list while no item has begun, and after that
abbrev pub list_part : {A P : Type 0} → Reading A → (P → Reading A) → Option P → Reading A
list_part head item None w = head w
list_part head item (Some p) w = item p w

abbrev pub list_from : {A P : Type 0} → Reading A → (P → Reading A) → ListState A P → Reading (List A)
list_from one resumes list w =
    list_part (list_head_from wire 12 one list.head) (λ p. items_from one list.items list.left (resumes p)) list.one w

-- n items after those that have arrived
abbrev pub items_after : {A : Type 0} → Reading A → List A → ℕ → Reading (List A)
items_after one items n w = with_beginning items (items_at one n w)

-- after the items that have arrived, one whose bytes have arrived, which may be a fault, and n others
abbrev pub items_ended : {A : Type 0} → Reading A → List A → ℕ → Result A DecodeError → Reading (List A)
items_ended one items n end w = end >>= λ x. with_beginning (items ++ x ∷ []) (items_at one n w)
