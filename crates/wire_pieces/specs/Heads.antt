-- Partially received heads, and the fields of a struct.
use Rattle.std.specs.Prelude.{◌≡◌, true, Some, None, Result, ℕ, ℤ, List, Option, Ok, Err, ◌&&◌, ◌||◌, ◌==◌, if◌then◌else◌}
use Rattle.wire_pieces.specs.declared.fault.PieceError.{PieceError}
use Rattle.thrift_binary.specs.declared.fault.WireError.{WireError}
use Rattle.thrift_binary.specs.declared.fault.WireError.TheVariants.{BadType}
use Rattle.thrift_binary.specs.Reading.{Read, ◌>>=◌, lift, byte_at, size_at, typed, field_at, list_at, map_at, is_code}
use Rattle.thrift_binary.specs.Fields.{Take, behind_field, fields_at}
use Rattle.wire_pieces.specs.Pieces.{Reader}
use Rattle.wire_pieces.specs.Numbers.{i16_from, size_from}
use Rattle.wire_pieces.specs.declared.heads.Head.{Head}
use Rattle.wire_pieces.specs.declared.heads.Head.TheVariants.{Field, Stop}
use Rattle.wire_pieces.specs.declared.heads.HeadStep.{HeadStep}
use Rattle.wire_pieces.specs.declared.heads.HeadStep.TheVariants as field
use Rattle.wire_pieces.specs.declared.heads.TypedId.{TypedId}
use Rattle.wire_pieces.specs.declared.heads.FieldHead.{FieldHead}
use Rattle.wire_pieces.specs.declared.heads.ListStep.{ListStep}
use Rattle.wire_pieces.specs.declared.heads.ListStep.TheVariants as list
use Rattle.wire_pieces.specs.declared.heads.TypedSize.{TypedSize}
use Rattle.wire_pieces.specs.declared.heads.ListHead.{ListHead}
use Rattle.wire_pieces.specs.declared.maps.PairStep.{PairStep}
use Rattle.wire_pieces.specs.declared.maps.PairStep.TheVariants as pair
use Rattle.wire_pieces.specs.declared.maps.PairSize.{PairSize}
use Rattle.wire_pieces.specs.declared.maps.PairHead.{PairHead}
use Rattle.wire_pieces.specs.declared.maps.MapStep.{MapStep}
use Rattle.wire_pieces.specs.declared.maps.MapStep.TheVariants as map
use Rattle.wire_pieces.specs.declared.maps.MapHead.{MapHead}

-- ---- the head of a field: its type, then its id

abbrev pub id_from : TypedId → List ℕ → Read (Option (ℕ × ℤ))
id_from p w = i16_from p.id w >>= typed p.code

abbrev pub field_from : HeadStep → List ℕ → Read (Option (ℕ × ℤ))
field_from field.First w = field_at w
field_from (field.Id p) w = id_from p w

abbrev pub head_from : FieldHead → List ℕ → Read (Option (ℕ × ℤ))
head_from h w = field_from h.step w

-- a head as it is read: there is none at the stop byte
abbrev pub head_of : Head → Option (ℕ × ℤ)
head_of (Field code id) = Some (code, id)
head_of Stop = None

-- the type of a field is one of the table
abbrev pub IsTyped : Result (Option Head) PieceError → Type 0
IsTyped (Ok (Some (Field code id))) = is_code code ≡ true
IsTyped (Ok (Some Stop)) = Unit {0}
IsTyped (Ok None) = Unit {0}
IsTyped (Err e) = Unit {0}

-- ---- the head of a list: the type of its elements, then its size

abbrev pub sized : ℕ → ℕ × List ℕ → Read (ℕ × ℕ)
sized c n = if (n.0 == 0) || is_code c then Ok ((c, n.0), n.1) else Err BadType

abbrev pub typed_size_from : TypedSize → List ℕ → Read (ℕ × ℕ)
typed_size_from p w = size_from p.size w >>= sized p.code

abbrev pub list_step_from : ListStep → List ℕ → Read (ℕ × ℕ)
list_step_from list.First w = list_at w
list_step_from (list.Sized p) w = typed_size_from p w

abbrev pub list_head : ListHead → List ℕ → Read (ℕ × ℕ)
list_head h w = list_step_from h.step w

-- ---- the head of a map: the types of its keys and values, then its size

abbrev pub pairs_sized : ℕ → ℕ → ℕ × List ℕ → Read ((ℕ × ℕ) × ℕ)
pairs_sized k v n = if (n.0 == 0) || (is_code k && is_code v) then Ok (((k, v), n.0), n.1) else Err BadType

abbrev pub behind_value : ℕ → ℕ × List ℕ → Read ((ℕ × ℕ) × ℕ)
behind_value k v = size_at v.1 >>= λ n. pairs_sized k v.0 n

abbrev pub pair_size_from : PairSize → List ℕ → Read ((ℕ × ℕ) × ℕ)
pair_size_from p w = size_from p.size w >>= λ n. pairs_sized p.key p.value n

abbrev pub pair_step_from : ℕ → PairStep → List ℕ → Read ((ℕ × ℕ) × ℕ)
pair_step_from k pair.First w = byte_at w >>= behind_value k
pair_step_from k (pair.Sized p) w = pair_size_from p w

abbrev pub pair_head : PairHead → List ℕ → Read ((ℕ × ℕ) × ℕ)
pair_head h w = pair_step_from h.key h.step w

abbrev pub map_step_from : MapStep → List ℕ → Read ((ℕ × ℕ) × ℕ)
map_step_from map.First w = map_at w
map_step_from (map.Keyed p) w = pair_head p w

abbrev pub map_head : MapHead → List ℕ → Read ((ℕ × ℕ) × ℕ)
map_head h w = map_step_from h.step w

-- ---- fields

-- the fields of a struct from a partially received head on
abbrev pub fields_head : {S E : Type 0} → (WireError → E) → Take S E → S → FieldHead → Reader S E
fields_head wire take s h w = lift wire (head_from h w) >>= λ x. behind_field (fields_at wire take) take s x.0 x.1

-- the fields of a struct from a partially received value on
abbrev pub fields_value : {S E : Type 0} → (WireError → E) → Take S E → Reader S E → Reader S E
fields_value wire take now w = now w >>= λ x. fields_at wire take x.0 x.1
