-- Examples: what the definitions say of single inputs.
use Rattle.std.proofs.Common.{◌≡◌, [], ◌∷◌, Some, Ok, Err, refl, negsuc}
use Rattle.thrift_binary.specs.declared.fault.WireError.TheVariants.{Truncated, BadLength, BadType, TooDeep, BadBool}
use Rattle.thrift_binary.specs.Reading.{bool_at, size_at, field_at, list_at}
use Rattle.thrift_binary.specs.Skipping.{value_at, items, times}

-- all bytes of a head are read before it is checked
field_cut_short : field_at (255 ∷ 0 ∷ []) ≡ Err Truncated
unfolding field_at
field_cut_short = refl

field_of_no_type : field_at (255 ∷ 0 ∷ 1 ∷ []) ≡ Err BadType
unfolding field_at
field_of_no_type = refl

-- ids are signed
field_below_zero : field_at (10 ∷ 255 ∷ 254 ∷ 9 ∷ []) ≡ Ok (Some (10, negsuc 1), 9 ∷ [])
unfolding field_at
field_below_zero = refl

-- the size is checked before the type, and the type of an empty list isn't checked
size_before_type : list_at (16 ∷ 255 ∷ 255 ∷ 255 ∷ 255 ∷ []) ≡ Err BadLength
unfolding list_at size_at
size_before_type = refl

type_after_size : list_at (16 ∷ 127 ∷ 255 ∷ 255 ∷ 255 ∷ []) ≡ Err BadType
unfolding list_at size_at
type_after_size = refl

type_of_nothing : list_at (16 ∷ 0 ∷ 0 ∷ 0 ∷ 0 ∷ 7 ∷ []) ≡ Ok ((16, 0), 7 ∷ [])
unfolding list_at size_at
type_of_nothing = refl

two_is_no_bool : bool_at (2 ∷ []) ≡ Err BadBool
unfolding bool_at
two_is_no_bool = refl

-- one level of containers is there for an empty list, and none for a list inside it
one_level : value_at 1 15 (15 ∷ 0 ∷ 0 ∷ 0 ∷ 0 ∷ 9 ∷ []) ≡ Ok (tt, 9 ∷ [])
unfolding value_at items times list_at size_at
one_level = refl

too_deep : value_at 1 15 (15 ∷ 0 ∷ 0 ∷ 0 ∷ 1 ∷ []) ≡ Err TooDeep
unfolding value_at items times list_at size_at
too_deep = refl
