-- The least number of bytes of a value, and parts of fields. Type codes are written out on purpose: they say those of the code a second time.
use Rattle.std.specs.Prelude.{◌≡◌, ℕ, ℤ, List, ◌++◌, ◌<◌, length, Option, Some, None, Ok, Err, ◌||◌, ◌==◌, if◌then◌else◌}
use Rattle.thrift_binary.specs.declared.fault.WireError.TheVariants.{Truncated}
use Rattle.thrift_binary.specs.Reading.{◌>>=◌, field_at}
use Rattle.thrift_binary.specs.Skipping.{Skip, past, text, width}

-- the least number of bytes of a value of a type: 0 if no type has the code
abbrev pub least : ℕ → ℕ
least c =
    if c == 11 then 4
    else if c == 12 then 1
    else if c == 13 then 6
    else if (c == 14) || (c == 15) then 5
    else width c

-- that number of bytes of a value, and all bytes of a string: with fewer, the only fault of a value of the type is too few bytes
unfoldable pub least_bytes : ℕ → Skip
least_bytes c w = if c == 11 then text w else past (least c) w

abbrev pub part_after_head : Option (ℕ × ℤ) → Skip
part_after_head None w = Ok (tt, w)
part_after_head (Some f) w = least_bytes f.0 w

-- a part of a field, whose only fault is too few bytes
abbrev pub IsTooShort : List ℕ → Type 0
IsTooShort w = (field_at w >>= λ h. part_after_head h.0 h.1) ≡ Err Truncated

-- with fewer than n bytes more these are a part of a field, whatever follows
abbrev pub AreQuiet : List ℕ → ℕ → Type 0
AreQuiet w n = (v : List ℕ) → length v < n → IsTooShort (w ++ v)
