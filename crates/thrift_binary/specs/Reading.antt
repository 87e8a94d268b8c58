-- Reading from left to right, with the first fault.
use Rattle.std.specs.Prelude.{◌≡◌, ℕ, ℤ, ◌^◌, List, [], ◌∷◌, length, take, drop, Option, Some, None, Result, Ok, Err, Bool, true, false, ◌&&◌, ◌||◌, nat_lt}
use Rattle.std.specs.Prelude.{◌==◌, if◌then◌else◌}
use Rattle.std.specs.Int.{Width, w16, cast_signed}
use Rattle.byteorder.specs.Endian.{big_number}
use Rattle.thrift_binary.specs.declared.fault.WireError.{WireError}
use Rattle.thrift_binary.specs.declared.fault.WireError.TheVariants.{Truncated, BadLength, BadType, BadBool}

-- the value, and the bytes after it
abbrev pub Read : Type 0 → Type 0
Read A = Result (A × List ℕ) WireError

infixl 10 ◌>>=◌
abbrev pub ◌>>=◌ : {A B E : Type 0} → Result A E → (A → Result B E) → Result B E
(Ok x) >>= f = f x
(Err e) >>= f = Err e

-- a reading whose faults are those of a larger table
abbrev pub lift : {A E : Type 0} → (WireError → E) → Result A WireError → Result A E
lift wire (Ok x) = Ok x
lift wire (Err e) = Err (wire e)

-- A call on a cursor over `old` returned what the reading yields, and left the bytes after it; a call that failed left none.
abbrev pub Reads : {X Y : Type 0} → (X → Y) → (List ℕ → Read Y) → List ℕ → Result X WireError → List ℕ → Type 0
Reads view read old (Ok x) new = read old ≡ Ok (view x, new)
Reads view read old (Err e) new = (read old ≡ Err e) × (new ≡ [])

-- the first n bytes
abbrev pub bytes_at : ℕ → List ℕ → Read (List ℕ)
bytes_at n w = if nat_lt (length w) n then Err Truncated else Ok (take n w, drop n w)

-- one byte
abbrev pub byte_at : List ℕ → Read ℕ
byte_at [] = Err Truncated
byte_at (b ∷ w) = Ok (b, w)

-- a bool: the byte 1 is true, 0 is false, and no other is one
unfoldable pub bool_at : List ℕ → Read Bool
bool_at w = do
  b ← byte_at w
  if b.0 == 0 then Ok (false, b.1) else if b.0 == 1 then Ok (true, b.1) else Err BadBool

-- a big-endian number of n bytes
abbrev pub number_at : ℕ → List ℕ → Read ℕ
number_at n w = if nat_lt (length w) n then Err Truncated else Ok (big_number n w, drop n w)

abbrev pub signed_at : Width → ℕ → List ℕ → Read ℤ
signed_at width n w = if nat_lt (length w) n then Err Truncated else Ok (cast_signed width (big_number n w), drop n w)

-- the codes of the table
abbrev pub is_code : ℕ → Bool
is_code c = (c == 2) || (c == 3) || (c == 4) || (c == 6) || (c == 8) || (c == 10) || (nat_lt 10 c && nat_lt c 16)

-- a length or a size: a number of four bytes that isn't negative
unfoldable pub size_at : List ℕ → Read ℕ
size_at w = do
  n ← number_at 4 w
  if nat_lt n.0 (2 ^ 31) then Ok (n.0, n.1) else Err BadLength

-- a length and that many bytes
unfoldable pub string_at : List ℕ → Read (List ℕ)
string_at w = do
  n ← size_at w
  bytes_at n.0 n.1

abbrev pub stopped : List ℕ → Read (Option (ℕ × ℤ))
stopped rest = Ok (None, rest)

abbrev pub typed : ℕ → ℤ × List ℕ → Read (Option (ℕ × ℤ))
typed c i = if is_code c then Ok (Some (c, i.0), i.1) else Err BadType

-- after a field's type: its id; the type 0 is the stop byte
abbrev pub field_behind : ℕ → List ℕ → Read (Option (ℕ × ℤ))
field_behind c rest = if c == 0 then stopped rest else (signed_at w16 2 rest >>= typed c)

-- a field's type and id; None at the stop byte
unfoldable pub field_at : List ℕ → Read (Option (ℕ × ℤ))
field_at w = do
  c ← byte_at w
  field_behind c.0 c.1

-- a list's element type and size
unfoldable pub list_at : List ℕ → Read (ℕ × ℕ)
list_at w = do
  c ← byte_at w
  n ← size_at c.1
  if (n.0 == 0) || is_code c.0 then Ok ((c.0, n.0), n.1) else Err BadType

-- a map's key type, value type and size
unfoldable pub map_at : List ℕ → Read ((ℕ × ℕ) × ℕ)
map_at w = do
  k ← byte_at w
  v ← byte_at k.1
  n ← size_at v.1
  if (n.0 == 0) || (is_code k.0 && is_code v.0) then Ok (((k.0, v.0), n.0), n.1) else Err BadType
