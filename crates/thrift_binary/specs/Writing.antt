-- The one spelling in which each value is written, and what a call on an output does.
use Rattle.std.specs.Prelude.{◌≡◌, ℕ, ℤ, ◌^◌, List, [], ◌∷◌, ◌++◌, length, Bool, true, false, nat_lt, Result, Ok, Err, MatchBool, FitsSigned, codes}
use Rattle.std.specs.Int.{w16, w32, w64, cast_unsigned}
use Rattle.std.specs.List.{flat_map}
use Rattle.byteorder.specs.Endian.{big_bytes}
use Rattle.thrift_binary.specs.Reading.{is_code}
use Rattle.thrift_binary.specs.Spelling.{Field}
use Rattle.thrift_binary.specs.declared.out.WriteError.{WriteError}
use Rattle.thrift_binary.specs.declared.out.WriteError.TheVariants.{BadLength, Memory}

-- a bool: 1 for true
abbrev pub bool_text : Bool → List ℕ
bool_text true = 1 ∷ []
bool_text false = 0 ∷ []

-- a big-endian number in two's complement
unfoldable pub i32_text : ℤ → List ℕ
i32_text z = big_bytes 4 (cast_unsigned w32 z)

unfoldable pub i64_text : ℤ → List ℕ
i64_text z = big_bytes 8 (cast_unsigned w64 z)

-- a length or a size
unfoldable pub size_text : ℕ → List ℕ
size_text n = big_bytes 4 n

-- a string: its length, then its bytes
unfoldable pub string_text : List ℕ → List ℕ
string_text bytes = size_text (length bytes) ++ bytes

-- a field's type and id
unfoldable pub field_text : ℕ → ℤ → List ℕ
field_text c i = c ∷ big_bytes 2 (cast_unsigned w16 i)

-- a head can spell the field's type, which is one of the table's, and its id
abbrev pub HasHead : Field → Type 0
HasHead f = FitsSigned w16 f.id × (is_code f.code ≡ true)

-- the byte after a struct's last field
abbrev pub stop_text : List ℕ
stop_text = 0 ∷ []

-- the type and the number of a list's elements
unfoldable pub list_head_text : ℕ → ℕ → List ℕ
list_head_text c n = c ∷ size_text n

-- a sequence of fields, and the stop byte
abbrev pub fields_text : List Field → List ℕ
fields_text [] = stop_text
fields_text (f ∷ fs) = field_text f.code f.id ++ (f.text ++ fields_text fs)

-- a list of values of the type c, each with its own text
abbrev pub list_text : {A : Type 0} → ℕ → (A → List ℕ) → List A → List ℕ
list_text c one xs = list_head_text c (length xs) ++ flat_map one xs

-- an error's name, which is how it prints
abbrev pub refusal_name : WriteError → List ℕ
refusal_name BadLength = codes "BadLength"
refusal_name Memory = codes "NoMemory"

-- A call on an output `old` left `new`: the text is appended, or, without memory for it, nothing is written.
abbrev pub Writes : List ℕ → List ℕ → Result (Unit {0}) WriteError → List ℕ → Type 0
Writes text old (Ok x) new = new ≡ old ++ text
Writes text old (Err e) new = (e ≡ Memory) × (new ≡ old)

-- Like `Writes`, for a text with a length or a size of n; an n that doesn't fit a signed number of four bytes is refused, and nothing is written.
abbrev pub WritesSized : ℕ → List ℕ → List ℕ → Result (Unit {0}) WriteError → List ℕ → Type 0
WritesSized n text old result new = MatchBool (nat_lt n (2 ^ 31)) (Writes text old result new) ((result ≡ Err BadLength) × (new ≡ old))
