-- Numbers and durations in a query's parameters.
use Rattle.std.specs.Prelude.{ℕ, ◌+◌, ◌*◌, ◌/◌, ◌^◌, ◌==◌, List, [], ◌∷◌, length, drop, Bool, not, Option, Some, None, option_and_then, if◌then◌else◌, nat_lt}
use Rattle.std.specs.Prelude.{codes}
use Rattle.std.specs.List.{before_first}
use Rattle.std.specs.Char.{is_ascii_digit}
use Rattle.jaeger_model.specs.Decimal.{is_digits, number_of}
use Rattle.jaeger_model.specs.Texts.{same_text}

abbrev pub up_to_limit : ℕ → Option ℕ
up_to_limit n = if nat_lt n (2 ^ 63) then Some n else None

-- 1 to 19 digits of at most 9223372036854775807
unfoldable pub read_number : List ℕ → Option ℕ
read_number text = if is_digits 19 text then up_to_limit (number_of text) else None

-- the microseconds of a unit
abbrev pub unit_of : List ℕ → Option ℕ
unit_of text =
    if same_text text (codes "us") then Some 1
    else if same_text text (codes "ms") then Some 1000
    else if same_text text (codes "s") then Some 1000000
    else if same_text text (codes "m") then Some 60000000
    else if same_text text (codes "h") then Some 3600000000
    else None

abbrev pub is_other : ℕ → Bool
is_other c = not (is_ascii_digit c)

-- the leading digits
abbrev pub front_digits : List ℕ → List ℕ
front_digits text = before_first is_other text

abbrev pub behind_digits : List ℕ → List ℕ
behind_digits text = drop (length (front_digits text)) text

-- the digits of the fraction, none if there is no point, and the text after them
abbrev pub fraction : List ℕ → Option (List ℕ × List ℕ)
fraction [] = Some ([], [])
fraction (b ∷ rest) = if b == 46 then (if is_digits 9 (front_digits rest) then Some (front_digits rest, behind_digits rest) else None) else Some ([], b ∷ rest)

-- the microseconds of a decimal number, given as the digits before and after its point, in a unit, rounded down
abbrev pub microseconds : List ℕ → List ℕ → ℕ → ℕ
microseconds whole part unit = (number_of whole * 10 ^ length part + number_of part) * unit / 10 ^ length part

-- 1 to 19 digits, optionally a point and 1 to 9 digits, and a unit
unfoldable pub read_duration : List ℕ → Option ℕ
read_duration text =
    if is_digits 19 (front_digits text) then
    option_and_then (λ (f : List ℕ × List ℕ). option_and_then (λ unit. up_to_limit (microseconds (front_digits text) f.0 unit)) (unit_of f.1))
    (fraction (behind_digits text))
    else None
