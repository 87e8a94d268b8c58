-- Unsigned decimal numbers.
use Rattle.std.specs.Prelude.{ℕ, ◌+◌, ◌*◌, ◌-◌, List, length, fold, Bool, ◌&&◌, if◌then◌else◌, nat_lt, nat_le}
use Rattle.std.specs.List.{list_all}
use Rattle.std.specs.Char.{is_ascii_digit}

-- the value of a decimal digit, 0 for any other byte
abbrev pub digit : ℕ → ℕ
digit c = if nat_le 48 c && nat_le c 57 then c - 48 else 0

-- the number that decimal digits spell
abbrev pub number_of : List ℕ → ℕ
number_of digits = fold (λ n c. n * 10 + digit c) 0 digits

-- 1 to n digits and nothing else
abbrev pub is_digits : ℕ → List ℕ → Bool
is_digits most text = nat_lt 0 (length text) && nat_le (length text) most && list_all is_ascii_digit text
