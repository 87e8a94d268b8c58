-- When to search for a text that ends with a line.
use Rattle.std.specs.Prelude.{ℕ, ◌==◌, ◌||◌, Bool, nat_le, List, length, drop}
use Rattle.std.specs.List.{list_any}
use Rattle.httparse.specs.Ascii.{line_feed}

-- a line ends after the bytes seen, or the bytes are as many as such a text may have
abbrev pub is_due : List ℕ → ℕ → ℕ → Bool
is_due bytes seen most = nat_le most (length bytes) || list_any (λ b. b == line_feed) (drop seen bytes)
