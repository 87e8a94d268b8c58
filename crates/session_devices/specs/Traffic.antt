-- What calls did with an input or an output.
use Rattle.std.specs.Prelude.{ℕ, Bool, List, Option}

-- the bytes that the input had left, or that the output held, before and after the calls, if they are known; and whether
-- it has failed
pub record Traffic : Type 0 where
  pub before : Option (List ℕ)
  pub after : Option (List ℕ)
  pub failed : Bool

abbrev pub traffic_of : {D : Type 0} → (D → Option (List ℕ)) → (D → Bool) → D → D → Traffic
traffic_of bytes has_failed old new = record { before = bytes old; after = bytes new; failed = has_failed new }
