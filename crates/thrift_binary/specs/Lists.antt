-- A list of values of one type.
use Rattle.std.specs.Prelude.{ℕ, zero, suc, List, [], ◌∷◌, Result, Ok, Err, ◌||◌, ◌==◌, if◌then◌else◌}
use Rattle.thrift_binary.specs.declared.fault.WireError.{WireError}
use Rattle.thrift_binary.specs.declared.fault.WireError.TheVariants.{BadType}
use Rattle.thrift_binary.specs.Reading.{◌>>=◌, lift, list_at}

-- a sequence of n values
unfoldable pub items_at : {A E : Type 0} → (List ℕ → Result (A × List ℕ) E) → ℕ → List ℕ → Result (List A × List ℕ) E
items_at one zero w = Ok ([], w)
items_at one (suc n) w = one w >>= λ x. items_at one n x.1 >>= λ y. Ok (x.0 ∷ y.0, y.1)

-- a list whose elements are declared to have the type c: another type is a fault unless the list is empty
unfoldable pub list_of : {A E : Type 0} → (WireError → E) → ℕ → (List ℕ → Result (A × List ℕ) E) → List ℕ → Result (List A × List ℕ) E
list_of wire c one w = lift wire (list_at w) >>= λ h. if (h.0.1 == 0) || (h.0.0 == c) then items_at one h.0.1 h.1 else Err (wire BadType)
