-- The faults of a list of values of one type have places if those of each value have.
use Rattle.std.proofs.Common.{ℕ, zero, suc, cond, eqb, ◌||◌, List, [], ◌∷◌, Result, Ok, Err, refl}
use Rattle.thrift_binary.specs.declared.fault.WireError.{WireError}
use Rattle.thrift_binary.specs.declared.fault.WireError.TheVariants.{Truncated, BadType}
use Rattle.thrift_binary.specs.Reading.{◌>>=◌, lift, list_at}
use Rattle.thrift_binary.specs.Lists.{items_at, list_of}
use Rattle.thrift_binary.specs.Cuts.{IsCutSafe}
use Rattle.thrift_binary.proofs.Cuts.{cut_ok, cut_err, cut_then, cut_if, cut_lift, cut_map}
use Rattle.thrift_binary.proofs.CutReadings.{list_head_cut}

-- a sequence of n values
pub items_cut : {A E : Type 0} (short : E) (one : List ℕ → Result (A × List ℕ) E) → IsCutSafe short one → (n : ℕ) → IsCutSafe short (items_at one n)
unfolding items_at
items_cut short one safe zero = cut_ok short (items_at one zero) [] (λ v. refl)
items_cut {A = A} {E = E} short one safe (suc n) =
    let next : A → List ℕ → Result (List A × List ℕ) E = λ x v. items_at one n v >>= λ y. Ok (x ∷ y.0, y.1) in
    cut_then short one next safe (λ x. cut_map short (items_at one n) (λ xs. x ∷ xs) (items_cut short one safe n))

-- a list of a declared type
pub list_cut : {A E : Type 0} (wire : WireError → E) (c : ℕ) (one : List ℕ → Result (A × List ℕ) E) → IsCutSafe (wire Truncated) one
    → IsCutSafe (wire Truncated) (list_of wire c one)
unfolding list_of
list_cut {A = A} {E = E} wire c one safe =
    let head : List ℕ → Result ((ℕ × ℕ) × List ℕ) E = λ v. lift wire (list_at v) in
    let next : ℕ × ℕ → List ℕ → Result (List A × List ℕ) E = λ h v. cond (eqb h.1 0 || eqb h.0 c) (items_at one h.1 v) (Err (wire BadType)) in
    let other : List ℕ → Result (List A × List ℕ) E = λ v. Err (wire BadType) in
    cut_then (wire Truncated) head next (λ w. cut_lift wire Truncated list_at w (list_head_cut w))
    (λ h w. cut_if (wire Truncated) (eqb h.1 0 || eqb h.0 c) (items_at one h.1) other w (items_cut (wire Truncated) one safe h.1 w)
    (cut_err (wire Truncated) other (wire BadType) (λ v. refl) w))
