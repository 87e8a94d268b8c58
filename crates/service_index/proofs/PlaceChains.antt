-- The places along a chain are those of the service.
use Rattle.std.proofs.Common.{◌≡◌, ℕ, suc, zero, ◌-◌, ◌<◌, ◌≤◌, List, [], ◌∷◌, length, get_or, refl, sym, ap, subst, ◌∙◌, inl, inr, arith}
use Rattle.std.specs.Prelude.{if◌then◌else◌}
use Rattle.std.proofs.lemmas.Bool.{cases_eq}
use Rattle.trace_model.proofs.NameLaws.{text_self, text_apart}
use Rattle.jaeger_model.specs.Texts.{same_text}
use Rattle.service_index.specs.Indexes.{IsNewest, IsChain}
use Rattle.service_index.specs.PlaceChains.{along, IsBack}
use Rattle.service_index.specs.ServicePlaces.{places_upto}

along_none : (n : ℕ) (earlier : List ℕ) → along n earlier 0 ≡ []
along_none zero earlier = refl
along_none (suc n) earlier = refl

-- more steps than the place don't change the result
along_enough : (earlier : List ℕ) → ((k : ℕ) → k < length earlier → get_or earlier k 0 ≤ k) → (n m at : ℕ) → at ≤ n → at ≤ m → at ≤ length earlier
    → along n earlier at ≡ along m earlier at
along_enough earlier back n m zero a b w = along_none n earlier ∙ sym (along_none m earlier)
along_enough earlier back zero m (suc k) a b w = absurd (omega arith)
along_enough earlier back (suc n) zero (suc k) a b w = absurd (omega arith)
along_enough earlier back (suc n) (suc m) (suc k) a b w =
    let less = back k (omega arith) in
    ap (λ l. suc k ∷ l) (along_enough earlier back n m (get_or earlier k 0) (omega arith) (omega arith) (omega arith))

pub along_step : (earlier : List ℕ) (at next : ℕ) → IsBack earlier at → 0 < at → next ≡ get_or earlier (at - 1) 0
    → along at earlier at ≡ at ∷ along next earlier next
along_step earlier zero next h pos e = absurd (omega arith)
along_step earlier (suc k) next h pos e =
    let w = h.within in
    let less = h.back k (omega arith) in
    let same : suc k - 1 ≡ k = omega arith in
    let is : next ≡ get_or earlier k 0 = e ∙ ap (λ j. get_or earlier j 0) same in
    ap (λ l. suc k ∷ l) (along_enough earlier h.back k (get_or earlier k 0) (get_or earlier k 0) less (omega arith) (omega arith)
    ∙ ap (λ j. along j earlier j) (sym is))

-- entries of other services between
skip : (s : List ℕ) (rows : List (List ℕ)) (k m : ℕ) → k ≤ m → ((j : ℕ) → k ≤ j → j < m → get_or rows j [] ≡ s → ⊥)
    → places_upto s rows m ≡ places_upto s rows k
skip s rows k zero le none = let same : zero ≡ k = omega arith in ap (places_upto s rows) same
skip s rows k (suc m) le none = elim (cases_eq k (suc m)) [
  | inl e ↦ ap (places_upto s rows) (sym e)
  | inr other ↦
      ap (λ b. if b then suc m ∷ places_upto s rows m else places_upto s rows m) (text_apart (get_or rows m []) s (none m (omega arith) (omega arith)))
      ∙ skip s rows k m (omega arith) (λ j low below. none j low (omega arith))
]

pub walked : (s : List ℕ) (rows : List (List ℕ)) (earlier : List ℕ) → IsChain rows earlier → (n at below : ℕ) → at ≤ n → below ≤ length rows
    → IsNewest rows s at below
    → along n earlier at ≡ places_upto s rows below
walked s rows earlier chain n zero below a w h = along_none n earlier ∙ sym (skip s rows 0 below (omega arith) h.none)
walked s rows earlier chain zero (suc k) below a w h = absurd (omega arith)
walked s rows earlier chain (suc n) (suc k) below a w h =
    let v = h.within in
    let same : suc k - 1 ≡ k = omega arith in
    let own : get_or rows k [] ≡ s = ap (λ j. get_or rows j []) (sym same) ∙ h.own (omega arith) in
    let next : IsNewest rows s (get_or earlier k 0) k = subst (λ (x : List ℕ). IsNewest rows x (get_or earlier k 0) k) own (chain.before k (omega arith)) in
    let less = next.within in
    ap (λ l. suc k ∷ l) (walked s rows earlier chain n (get_or earlier k 0) k (omega arith) (omega arith) next)
    ∙ sym (skip s rows (suc k) below v h.none
    ∙ ap (λ b. if b then suc k ∷ places_upto s rows k else places_upto s rows k) (ap (λ (x : List ℕ). same_text x s) own ∙ text_self s))
