-- How a router's routes are walked.
use Rattle.std.proofs.Common.{◌≡◌, ℕ, ◌-◌, suc, zero, List, [], ◌∷◌, ◌++◌, length, drop, Option, Some, None, Bool, true, false, cond, refl, sym, ap, ◌∙◌, subst}
use Rattle.std.proofs.Common.{rules, eqb, arith, inl, inr, ◌⊎◌}
use Rattle.std.proofs.lemmas.Bool.Decides.{nat_tests}
use Rattle.std.proofs.lemmas.List.{append-nil}
use Rattle.std.proofs.lemmas.Option.{none-some}
use Rattle.matchit.specs.Rows.{RowsOf}
use Rattle.matchit.specs.Seek.{seek, own, or_else, step, param_step, has_slash}

no_rows : {K : Type 0} (path : List ℕ) → (param_step {K = K} [] path).1 ≡ []
unfolding param_step
no_rows {K = K} path =
    elim (has_slash path) as (λ v. (cond {A = ℕ × RowsOf K} v (0, []) (length path, [])).1 ≡ []) [ true ↦ refl | false ↦ refl ]

pub seek_none : {K : Type 0} (n : ℕ) (path : List ℕ) → seek {K = K} n [] path ≡ None
unfolding seek
seek_none n [] = refl
seek_none (suc n) (b ∷ path) = seek_none n path
seek_none {K = K} zero (b ∷ path) =
    rw (seek_none {K = K} 0 path, no_rows {K = K} (b ∷ path), seek_none {K = K} ((param_step {K = K} [] (b ∷ path)).0 - 1) path) refl

pub seek_skips : {K : Type 0} (n : ℕ) (rs : RowsOf K) (path : List ℕ) → seek n rs path ≡ seek 0 rs (drop n path)
unfolding seek
seek_skips zero rs path = refl
seek_skips (suc n) rs [] = refl
seek_skips (suc n) rs (b ∷ path) = seek_skips n rs path

or_none : {K : Type 0} (o : Option K) → or_else o None ≡ o
or_none None = refl
or_none (Some k) = refl

-- if no route continues with a part or a rest, only the next byte matters
pub seek_literal : {K : Type 0} (rs : RowsOf K) (b : ℕ) (path : List ℕ) → step 256 rs ≡ [] → step 257 rs ≡ []
    → seek 0 rs (b ∷ path) ≡ seek 0 (step b rs) path
unfolding seek
seek_literal {K = K} rs b path p c =
    rw (p, c, no_rows {K = K} (b ∷ path), seek_none {K = K} ((param_step {K = K} [] (b ∷ path)).0 - 1) path) (or_none (seek 0 (step b rs) path))

-- routes with this prefix
abbrev pub behind : {K : Type 0} → List ℕ → RowsOf K → RowsOf K
behind w [] = []
behind w ((t, key) ∷ rest) = (w ++ t, key) ∷ behind w rest

step_other : {K : Type 0} (b x : ℕ) (w : List ℕ) (rs : RowsOf K) → eqb x b ≡ false → step b (behind (x ∷ w) rs) ≡ []
step_other b x w [] e = refl
step_other b x w ((t, key) ∷ rest) e = rw (e, step_other b x w rest e) refl

step_same : {K : Type 0} (b x : ℕ) (w : List ℕ) (rs : RowsOf K) → eqb x b ≡ true → step b (behind (x ∷ w) rs) ≡ behind w rs
step_same b x w [] e = refl
step_same b x w ((t, key) ∷ rest) e = rw (e, step_same b x w rest e) refl

own_none : {K : Type 0} (x : ℕ) (w : List ℕ) (rs : RowsOf K) → own (behind (x ∷ w) rs) ≡ None
own_none x w [] = refl
own_none x w ((t, key) ∷ rest) = own_none x w rest

behind_nil : {K : Type 0} (rs : RowsOf K) → behind [] rs ≡ rs
behind_nil [] = refl
behind_nil ((t, key) ∷ rest) = ap (λ l. (t, key) ∷ l) (behind_nil rest)

abbrev pub AreLiteral : List ℕ → Type 0
AreLiteral [] = Unit {0}
AreLiteral (x ∷ w) = (eqb x 256 ≡ false) × (eqb x 257 ≡ false) × AreLiteral w

abbrev pub FoundBehind : {K : Type 0} → List ℕ → RowsOf K → List ℕ → K → Type 0
FoundBehind w rs path found = (rest : List ℕ) × (path ≡ w ++ rest) × (seek 0 rs rest ≡ Some found)

found_at : {K : Type 0} (x : ℕ) (w : List ℕ) (rs : RowsOf K) (b : ℕ) (path : List ℕ) (found : K) (v : Bool) → eqb x b ≡ v
    → seek 0 (step b (behind (x ∷ w) rs)) path ≡ Some found → (seek 0 (behind w rs) path ≡ Some found → FoundBehind w rs path found)
    → FoundBehind (x ∷ w) rs (b ∷ path) found
found_at x w rs b path found true same e deeper =
    let f = deeper (sym (ap (λ r. seek 0 r path) (step_same b x w rs same)) ∙ e) in
    let here : x ≡ b = search (rules, nat_tests) in
    (f.0, ap (λ n. n ∷ path) (sym here) ∙ ap (λ l. x ∷ l) f.1, f.2)
found_at {K = K} x w rs b path found false other e deeper =
    absurd (none-some found (sym (seek_none {K = K} 0 path) ∙ sym (ap (λ r. seek 0 r path) (step_other b x w rs other)) ∙ e))

-- what is matched after literal bytes is matched after exactly those bytes
pub found_behind : {K : Type 0} (w : List ℕ) (rs : RowsOf K) (path : List ℕ) (found : K) → AreLiteral w → seek 0 (behind w rs) path ≡ Some found
    → FoundBehind w rs path found
unfolding seek
found_behind [] rs path found l e = (path, refl, subst (λ (r : _). seek 0 r path ≡ Some found) (behind_nil rs) e)
found_behind (x ∷ w) rs [] found l e = absurd (none-some found (sym (own_none x w rs) ∙ e))
found_behind {K = K} (x ∷ w) rs (b ∷ path) found l e =
    found_at x w rs b path found (eqb x b) refl (sym (seek_literal (behind (x ∷ w) rs) b path (step_other 256 x w rs l.0) (step_other 257 x w rs l.1)) ∙ e)
    (λ d. found_behind w rs path found l.2 d)

eqb_same : (x : ℕ) → eqb x x ≡ true
eqb_same x = grind (arith, nat_tests)

-- and after exactly those bytes all is matched that follows them
pub seek_behind : {K : Type 0} (w : List ℕ) (rs : RowsOf K) (rest : List ℕ) → AreLiteral w → seek 0 (behind w rs) (w ++ rest) ≡ seek 0 rs rest
seek_behind [] rs rest l = ap (λ r. seek 0 r rest) (behind_nil rs)
seek_behind (x ∷ w) rs rest l =
    seek_literal (behind (x ∷ w) rs) x (w ++ rest) (step_other 256 x w rs l.0) (step_other 257 x w rs l.1)
    ∙ ap (λ r. seek 0 r (w ++ rest)) (step_same x x w rs (eqb_same x))
    ∙ seek_behind w rs rest l.2

own_append : {K : Type 0} (xs ys : RowsOf K) → own (xs ++ ys) ≡ or_else (own xs) (own ys)
own_append [] ys = refl
own_append (([], k) ∷ xs) ys = refl
own_append ((a ∷ t, k) ∷ xs) ys = own_append xs ys

step_append : {K : Type 0} (b : ℕ) (xs ys : RowsOf K) → step b (xs ++ ys) ≡ step b xs ++ step b ys
step_append b [] ys = refl
step_append b (([], k) ∷ xs) ys = step_append b xs ys
step_append b ((a ∷ t, k) ∷ xs) ys =
    elim (eqb a b) as (λ v. cond v ((t, k) ∷ step b (xs ++ ys)) (step b (xs ++ ys)) ≡ cond v ((t, k) ∷ step b xs) (step b xs) ++ step b ys) [
      | true ↦ ap (λ l. (t, k) ∷ l) (step_append b xs ys)
      | false ↦ step_append b xs ys
    ]

-- routes of which none continues with a part, a rest, or this byte
pub record Apart {K : Type 0} (x : ℕ) (ys : RowsOf K) : Type 0 where
  pub part : step 256 ys ≡ []
  pub rest : step 257 ys ≡ []
  pub byte : step x ys ≡ []

module _ {K : Type 0} (x : ℕ) (w : List ℕ) (rs ys : RowsOf K) (l : AreLiteral (x ∷ w)) (a : Apart x ys) where
  both_part : step 256 (behind (x ∷ w) rs ++ ys) ≡ []
  both_part = step_append 256 (behind (x ∷ w) rs) ys ∙ rw (step_other 256 x w rs l.0, a.part) refl

  both_rest : step 257 (behind (x ∷ w) rs ++ ys) ≡ []
  both_rest = step_append 257 (behind (x ∷ w) rs) ys ∙ rw (step_other 257 x w rs l.1, a.rest) refl

  at_byte : (b : ℕ) → eqb x b ≡ true → step b (behind (x ∷ w) rs ++ ys) ≡ step b (behind (x ∷ w) rs)
  at_byte b e =
      let same : x ≡ b = search (rules, nat_tests) in
      let none : step b ys ≡ [] = subst (λ (n : ℕ). step n ys ≡ []) same a.byte in
      step_append b (behind (x ∷ w) rs) ys ∙ ap (λ r. step b (behind (x ∷ w) rs) ++ r) none ∙ append-nil (step b (behind (x ∷ w) rs))

  at_other : (b : ℕ) → eqb x b ≡ false → step b (behind (x ∷ w) rs ++ ys) ≡ step b ys
  at_other b e = step_append b (behind (x ∷ w) rs) ys ∙ ap (λ (r : RowsOf K). r ++ step b ys) (step_other b x w rs e)

  alone : (b : ℕ) (path : List ℕ) → seek 0 (behind (x ∷ w) rs) (b ∷ path) ≡ seek 0 (step b (behind (x ∷ w) rs)) path
  alone b path = seek_literal (behind (x ∷ w) rs) b path (step_other 256 x w rs l.0) (step_other 257 x w rs l.1)

  together : (b : ℕ) (path : List ℕ) → seek 0 (behind (x ∷ w) rs ++ ys) (b ∷ path) ≡ seek 0 (step b (behind (x ∷ w) rs ++ ys)) path
  together b path = seek_literal (behind (x ∷ w) rs ++ ys) b path both_part both_rest

  -- what two groups of routes match, one of them matches
  pub found_in_either : (path : List ℕ) (found : K) → seek 0 (behind (x ∷ w) rs ++ ys) path ≡ Some found → (seek 0 (behind (x ∷ w) rs) path ≡ Some found)
      ⊎ (seek 0 ys path ≡ Some found)
  unfolding seek
  found_in_either [] found e =
      inr (sym (own_append (behind (x ∷ w) rs) ys ∙ ap (λ (o : Option K). or_else o (own ys)) (own_none x w rs)) ∙ e)
  found_in_either (b ∷ path) found e = by (eqb x b) refl
    where
      by : (v : Bool) → eqb x b ≡ v → (seek 0 (behind (x ∷ w) rs) (b ∷ path) ≡ Some found) ⊎ (seek 0 ys (b ∷ path) ≡ Some found)
      by true s = inl (alone b path ∙ sym (ap (λ r. seek 0 r path) (at_byte b s)) ∙ sym (together b path) ∙ e)
      by false s = inr (seek_literal ys b path a.part a.rest ∙ sym (ap (λ r. seek 0 r path) (at_other b s)) ∙ sym (together b path) ∙ e)

  -- only the first group matters after its bytes
  pub seek_first : (rest : List ℕ) → seek 0 (behind (x ∷ w) rs ++ ys) (x ∷ w ++ rest) ≡ seek 0 rs rest
  seek_first rest =
      together x (w ++ rest) ∙ ap (λ r. seek 0 r (w ++ rest)) (at_byte x (eqb_same x)) ∙ sym (alone x (w ++ rest)) ∙ seek_behind (x ∷ w) rs rest l

  -- and only the second after any other byte
  pub seek_second : (b : ℕ) (path : List ℕ) → eqb x b ≡ false → seek 0 (behind (x ∷ w) rs ++ ys) (b ∷ path) ≡ seek 0 ys (b ∷ path)
  seek_second b path s = together b path ∙ ap (λ r. seek 0 r path) (at_other b s) ∙ sym (seek_literal ys b path a.part a.rest)

-- a route that ends here matches only the end
pub found_end : {K : Type 0} (k : K) (path : List ℕ) (found : K) → seek 0 (([], k) ∷ []) path ≡ Some found → (path ≡ []) × (found ≡ k)
unfolding seek
found_end k [] found e = (refl, cc)
found_end {K = K} k (b ∷ path) found e = absurd (none-some found (sym (seek_none {K = K} 0 path) ∙ sym (seek_literal (([], k) ∷ []) b path refl refl) ∙ e))
