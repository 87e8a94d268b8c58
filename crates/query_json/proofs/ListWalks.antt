-- A list that is walked from its front: the next item, and the rest.
use Rattle.std.proofs.Common.{◌≡◌, ◌<◌, ◌≤◌, ◌+◌, ◌∙◌, ℕ, List, [], ◌∷◌, length, length-drop, drop, get_or, sym, ap, subst, arith}
use Rattle.std.proofs.lemmas.List.{drop_more}
use Rattle.json_page.specs.declared.page.Page.{Page}
use Rattle.json_page.specs.Page.{Puts}
use Rattle.query_json.proofs.Pages.{Going, Going-more, Going-end}

abbrev first_of : {X : Type 0} → X → List X → X
first_of x [] = x
first_of x (y ∷ ys) = y

abbrev others_of : {X : Type 0} → List X → List X
others_of [] = []
others_of (x ∷ xs) = xs

module _ {X : Type 0} (xs : List X) (i : ℕ) (x : X) (left : List X) (here : drop i xs ≡ x ∷ left) where
  pub next_within : i < length xs
  next_within = omega (arith, ap length here, length-drop i xs)

  pub next_is : x ≡ get_or xs i x
  next_is = ap (first_of x) (sym here ∙ drop_more xs i x next_within)

  pub left_then : drop (i + 1) xs ≡ left
  left_then = ap others_of (sym (drop_more xs i x next_within) ∙ here)

pub none_left : {X : Type 0} (xs : List X) (i : ℕ) → drop i xs ≡ [] → length xs ≤ i
none_left xs i end = omega (arith, ap length end, length-drop i xs)

-- ---- a list that is written so
pub Going-next : {X : Type 0} {f : X → List ℕ} {close : ℕ} {old now next : Page} {x : X} {left others : List X} {whole : List ℕ}
    → left ≡ x ∷ others → Going f close old now left whole → Puts now next (44 ∷ f x) → Going f close old next others whole
Going-next {f = f} {close = close} {old = old} {now = now} {whole = whole} is g p = Going-more (subst (λ xs. Going f close old now xs whole) is g) p

pub Going-done : {X : Type 0} {f : X → List ℕ} {close : ℕ} {old now next : Page} {left : List X} {whole : List ℕ}
    → left ≡ [] → Going f close old now left whole → Puts now next (close ∷ []) → Puts old next whole
Going-done {f = f} {close = close} {old = old} {now = now} {whole = whole} end g p = Going-end (subst (λ xs. Going f close old now xs whole) end g) p
