-- Where lines end.
use Rattle.std.proofs.Common.{◌≡◌, ℕ, ◌-◌, ◌==◌, ◌&&◌, Bool, true, false, if◌then◌else◌, List, [], ◌∷◌, ◌++◌, length, take, Some, refl, sym, ap, ◌∙◌}
use Rattle.std.specs.Prelude.{slice_get}
use Rattle.std.specs.Option.{option_eq}
use native.Mathlib.Numerals.{unary_clauses}
use Rattle.text_lines.specs.Lines.{lines_of, onto_first, without_return, HasNoFeed}

last_get : (c d : ℕ) (rest : List ℕ) → slice_get (c ∷ d ∷ rest) (length (c ∷ d ∷ rest) - 1) ≡ slice_get (d ∷ rest) (length (d ∷ rest) - 1)
last_get c d rest = simp unary_clauses refl

take_last : (c d : ℕ) (rest : List ℕ) → take (length (c ∷ d ∷ rest) - 1) (c ∷ d ∷ rest) ≡ c ∷ take (length (d ∷ rest) - 1) (d ∷ rest)
take_last c d rest = simp unary_clauses refl

only : (b : Bool) (x y : List ℕ) → b ≡ false → y ≡ (if b then x else y)
only b x y e = rw e refl

pub return_off : (xs : List ℕ) → option_eq ◌==◌ (slice_get xs (length xs - 1)) (Some 13) ≡ true → take (length xs - 1) xs ≡ without_return xs
return_off [] e = absurd cc
return_off (c ∷ []) e = rw e refl
return_off (c ∷ d ∷ rest) e = take_last c d rest ∙ ap (λ l. c ∷ l) (return_off (d ∷ rest) (ap (λ o. option_eq ◌==◌ o (Some 13)) (sym (last_get c d rest)) ∙ e))

pub return_kept : (xs : List ℕ) → option_eq ◌==◌ (slice_get xs (length xs - 1)) (Some 13) ≡ false → xs ≡ without_return xs
return_kept [] e = refl
return_kept (c ∷ []) e = only (c == 13) [] (c ∷ []) e
return_kept (c ∷ d ∷ rest) e = ap (λ l. c ∷ l) (return_kept (d ∷ rest) (ap (λ o. option_eq ◌==◌ o (Some 13)) (sym (last_get c d rest)) ∙ e))

pub HasNoFeed-append : (a b : List ℕ) → HasNoFeed a → HasNoFeed b → HasNoFeed (a ++ b)
HasNoFeed-append [] b p q = q
HasNoFeed-append (c ∷ a) b p q = (p.0, HasNoFeed-append a b p.1 q)

neither : {A : Type 0} (b : Bool) (x y : A) → (if b && false then x else y) ≡ y
neither true x y = refl
neither false x y = refl

-- two bytes of one line
within_line : (c d : ℕ) (xs : List ℕ) → (c == 10) ≡ false → (d == 10) ≡ false → lines_of (c ∷ d ∷ xs) ≡ onto_first c (lines_of (d ∷ xs))
within_line c d xs p q = rw (p, q) (neither (c == 13) _ _)

before_feed : (c : ℕ) (rest : List ℕ) → (c == 10) ≡ false → lines_of (c ∷ 10 ∷ rest) ≡ without_return (c ∷ []) ∷ lines_of rest
before_feed c rest p =
    rw p (elim (c == 13) as (λ b. (if b && true then [] ∷ lines_of rest else (c ∷ []) ∷ lines_of rest) ≡ (if b then [] else c ∷ []) ∷ lines_of rest) [
      | true ↦
          refl
      | false ↦ refl
    ])

-- a line that is followed by a line feed is the first
pub line_first : (line rest : List ℕ) → HasNoFeed line → lines_of (line ++ 10 ∷ rest) ≡ without_return line ∷ lines_of rest
line_first [] rest p = refl
line_first (c ∷ []) rest p = before_feed c rest p.0
line_first (c ∷ d ∷ line) rest p = within_line c d (line ++ 10 ∷ rest) p.0 p.1.0 ∙ ap (onto_first c) (line_first (d ∷ line) rest p.1)

last_byte : (c : ℕ) → (c == 10) ≡ false → lines_of (c ∷ []) ≡ (c ∷ []) ∷ []
last_byte c p = rw p (neither (c == 13) _ _)

-- what has no line feed is one line, unless it is empty
pub line_last : (c : ℕ) (line : List ℕ) → HasNoFeed (c ∷ line) → lines_of (c ∷ line) ≡ (c ∷ line) ∷ []
line_last c [] p = last_byte c p.0
line_last c (d ∷ line) p = within_line c d line p.0 p.1.0 ∙ ap (onto_first c) (line_last d line p.1)
