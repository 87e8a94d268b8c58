-- The text around an answer's items.
use Rattle.std.specs.Prelude.{ℕ, List, [], ◌∷◌, ◌++◌, codes}
use Rattle.std.specs.Fmt.{decimal}

-- before them
abbrev pub head_text : List ℕ
head_text = 123 ∷ (34 ∷ (codes "data" ++ 34 ∷ 58 ∷ []))

-- after `total` of them, with no errors
abbrev pub tail_text : ℕ → List ℕ
tail_text total =
    44 ∷ 34 ∷ (codes "errors" ++ 34 ∷ 58
    ∷ (codes "null" ++ 44 ∷ 34 ∷ (codes "limit"
    ++ 34 ∷ 58 ∷ 48 ∷ 44 ∷ 34 ∷ (codes "offset" ++ 34 ∷ 58 ∷ 48 ∷ 44 ∷ 34 ∷ (codes "total" ++ 34 ∷ 58 ∷ (decimal total ++ 125 ∷ []))))))
