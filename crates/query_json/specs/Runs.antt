-- Runs of pieces of an answer's text: one for each item, and one for the end.
use Rattle.std.specs.Prelude.{◌≡◌, ◌+◌, ◌<◌, ◌≤◌, ℕ, zero, suc, false, List, [], ◌∷◌, ◌++◌, length, drop, flat_map}
use Rattle.json_page.specs.declared.page.Page.{Page}
use Rattle.query_json.specs.AnswerTexts.{head_text, tail_text}
use Rattle.json_page.specs.Page.{Puts}

-- the text before the pieces
abbrev pub front_text : List ℕ
front_text = head_text ++ 91 ∷ []

-- the text after `total` items
abbrev pub end_text : ℕ → List ℕ
end_text total = 93 ∷ tail_text total

-- the separator between an item and the one before it
abbrev pub separator : ℕ → List ℕ
separator zero = []
separator (suc item) = 44 ∷ []

-- the runs of the items after the first one, and that of the end
abbrev pub more_runs : ℕ → List (List (List ℕ)) → List (List (List ℕ))
more_runs total [] = (end_text total ∷ []) ∷ []
more_runs total (r ∷ rs) = ((44 ∷ []) ∷ r) ∷ more_runs total rs

-- each item after its separator, and the end
abbrev pub runs : List (List (List ℕ)) → List (List (List ℕ))
runs [] = more_runs 0 []
runs (r ∷ rs) = ([] ∷ r) ∷ more_runs (suc (length rs)) rs

-- without the first `piece` pieces of the first run
abbrev pub without : ℕ → List (List (List ℕ)) → List (List (List ℕ))
without piece [] = []
without piece (r ∷ rs) = drop piece r ∷ rs

-- those that remain at a position
abbrev pub left_at : List (List (List ℕ)) → ℕ → ℕ → List (List (List ℕ))
left_at rs run piece = without piece (drop run rs)

-- in sequence
abbrev pub joined : List (List ℕ) → List ℕ
joined ps = flat_map (λ p. p) ps

abbrev pub runs_text : List (List (List ℕ)) → List ℕ
runs_text rs = flat_map joined rs

-- no piece of a run is larger
abbrev pub Fit : ℕ → List (List ℕ) → Type 0
Fit most [] = Unit {0}
Fit most (p ∷ ps) = (length p ≤ most) × Fit most ps

abbrev pub AllFit : ℕ → List (List (List ℕ)) → Type 0
AllFit most [] = Unit {0}
AllFit most (r ∷ rs) = Fit most r × AllFit most rs

-- the number of steps through them
abbrev pub steps : List (List (List ℕ)) → ℕ
steps [] = 0
steps (r ∷ rs) = suc (length r) + steps rs

-- ---- on a page

-- the first piece is written, or a run ends
pub record PutsNext (old new : Page) (from to : List (List (List ℕ))) : Type 0 where
  pub piece : List ℕ
  pub puts : Puts old new piece
  pub text : runs_text from ≡ piece ++ runs_text to
  pub fits : (most : ℕ) → AllFit most from → (length piece ≤ most) × AllFit most to
  pub bounds : (most : ℕ) → length piece ≤ most → AllFit most to → AllFit most from
  pub fewer : steps to < steps from

-- pieces are written, none of them after the page has `enough` bytes
pub record Fills (enough : ℕ) (old new : Page) (from to : List (List (List ℕ))) : Type 0 where
  pub bytes : List ℕ
  pub puts : Puts old new bytes
  pub text : runs_text from ≡ bytes ++ runs_text to
  pub ended : from ≡ [] → to ≡ []
  pub fits : (most : ℕ) → AllFit most from → AllFit most to
  pub room : (most : ℕ) → AllFit most from → enough + most ≤ old.bytes.room → old.full ≡ false → new.full ≡ false
