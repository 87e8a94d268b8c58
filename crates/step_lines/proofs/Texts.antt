-- Texts of a step: pieces joined, and targets.
use Rattle.std.proofs.Common.{◌≡◌, ℕ, ◌==◌, not, Bool, true, false, List, [], ◌∷◌, ◌++◌, length, map, ◌≢◌, cond, codes, ne_eqb, Ok, Err, refl, sym, ap, ◌∙◌}
use Rattle.std.proofs.Common.{Bor}
use Rattle.std.proofs.lemmas.Bool.{false_from_ne_true}
use Rattle.std.specs.List.{All, AllZip, concat, filter, flat_map, onto_first}
use Rattle.std.specs.Prelude.{if◌then◌else◌}
use Rattle.std.specs.Str.{IsUtf8, is_utf8}
use Rattle.std.proofs.lemmas.List.{map-id}
use Rattle.std.proofs.lemmas.List.Splits.{slice_split_at}
use Rattle.std.proofs.lemmas.Slice.Zip.{AllZip-map}
use Rattle.std.proofs.lemmas.Str.{is_utf8-from_IsUtf8, IsUtf8-from_is_utf8}
use Rattle.step_lines.specs.declared.fault.StepFault.TheVariants.{BadStep}
use Rattle.step_lines.specs.Words.{is_space, words_of}
use Rattle.step_lines.specs.Steps.{nonempty, target_in, put_by, step_of, step_in}

concat_map : (ps : List (Bor (List ℕ))) → concat (map (λ w. w.now) ps) ≡ flat_map (λ w. w.now) ps
concat_map [] = refl
concat_map (p ∷ ps) = ap (λ (x : List ℕ). p.now ++ x) (concat_map ps)

pub joined_is : (ps : List (Bor (List ℕ))) (t : List ℕ) → AllZip (λ x y. y ≡ x) (flat_map (λ (w : Bor (List ℕ)). w.now) ps) t → concat (map (λ w. w.now) ps) ≡ t
joined_is ps t h = concat_map ps ∙ sym (AllZip-map (λ x. x) _ t h ∙ map-id _)

pub some_text : (t : List ℕ) (n : ℕ) → n ≡ length t → (n == 0) ≡ false → nonempty t ≡ Ok t
some_text t n e some = let any : (length t == 0) ≡ false = ap (λ (m : ℕ). m == 0) (sym e) ∙ some in rw any refl

pub no_text : (t : List ℕ) (n : ℕ) → n ≡ length t → (n == 0) ≡ true → nonempty t ≡ Err BadStep
no_text t n e none = let any : (length t == 0) ≡ true = ap (λ (m : ℕ). m == 0) (sym e) ∙ none in rw any refl

not_utf8 : (bytes : List ℕ) → ¬ IsUtf8 bytes → is_utf8 bytes ≡ false
not_utf8 bytes none = false_from_ne_true (is_utf8 bytes) (λ e. none (IsUtf8-from_is_utf8 bytes e))

pub target_read : (word : List ℕ) → (length word == 0) ≡ false → IsUtf8 word → target_in word ≡ Ok word
target_read word some text = rw (some, is_utf8-from_IsUtf8 word text) refl

pub target_bad : (word : List ℕ) → (length word == 0) ≡ false → ¬ IsUtf8 word → target_in word ≡ Err BadStep
target_bad word some none = rw (some, not_utf8 word none) refl

-- the words of a text, joined, are the text without its spaces
joined_words : (t : List ℕ) → concat (words_of t) ≡ filter (λ c. not (is_space c)) t
joined_words [] = refl
joined_words (c ∷ t) = by (is_space c) refl (words_of t) (joined_words t)
  where
    by : (v : Bool) → is_space c ≡ v → (ws : List (List ℕ)) → concat ws ≡ filter (λ c. not (is_space c)) t
        → concat (cond v ([] ∷ ws) (onto_first c ws)) ≡ filter (λ c. not (is_space c)) (c ∷ t)
    by true e ws ih = rw e ih
    by false e [] ih = rw e (ap (λ (x : List ℕ). c ∷ x) ih)
    by false e (w ∷ ws) ih = rw e (ap (λ (x : List ℕ). c ∷ x) ih)

pub put_line : (seat hex : List ℕ) → All (λ c. c ≢ 32) seat → is_utf8 (codes "put " ++ (seat ++ 32 ∷ hex)) ≡ true
    → step_in (codes "put " ++ (seat ++ 32 ∷ hex)) ≡ put_by seat (filter (λ c. not (is_space c)) hex)
put_line seat hex plain text =
    let words : words_of (seat ++ 32 ∷ hex) ≡ seat ∷ words_of hex = slice_split_at is_space seat 32 hex (λ k d l. ne_eqb _ 32 (plain k d l)) refl in
    ap (λ b. if b then step_of (words_of (codes "put " ++ (seat ++ 32 ∷ hex))) else Err BadStep) text
    ∙ ap (λ (ws : List (List ℕ)). step_of (codes "put" ∷ ws)) words ∙ ap (put_by seat) (joined_words hex)

-- a line of text is judged by its words
pub text_step : (line : List ℕ) → IsUtf8 line → step_of (words_of line) ≡ step_in line
text_step line text = ap (λ b. if b then step_of (words_of line) else Err BadStep) (sym (is_utf8-from_IsUtf8 line text))

pub bytes_step : (line : List ℕ) → ¬ IsUtf8 line → Err BadStep ≡ step_in line
bytes_step line none = ap (λ b. if b then step_of (words_of line) else Err BadStep) (sym (not_utf8 line none))
