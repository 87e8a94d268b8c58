-- The text around an answer's items, and errors.
use Rattle.std.proofs.Common.{◌≡◌, ℕ, List, [], ◌∷◌, ◌++◌, length, ap, sym, ◌∙◌, append_assoc, true}
use Rattle.std.specs.Prelude.{codes}
use Rattle.std.specs.Fmt.{decimal, digits}
use Rattle.json.specs.Print.{escape_byte, quoted}
use Rattle.serde_json.specs.Data.{Data, number, unsigned, no_members, member}
use Rattle.serde_json.specs.Written.{compact_text, members_text}
use Rattle.query_json.specs.AnswerTexts.{head_text, tail_text}
use Rattle.answer_trees.specs.Trees.{error_tree, items_tree, list}

pub items_around : (ds : List Data) → (head_text ++ compact_text (list ds)) ++ tail_text (length ds) ≡ compact_text (items_tree ds)
unfolding escape_byte digits
items_around ds = append_assoc head_text (compact_text (list ds)) (tail_text (length ds))

-- ---- errors

-- the text before the status, and between it and the message
abbrev pub before_code : List ℕ
before_code =
    123 ∷ (quoted (codes "data") ++ 58 ∷ (codes "null" ++ 44 ∷ (quoted (codes "errors") ++ 58 ∷ 91 ∷ 123 ∷ (quoted (codes "code") ++ 58 ∷ []))))

abbrev pub before_msg : List ℕ
before_msg = 44 ∷ (quoted (codes "msg") ++ 58 ∷ [])

-- and the text after the list of errors
abbrev pub behind_errors : List ℕ
behind_errors =
    members_text true (member (codes "limit") (number (unsigned 0))
    (member (codes "offset") (number (unsigned 0)) (member (codes "total") (number (unsigned 0)) no_members)))

one_by_one : (d b q w : List ℕ) → ((d ++ b) ++ q) ++ w ≡ d ++ (b ++ (q ++ w))
one_by_one d b q w = append_assoc (d ++ b) q w ∙ append_assoc d b (q ++ w)

within : (d b q t u v : List ℕ) → ((d ++ (b ++ (q ++ t))) ++ u) ++ v ≡ d ++ (b ++ (q ++ (t ++ (u ++ v))))
within d b q t u v =
    append_assoc (d ++ (b ++ (q ++ t))) u v ∙ append_assoc d (b ++ (q ++ t)) (u ++ v)
    ∙ ap (λ l. d ++ l) (append_assoc b (q ++ t) (u ++ v) ∙ ap (λ l. b ++ l) (append_assoc q t (u ++ v)))

pub error_text : (code : ℕ) (msg : List ℕ)
    → (((before_code ++ decimal code) ++ before_msg) ++ quoted msg) ++ (125 ∷ 93 ∷ behind_errors) ≡ compact_text (error_tree code msg)
unfolding escape_byte digits
error_text code msg =
    ap (λ l. before_code ++ l)
    (one_by_one (decimal code) before_msg (quoted msg) (125 ∷ 93 ∷ behind_errors)
    ∙ sym (within (decimal code) before_msg (quoted msg) (125 ∷ []) (93 ∷ []) behind_errors))
