-- The text of a span, whose quotes are written with the text beside them.
use Rattle.std.proofs.Common.{◌≡◌, ℕ, List, [], ◌∷◌, ◌++◌, sym, ap, ◌∙◌, append_assoc}
use Rattle.std.specs.Prelude.{codes}
use Rattle.std.specs.Fmt.{decimal}
use Rattle.json.specs.Print.{escape, escape_byte, quoted}
use Rattle.json_page.specs.declared.page.Page.{Page}
use Rattle.json_page.specs.Page.{Puts}
use Rattle.json_page.proofs.Escapes.{escape_decimal}
use Rattle.json_page.proofs.Pages.{◌▸◌, Puts-is}

to_right : (t a b c d e : List ℕ) → ((((t ++ a) ++ b) ++ c) ++ d) ++ e ≡ t ++ (a ++ (b ++ (c ++ (d ++ e))))
to_right t a b c d e =
    append_assoc (((t ++ a) ++ b) ++ c) d e ∙ append_assoc ((t ++ a) ++ b) c (d ++ e) ∙ append_assoc (t ++ a) b (c ++ (d ++ e))
    ∙ append_assoc t a (b ++ (c ++ (d ++ e)))

abbrev operation_key : List ℕ
operation_key = codes ",\"operationName\":"

abbrev process_key : List ℕ
process_key = codes ",\"processID\":"

abbrev references_key : List ℕ
references_key = codes ",\"references\":"

named : (t operation : List ℕ) (n : ℕ)
    → ((((t ++ codes ",\"operationName\":\"") ++ escape operation) ++ codes "\",\"processID\":\"p") ++ decimal n) ++ codes "\",\"references\":"
    ≡ ((((t ++ operation_key) ++ quoted operation) ++ process_key) ++ quoted (112 ∷ decimal n)) ++ references_key
unfolding escape_byte
named t operation n =
    let rest : List ℕ = decimal n ++ 34 ∷ references_key in
    to_right t (codes ",\"operationName\":\"") (escape operation) (codes "\",\"processID\":\"p") (decimal n) (codes "\",\"references\":")
    ∙ ap (λ (l : List ℕ). t ++ (operation_key ++ 34 ∷ l))
    (sym (append_assoc (escape operation) (34 ∷ []) (process_key ++ 34 ∷ 112 ∷ rest))
    ∙ ap (λ (l : List ℕ). (escape operation ++ 34 ∷ []) ++ (process_key ++ 34 ∷ 112 ∷ l))
    (sym (append_assoc (decimal n) (34 ∷ []) references_key) ∙ ap (λ (d : List ℕ). (d ++ 34 ∷ []) ++ references_key) (sym (escape_decimal n))))
    ∙ sym (to_right t operation_key (quoted operation) process_key (quoted (112 ∷ decimal n)) references_key)

-- the operation and the process of a span, up to its references
pub named_put : {a b c d e f g : Page} {t : List ℕ} (operation : List ℕ) (n : ℕ) → Puts a b t
    → Puts b c (codes ",\"operationName\":\"") → Puts c d (escape operation) → Puts d e (codes "\",\"processID\":\"p")
    → Puts e f (decimal n) → Puts f g (codes "\",\"references\":")
    → Puts a g (((((t ++ operation_key) ++ quoted operation) ++ process_key) ++ quoted (112 ∷ decimal n)) ++ references_key)
named_put {t = t} operation n p q r s u v = Puts-is (p ▸ q ▸ r ▸ s ▸ u ▸ v) (named t operation n)
