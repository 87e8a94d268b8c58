-- The text of a trace, piece by piece.
use Rattle.std.proofs.Common.{◌≡◌, ◌<◌, ◌≤◌, ◌+◌, ◌-◌, ◌∙◌, ℕ, zero, suc, List, [], ◌∷◌, ◌++◌, length, length-append, get_or, map, refl, sym, ap, append_assoc}
use Rattle.std.proofs.Common.{append-nil, arith}
use Rattle.std.specs.Prelude.{codes}
use Rattle.std.proofs.lemmas.List.{get_or-append_right, get_or-map, get_or_append_left, length-map}
use Rattle.json.specs.Print.{escape_byte, quoted}
use Rattle.serde_json.specs.Data.{Data, object, string}
use Rattle.serde_json.specs.Written.{compact_text}
use Rattle.trace_model.specs.declared.answer.Shown.{Shown}
use Rattle.query_json.specs.declared.writing.processes.NamedProcess.{NamedProcess}
use Rattle.query_json.specs.NamedProcesses.{AreNamed, name_of, named_members, named_text, process_tree_at}
use Rattle.query_json.specs.Runs.{joined, separator}
use Rattle.query_json.specs.TracePieces.{between_text, close_text, open_text, pieces_of, span_pieces, span_text_in, with_commas}
use Rattle.answer_trees.specs.Trees.{list, processes_of, processes_tree, span_tree, trace_id_text, trace_tree}
use Rattle.query_json.proofs.Pages.{items_rest, members_rest, put_tree-text, rest_text}

-- ---- lists with commas

wrapped : (ts : List (List ℕ)) (close : ℕ) → joined (map (λ u. 44 ∷ u) ts) ++ close ∷ [] ≡ rest_text (λ (t : List ℕ). t) close ts
wrapped [] close = refl
wrapped (t ∷ ts) close =
    ap (λ (l : List ℕ). 44 ∷ l) (append_assoc t (joined (map (λ u. 44 ∷ u) ts)) (close ∷ []) ∙ ap (λ (l : List ℕ). t ++ l) (wrapped ts close))

rest_of_texts : {X : Type 0} (f : X → List ℕ) (close : ℕ) (xs : List X) → rest_text (λ (t : List ℕ). t) close (map f xs) ≡ rest_text f close xs
rest_of_texts f close [] = refl
rest_of_texts f close (x ∷ xs) = ap (λ (l : List ℕ). 44 ∷ (f x ++ l)) (rest_of_texts f close xs)

list_pieces : {X : Type 0} (f : X → Data) (xs : List X)
    → 91 ∷ (joined (with_commas (map (λ x. compact_text (f x)) xs)) ++ 93 ∷ []) ≡ compact_text (list (map f xs))
list_pieces f [] = refl
list_pieces f (x ∷ xs) =
    let texts : List (List ℕ) = map (λ y. compact_text (f y)) xs in
    ap (λ (l : List ℕ). 91 ∷ l)
    (append_assoc (compact_text (f x)) (joined (map (λ u. 44 ∷ u) texts)) (93 ∷ [])
    ∙ ap (λ (l : List ℕ). compact_text (f x) ++ l) (wrapped texts 93 ∙ rest_of_texts (λ y. compact_text (f y)) 93 xs ∙ items_rest f xs))

object_pieces : (ss : List Shown) (ps : List NamedProcess)
    → 123 ∷ (joined (with_commas (map (named_text ss) ps)) ++ 125 ∷ []) ≡ compact_text (object (named_members ss ps))
object_pieces ss [] = refl
object_pieces ss (p ∷ ps) =
    let tree : List ℕ = compact_text (process_tree_at ss p.span) in
    let texts : List (List ℕ) = map (named_text ss) ps in
    ap (λ (l : List ℕ). 123 ∷ l)
    (append_assoc (named_text ss p) (joined (map (λ u. 44 ∷ u) texts)) (125 ∷ [])
    ∙ ap (λ (l : List ℕ). named_text ss p ++ l) (wrapped texts 125 ∙ rest_of_texts (named_text ss) 125 ps ∙ members_rest ss ps)
    ∙ append_assoc (quoted (name_of p)) (58 ∷ tree) _)

-- ---- the whole

abbrev before_processes : List ℕ
before_processes = 123 ∷ 34 ∷ (codes "processes" ++ 34 ∷ 58 ∷ [])

abbrev before_spans : List ℕ
before_spans = 44 ∷ 34 ∷ (codes "spans" ++ 34 ∷ 58 ∷ [])

abbrev before_id : List ℕ
before_id = 44 ∷ 34 ∷ (codes "traceID" ++ 34 ∷ 58 ∷ [])

abbrev before_warnings : List ℕ
before_warnings = 44 ∷ 34 ∷ (codes "warnings" ++ 34 ∷ 58 ∷ [])

abbrev tail_of : List ℕ → List ℕ → List ℕ
tail_of x id = (((x ++ before_id) ++ id) ++ before_warnings) ++ codes "null"

-- the pieces in sequence
one_by_one : (a p b s z : List ℕ) → a ++ (p ++ (b ++ (s ++ (z ++ [])))) ≡ (((a ++ p) ++ b) ++ s) ++ z
one_by_one a p b s z =
    ap (λ (l : List ℕ). a ++ (p ++ (b ++ (s ++ l)))) (append-nil z)
    ∙ ap (λ (l : List ℕ). a ++ (p ++ l)) (sym (append_assoc b s z))
    ∙ ap (λ (l : List ℕ). a ++ l) (sym (append_assoc p (b ++ s) z))
    ∙ sym (append_assoc a (p ++ (b ++ s)) z)
    ∙ ap (λ (l : List ℕ). (a ++ l) ++ z) (sym (append_assoc p b s))
    ∙ ap (λ (l : List ℕ). l ++ z) (sym (append_assoc a (p ++ b) s))
    ∙ ap (λ (l : List ℕ). (l ++ s) ++ z) (sym (append_assoc a p b))

processes_in : (a p b : List ℕ) → ((a ++ 123 ∷ []) ++ p) ++ (125 ∷ (b ++ 91 ∷ [])) ≡ ((a ++ (123 ∷ (p ++ 125 ∷ []))) ++ b) ++ 91 ∷ []
processes_in a p b =
    ap (λ (l : List ℕ). l ++ (125 ∷ (b ++ 91 ∷ []))) (append_assoc a (123 ∷ []) p)
    ∙ sym (append_assoc (a ++ (123 ∷ p)) (125 ∷ []) (b ++ 91 ∷ []))
    ∙ ap (λ (l : List ℕ). l ++ (b ++ 91 ∷ [])) (append_assoc a (123 ∷ p) (125 ∷ []))
    ∙ sym (append_assoc (a ++ (123 ∷ (p ++ 125 ∷ []))) b (91 ∷ []))

spans_in : (m s : List ℕ) → ((m ++ 91 ∷ []) ++ s) ++ 93 ∷ [] ≡ m ++ (91 ∷ (s ++ 93 ∷ []))
spans_in m s = append_assoc (m ++ 91 ∷ []) s (93 ∷ []) ∙ append_assoc m (91 ∷ []) (s ++ 93 ∷ [])

close_in : (x id : List ℕ) → x ++ (tail_of (93 ∷ []) id ++ 125 ∷ []) ≡ tail_of (x ++ 93 ∷ []) id ++ 125 ∷ []
close_in x id =
    sym (append_assoc x (tail_of (93 ∷ []) id) (125 ∷ []))
    ∙ ap (λ (l : List ℕ). l ++ 125 ∷ []) (sym (append_assoc x (((93 ∷ before_id) ++ id) ++ before_warnings) (codes "null")))
    ∙ ap (λ (l : List ℕ). (l ++ codes "null") ++ 125 ∷ []) (sym (append_assoc x ((93 ∷ before_id) ++ id) before_warnings))
    ∙ ap (λ (l : List ℕ). ((l ++ before_warnings) ++ codes "null") ++ 125 ∷ []) (sym (append_assoc x (93 ∷ before_id) id))
    ∙ ap (λ (l : List ℕ). (((l ++ id) ++ before_warnings) ++ codes "null") ++ 125 ∷ []) (sym (append_assoc x (93 ∷ []) before_id))

joined_parts : (ts : List (List ℕ)) (rest : List (List ℕ)) → joined (ts ++ rest) ≡ joined ts ++ joined rest
joined_parts [] rest = refl
joined_parts (t ∷ ts) rest = ap (λ (l : List ℕ). t ++ l) (joined_parts ts rest) ∙ sym (append_assoc t (joined ts) (joined rest))

tree_text : (ss : List Shown) → tail_of
    ((((before_processes ++ compact_text (processes_tree (processes_of ss))) ++ before_spans) ++ compact_text (list (map (span_tree (processes_of ss)) ss))))
    (compact_text (string (trace_id_text ss))) ++ 125 ∷ [] ≡ compact_text (trace_tree ss)
unfolding escape_byte
tree_text ss = put_tree-text (trace_tree ss)

pub trace_text : (ss : List Shown) (ps : List NamedProcess) → AreNamed ss (processes_of ss) ps → joined (pieces_of ps ss) ≡ compact_text (trace_tree ss)
trace_text ss ps named =
    let p : List ℕ = joined (with_commas (map (named_text ss) ps)) in
    let s : List ℕ = joined (with_commas (map (span_text_in ss) ss)) in
    let id : List ℕ = compact_text (string (trace_id_text ss)) in
    let obj : 123 ∷ (p ++ 125 ∷ []) ≡ compact_text (processes_tree (processes_of ss)) =
    object_pieces ss ps ∙ ap (λ ms. compact_text (object ms)) named.members in
    let spans : 91 ∷ (s ++ 93 ∷ []) ≡ compact_text (list (map (span_tree (processes_of ss)) ss)) = list_pieces (span_tree (processes_of ss)) ss in
    let behind : joined (span_pieces ss) ≡ between_text ++ (s ++ (close_text ss ++ [])) =
    ap (λ (l : List ℕ). between_text ++ l) (joined_parts (with_commas (map (span_text_in ss) ss)) (close_text ss ∷ [])) in
    ap (λ (l : List ℕ). open_text ++ l) (joined_parts (with_commas (map (named_text ss) ps)) (span_pieces ss) ∙ ap (λ (l : List ℕ). p ++ l) behind)
    ∙ one_by_one open_text p between_text s (close_text ss)
    ∙ ap (λ (l : List ℕ). (l ++ s) ++ close_text ss) (processes_in before_processes p before_spans)
    ∙ close_in ((((before_processes ++ (123 ∷ (p ++ 125 ∷ []))) ++ before_spans) ++ 91 ∷ []) ++ s) id
    ∙ ap (λ (l : List ℕ). tail_of l id ++ 125 ∷ []) (spans_in ((before_processes ++ (123 ∷ (p ++ 125 ∷ []))) ++ before_spans) s)
    ∙ (λ i. tail_of ((before_processes ++ obj i) ++ before_spans ++ spans i) id ++ 125 ∷ [])
    ∙ tree_text ss

-- ---- one of them

length-with_commas : (ts : List (List ℕ)) → length (with_commas ts) ≡ length ts
length-with_commas [] = refl
length-with_commas (t ∷ ts) = omega (arith, length-map ts (λ u. 44 ∷ u))

commas_at : (ts : List (List ℕ)) (j : ℕ) → j < length ts → get_or (with_commas ts) j [] ≡ separator j ++ get_or ts j []
commas_at [] j h = absurd (omega (arith, h))
commas_at (t ∷ ts) zero h = refl
commas_at (t ∷ ts) (suc j) h = get_or-map (λ u. 44 ∷ u) ts j [] [] (omega (arith, h))

-- a list of texts with commas between two others: which piece is the first, one of the list, or one after it
module _ (x : List ℕ) (ts rest : List (List ℕ)) (k : ℕ) where
  pub piece_first : k ≡ 0 → x ≡ get_or (x ∷ (with_commas ts ++ rest)) k []
  piece_first e = sym (ap (λ n. get_or (x ∷ (with_commas ts ++ rest)) n []) e)

  behind_first : (k ≡ 0 → ⊥) → get_or (x ∷ (with_commas ts ++ rest)) k [] ≡ get_or (with_commas ts ++ rest) (k - 1) []
  behind_first = by k
    where
      by : (n : ℕ) → (n ≡ 0 → ⊥) → get_or (x ∷ (with_commas ts ++ rest)) n [] ≡ get_or (with_commas ts ++ rest) (n - 1) []
      by zero differs = absurd (differs refl)
      by (suc n) differs =
          let before : n ≡ suc n - 1 = omega arith in
          ap (λ m. get_or (with_commas ts ++ rest) m []) before

  pub piece_listed : (k ≡ 0 → ⊥) → k - 1 < length ts → separator (k - 1) ++ get_or ts (k - 1) [] ≡ get_or (x ∷ (with_commas ts ++ rest)) k []
  piece_listed differs within =
      sym (behind_first differs ∙ get_or_append_left (with_commas ts) rest [] (k - 1) (omega (arith, within, length-with_commas ts))
      ∙ commas_at ts (k - 1) within)

  pub piece_behind : (k ≡ 0 → ⊥) → (n : ℕ) → length ts ≡ n → n ≤ k - 1 → get_or rest (k - 1 - n) [] ≡ get_or (x ∷ (with_commas ts ++ rest)) k []
  piece_behind differs n long over = sym (behind_first differs ∙ get_or-append_right (with_commas ts) rest n (k - 1) [] (length-with_commas ts ∙ long) over)

  pub length_pieces : length (x ∷ (with_commas ts ++ rest)) ≡ length ts + length rest + 1
  length_pieces = omega (arith, length-append (with_commas ts) rest, length-with_commas ts)
