-- Objects and lists that are written to a page, one item after the other.
use Rattle.std.proofs.Common.{◌≡◌, ◌<◌, ◌≤◌, ◌+◌, ℕ, true, List, [], ◌∷◌, ◌++◌, length, map, drop, get_or, refl, sym, ap, subst}
use Rattle.std.proofs.Common.{◌∙◌, append_assoc, arith, Some}
use Rattle.std.specs.Prelude.{slice_get}
use Rattle.std.proofs.lemmas.List.{drop_all, drop_more, get_or-map, length-map}
use Rattle.std.proofs.lemmas.Option.{get_or_from_slice_get}
use Rattle.json.specs.Print.{quoted}
use Rattle.serde_json.specs.Data.{Data, null, boolean, number, string, array, object, Members, no_members, member}
use Rattle.serde_json.specs.View.{items_of}
use Rattle.serde_json.specs.Written.{compact_text, items_text, members_text}
use Rattle.trace_model.specs.declared.answer.Shown.{Shown}
use Rattle.json_page.specs.declared.page.Page.{Page}
use Rattle.query_json.specs.declared.writing.processes.NamedProcess.{NamedProcess}
use Rattle.query_json.specs.NamedProcesses.{name_of, named_members, named_text, process_tree_at}
use Rattle.json_page.specs.Page.{Puts}
use Rattle.json_page.proofs.Pages.{◌▸◌, Puts-is}
use Rattle.answer_trees.specs.Trees.{list}

-- ---- objects

-- the other members one by one after a text, and then the closing brace
abbrev pub put_rest : List ℕ → Members → List ℕ
put_rest t no_members = t ++ 125 ∷ []
put_rest t (member k d ms) = put_rest ((t ++ (44 ∷ (quoted k ++ 58 ∷ []))) ++ compact_text d) ms

put_rest-text : (t : List ℕ) (ms : Members) → put_rest t ms ≡ t ++ members_text true ms
put_rest-text t no_members = refl
put_rest-text t (member k d ms) =
    let key : List ℕ = quoted k ++ 58 ∷ [] in
    let rest : List ℕ = members_text true ms in
    put_rest-text ((t ++ (44 ∷ key)) ++ compact_text d) ms ∙ append_assoc (t ++ (44 ∷ key)) (compact_text d) rest
    ∙ append_assoc t (44 ∷ key) (compact_text d ++ rest)
    ∙ ap (λ (l : List ℕ). t ++ 44 ∷ l) (append_assoc (quoted k) (58 ∷ []) (compact_text d ++ rest))

-- an object member by member, and any other tree at once
abbrev pub put_tree : Data → List ℕ
put_tree null = compact_text null
put_tree (boolean b) = compact_text (boolean b)
put_tree (number n) = compact_text (number n)
put_tree (string s) = compact_text (string s)
put_tree (array ds) = compact_text (array ds)
put_tree (object no_members) = compact_text (object no_members)
put_tree (object (member k d ms)) = put_rest ((123 ∷ (quoted k ++ 58 ∷ [])) ++ compact_text d) ms

pub put_tree-text : (d : Data) → put_tree d ≡ compact_text d
put_tree-text null = refl
put_tree-text (boolean b) = refl
put_tree-text (number n) = refl
put_tree-text (string s) = refl
put_tree-text (array ds) = refl
put_tree-text (object no_members) = refl
put_tree-text (object (member k d ms)) =
    let rest : List ℕ = members_text true ms in
    put_rest-text ((123 ∷ (quoted k ++ 58 ∷ [])) ++ compact_text d) ms ∙ append_assoc (123 ∷ (quoted k ++ 58 ∷ [])) (compact_text d) rest
    ∙ ap (λ (l : List ℕ). 123 ∷ l) (append_assoc (quoted k) (58 ∷ []) (compact_text d ++ rest))

-- ---- lists

-- the remaining ones, each with a comma before it, and then the closing bracket
abbrev pub rest_text : {X : Type 0} → (X → List ℕ) → ℕ → List X → List ℕ
rest_text f close [] = close ∷ []
rest_text f close (x ∷ xs) = 44 ∷ (f x ++ rest_text f close xs)

pub items_rest : {X : Type 0} (f : X → Data) (xs : List X) → rest_text (λ x. compact_text (f x)) 93 xs ≡ items_text true (items_of (map f xs))
items_rest f [] = refl
items_rest f (x ∷ xs) = ap (λ (l : List ℕ). 44 ∷ (compact_text (f x) ++ l)) (items_rest f xs)

pub members_rest : (ss : List Shown) (ps : List NamedProcess) → rest_text (named_text ss) 125 ps ≡ members_text true (named_members ss ps)
members_rest ss [] = refl
members_rest ss (p ∷ ps) =
    let tree : List ℕ = compact_text (process_tree_at ss p.span) in
    ap (λ (l : List ℕ). 44 ∷ (named_text ss p ++ l)) (members_rest ss ps)
    ∙ ap (λ (l : List ℕ). 44 ∷ l) (append_assoc (quoted (name_of p)) (58 ∷ tree) (members_text true (named_members ss ps)))

-- a list is written up to `left`
pub record Going {X : Type 0} (f : X → List ℕ) (close : ℕ) (old now : Page) (left : List X) (whole : List ℕ) : Type 0 where
  pub front : List ℕ
  pub put : Puts old now front
  pub text : front ++ rest_text f close left ≡ whole

pub Going-more : {X : Type 0} {f : X → List ℕ} {close : ℕ} {old now next : Page} {x : X} {left : List X} {whole : List ℕ}
    → Going f close old now (x ∷ left) whole → Puts now next (44 ∷ f x) → Going f close old next left whole
Going-more {f = f} {close = close} {x = x} {left = left} g p = record {
  front = g.front ++ 44 ∷ f x;
  put = g.put ▸ p;
  text = append_assoc g.front (44 ∷ f x) (rest_text f close left) ∙ g.text;
}

pub Going-end : {X : Type 0} {f : X → List ℕ} {close : ℕ} {old now next : Page} {whole : List ℕ}
    → Going f close old now [] whole → Puts now next (close ∷ []) → Puts old next whole
Going-end g p = Puts-is (g.put ▸ p) g.text

-- one more of them is written, the one at the index
pub Going-at : {X : Type 0} {f : X → List ℕ} {close : ℕ} {old now next : Page} (xs : List X) (i : ℕ) (x : X) {whole : List ℕ}
    → Going f close old now (drop i xs) whole → i < length xs → x ≡ get_or xs i x → Puts now next (44 ∷ f x) → Going f close old next (drop (i + 1) xs) whole
Going-at {f = f} {close = close} {old = old} {now = now} xs i x {whole = whole} g within is p =
    let here : drop i xs ≡ x ∷ drop (i + 1) xs = drop_more xs i x within ∙ ap (λ y. y ∷ drop (i + 1) xs) (sym is) in
    Going-more (subst (λ ys. Going f close old now ys whole) here g) p

-- all are written
pub Going-over : {X : Type 0} {f : X → List ℕ} {close : ℕ} {old now next : Page} (xs : List X) (i : ℕ) {whole : List ℕ}
    → Going f close old now (drop i xs) whole → length xs ≤ i → Puts now next (close ∷ []) → Puts old next whole
Going-over {f = f} {close = close} {old = old} {now = now} xs i {whole = whole} g over p =
    Going-end (subst (λ ys. Going f close old now ys whole) (drop_all i xs over) g) p

-- the first of a list of trees is written
pub list_begun : {X : Type 0} (f : X → Data) {old now : Page} {xs : List X} {x : X} {left : List X} → xs ≡ x ∷ left
    → Puts old now ((91 ∷ []) ++ compact_text (f x))
    → Going (λ y. compact_text (f y)) 93 old now left (compact_text (list (map f xs)))
list_begun f {x = x} {left = left} e p = record {
  front = 91 ∷ compact_text (f x);
  put = p;
  text = ap (λ (l : List ℕ). 91 ∷ (compact_text (f x) ++ l)) (items_rest f left) ∙ sym (ap (λ ys. compact_text (list (map f ys))) e);
}

-- the tree of the item at the index
pub tree_at : {X : Type 0} (f : X → Data) (xs : List X) (i : ℕ) (x : X) → i < length (map f xs) → slice_get xs i ≡ Some x → f x ≡ get_or (map f xs) i null
tree_at f xs i x below e = sym (get_or-map f xs i x null (omega (arith, below, length-map xs f)) ∙ ap f (get_or_from_slice_get xs i x x e))
