-- Runs of pieces of an answer's text.
use Rattle.std.proofs.Common.{◌≡◌, ◌<◌, ◌≤◌, ◌+◌, ◌∙◌, ℕ, zero, suc, List, [], ◌∷◌, ◌++◌, true, false, Bool, length, drop, get_or, map, refl, sym, ap, subst}
use Rattle.std.proofs.Common.{append_assoc, append-nil, arith}
use Rattle.std.proofs.lemmas.List.{drop_all, drop_more, length-map}
use Rattle.serde_json.specs.Data.{Data}
use Rattle.serde_json.specs.View.{items_of}
use Rattle.serde_json.specs.Written.{compact_text, items_text}
use Rattle.json_page.specs.declared.page.Page.{Page}
use Rattle.query_json.specs.AnswerTexts.{head_text, tail_text}
use Rattle.json_page.specs.Page.{Puts}
use Rattle.query_json.specs.Runs.{Fills, PutsNext, end_text, front_text, joined, left_at, more_runs, runs, runs_text, separator, steps, without}
use Rattle.answer_trees.specs.Trees.{items_tree, list}
use Rattle.query_json.proofs.Answers.{items_around}
use Rattle.json_page.proofs.Pages.{◌▸◌, Puts-nothing}
use Rattle.query_json.proofs.Pages.{rest_text}

abbrev pub Run : Type 0
Run = List (List ℕ)

-- ---- the whole

abbrev listed : List (List ℕ) → List ℕ
listed ts = rest_text (λ (t : List ℕ). t) 93 ts

more_text : (total : ℕ) (rs : List Run) → runs_text (more_runs total rs) ≡ listed (map joined rs) ++ tail_text total
more_text total [] = append-nil (end_text total ++ []) ∙ append-nil (end_text total)
more_text total (r ∷ rs) =
    ap (λ (l : List ℕ). 44 ∷ (joined r ++ l)) (more_text total rs)
    ∙ ap (λ (l : List ℕ). 44 ∷ l) (sym (append_assoc (joined r) (listed (map joined rs)) (tail_text total)))

-- the texts of the items, and the text around them
abbrev pub body : List (List ℕ) → List ℕ
body [] = end_text 0
body (t ∷ ts) = t ++ (listed ts ++ tail_text (suc (length ts)))

pub body_is : (rs : List Run) → runs_text (runs rs) ≡ body (map joined rs)
body_is [] = more_text 0 []
body_is (r ∷ rs) =
    ap (λ (l : List ℕ). joined r ++ l) (more_text (suc (length rs)) rs ∙ ap (λ n. listed (map joined rs) ++ tail_text (suc n)) (sym (length-map rs joined)))

listed_items : (ds : List Data) → listed (map compact_text ds) ≡ items_text true (items_of ds)
listed_items [] = refl
listed_items (d ∷ ds) = ap (λ (l : List ℕ). 44 ∷ (compact_text d ++ l)) (listed_items ds)

pub body_whole : (ds : List Data) → front_text ++ body (map compact_text ds) ≡ compact_text (items_tree ds)
body_whole [] = append_assoc head_text (91 ∷ []) (end_text 0) ∙ items_around []
body_whole (d ∷ ds) =
    let text : List ℕ = compact_text d in
    let rest : List ℕ = listed (map compact_text ds) in
    let total : ℕ = suc (length ds) in
    let list_text : 91 ∷ (text ++ rest) ≡ compact_text (list (d ∷ ds)) = ap (λ (l : List ℕ). 91 ∷ (text ++ l)) (listed_items ds) in
    append_assoc head_text (91 ∷ []) (text ++ (rest ++ tail_text (suc (length (map compact_text ds)))))
    ∙ ap (λ n. head_text ++ 91 ∷ (text ++ (rest ++ tail_text (suc n)))) (length-map ds compact_text)
    ∙ ap (λ (l : List ℕ). head_text ++ 91 ∷ l) (sym (append_assoc text rest (tail_text total)))
    ∙ sym (append_assoc head_text (91 ∷ (text ++ rest)) (tail_text total))
    ∙ ap (λ (l : List ℕ). (head_text ++ l) ++ tail_text total) list_text
    ∙ items_around (d ∷ ds)

-- ---- the runs

length_more : (total : ℕ) (rs : List Run) → length (more_runs total rs) ≡ length rs + 1
length_more total [] = refl
length_more total (r ∷ rs) = omega (arith, length_more total rs)

pub length_runs : (rs : List Run) → length (runs rs) ≡ length rs + 1
length_runs [] = refl
length_runs (r ∷ rs) = omega (arith, length_more (suc (length rs)) rs)

more_at : (total : ℕ) (rs : List Run) (k : ℕ) → k < length rs → get_or (more_runs total rs) k [] ≡ (44 ∷ []) ∷ get_or rs k []
more_at total [] k h = absurd (omega (arith, h))
more_at total (r ∷ rs) zero h = refl
more_at total (r ∷ rs) (suc k) h = more_at total rs k (omega (arith, h))

pub run_at : (rs : List Run) (k : ℕ) → k < length rs → get_or (runs rs) k [] ≡ separator k ∷ get_or rs k []
run_at [] k h = absurd (omega (arith, h))
run_at (r ∷ rs) zero h = refl
run_at (r ∷ rs) (suc k) h = more_at (suc (length rs)) rs k (omega (arith, h))

more_end : (total : ℕ) (rs : List Run) → get_or (more_runs total rs) (length rs) [] ≡ end_text total ∷ []
more_end total [] = refl
more_end total (r ∷ rs) = more_end total rs

pub run_end : (rs : List Run) (k : ℕ) → k ≡ length rs → get_or (runs rs) k [] ≡ end_text k ∷ []
run_end rs k e = ap (λ n. get_or (runs rs) n []) e ∙ by rs ∙ ap (λ n. end_text n ∷ []) (sym e)
  where
    by : (rs : List Run) → get_or (runs rs) (length rs) [] ≡ end_text (length rs) ∷ []
    by [] = refl
    by (r ∷ rs) = more_end (suc (length rs)) rs

-- ---- the rest at a position

without_none : (rs : List Run) → without 0 rs ≡ rs
without_none [] = refl
without_none (r ∷ rs) = refl

pub left_first : (rs : List Run) (run piece : ℕ) → run ≡ 0 → piece ≡ 0 → left_at rs run piece ≡ rs
left_first rs run piece e f = ap (λ n. without piece (drop n rs)) e ∙ ap (λ n. without n rs) f ∙ without_none rs

pub left_none : (rs : List Run) (run piece : ℕ) → length rs ≤ run → left_at rs run piece ≡ []
left_none rs run piece h = ap (without piece) (drop_all run rs h)

left_is : (rs : List Run) (run piece : ℕ) → run < length rs → left_at rs run piece ≡ drop piece (get_or rs run []) ∷ drop (run + 1) rs
left_is rs run piece h = ap (without piece) (drop_more rs run [] h)

-- ---- steps

moved : {old new : Page} {from to from2 to2 : List Run} → from ≡ from2 → to ≡ to2 → PutsNext old new from2 to2 → PutsNext old new from to
moved {old = old} {new = new} {from = from} {to2 = to2} e f h = subst (λ t. PutsNext old new from t) (sym f) (subst (λ s. PutsNext old new s to2) (sym e) h)

one_put : {old new : Page} (p : List ℕ) (r : Run) (more : List Run) → Puts old new p → PutsNext old new ((p ∷ r) ∷ more) (r ∷ more)
one_put p r more put = record {
  piece = p;
  puts = put;
  text = append_assoc p (joined r) (runs_text more);
  fits = λ most h. (h.0.0, (h.0.1, h.1));
  bounds = λ most here h. ((here, h.0), h.1);
  fewer = omega arith;
}

run_over : (a : Page) (more : List Run) → PutsNext a a ([] ∷ more) more
run_over a more = record {
  piece = [];
  puts = Puts-nothing a;
  text = refl;
  fits = λ most h. (omega arith, h.1);
  bounds = λ most here h. (tt, h);
  fewer = omega arith;
}

pub puts_piece : {old new : Page} (rs : List Run) (run piece : ℕ) → run < length rs → piece < length (get_or rs run [])
    → Puts old new (get_or (get_or rs run []) piece [])
    → PutsNext old new (left_at rs run piece) (left_at rs run (piece + 1))
puts_piece rs run piece h within put =
    let r = get_or rs run [] in
    let here : left_at rs run piece ≡ (get_or r piece [] ∷ drop (piece + 1) r) ∷ drop (run + 1) rs =
    left_is rs run piece h ∙ ap (λ (s : Run). s ∷ drop (run + 1) rs) (drop_more r piece [] within) in
    moved here (left_is rs run (piece + 1) h) (one_put (get_or r piece []) (drop (piece + 1) r) (drop (run + 1) rs) put)

pub puts_none : (a : Page) (rs : List Run) (run piece : ℕ) → run < length rs → length (get_or rs run []) ≤ piece
    → PutsNext a a (left_at rs run piece) (left_at rs (run + 1) 0)
puts_none a rs run piece h over =
    let here : left_at rs run piece ≡ [] ∷ drop (run + 1) rs =
    left_is rs run piece h ∙ ap (λ (s : Run). s ∷ drop (run + 1) rs) (drop_all piece (get_or rs run []) over) in
    moved here (without_none (drop (run + 1) rs)) (run_over a (drop (run + 1) rs))

-- ---- pieces written to a page

pub Fills-none : (enough : ℕ) (a : Page) (rs : List Run) → Fills enough a a rs rs
Fills-none enough a rs = record {
  bytes = [];
  puts = Puts-nothing a;
  text = refl;
  ended = λ none. none;
  fits = λ most h. h;
  room = λ most h cap had. had;
}

not_full : (t : Bool) → (t ≡ true → ⊥) → t ≡ false
not_full true lacks = absurd (lacks refl)
not_full false lacks = refl

pub Fills-next : {enough : ℕ} {a b c : Page} {from mid to : List Run} → Fills enough a b from mid → PutsNext b c mid to → length b.bytes.items < enough
    → b.full ≡ false → Fills enough a c from to
Fills-next {a = a} {b = b} {c = c} {mid = mid} {to = to} f n below had_room = record {
  bytes = f.bytes ++ n.piece;
  puts = f.puts ▸ n.puts;
  text = f.text ∙ ap (λ (l : List ℕ). f.bytes ++ l) n.text ∙ sym (append_assoc f.bytes n.piece (runs_text to));
  ended = λ none. absurd (omega (arith, n.fewer, ap steps (f.ended none)));
  fits = λ most h. (n.fits most (f.fits most h)).1;
  room = λ most h cap had.
      let small = (n.fits most (f.fits most h)).0 in
      not_full c.full (λ full. let lacks = n.puts.adds.lacks had_room full in let grown = f.puts.adds.room in
      omega (arith, lacks, grown, small, cap, below));
}

pub put_items : {a b : Page} {xs : List ℕ} → Puts a b xs → b.full ≡ false → a.bytes.items ≡ [] → b.bytes.items ≡ xs
put_items {xs = xs} p room none = p.adds.behind room ∙ ap (λ (l : List ℕ). l ++ xs) none

-- an open page stays open if nothing is written
pub open_still : {a b : Page} {xs : List ℕ} → Puts a b xs → a.full ≡ false → length xs ≡ 0 → b.full ≡ false
open_still {a = a} {b = b} p had none = not_full b.full (λ full. let lacks = p.adds.lacks had full in omega (arith, lacks, none))
