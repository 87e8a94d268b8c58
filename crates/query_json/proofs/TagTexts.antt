-- A tag's text, in the pieces in which it is written.
use Rattle.std.proofs.Common.{◌≡◌, ℕ, ◌+◌, ◌<◌, Bool, true, false, ℤ, List, [], ◌∷◌, ◌++◌, length, map, drop, get_or, refl, sym, ap, ◌∙◌, append_assoc, subst}
use Rattle.std.proofs.Common.{arith}
use Rattle.std.specs.Prelude.{codes}
use Rattle.std.specs.Fmt.{signed_decimal}
use Rattle.std.proofs.lemmas.List.{drop_all, drop_more}
use Rattle.json.specs.Print.{escape, escape_byte}
use Rattle.serde_json.specs.Data.{string, member, no_members}
use Rattle.serde_json.specs.Written.{compact_text, members_text}
use Rattle.jaeger_model.specs.declared.tag.Tag.{Tag}
use Rattle.jaeger_model.specs.declared.tag.Value.TheVariants as tagged
use Rattle.jaeger_model.specs.Tags.{flag_text, hex_text}
use Rattle.json_page.specs.declared.page.Page.{Page}
use Rattle.query_json.specs.declared.writing.values.AfterTag.TheVariants as after
use Rattle.json_page.specs.Page.{Puts}
use Rattle.query_json.specs.Tags.{after_tag, behind_key, from_key}
use Rattle.answer_trees.specs.Trees.{list, tag_tree, type_name, value_tree}
use Rattle.json_page.proofs.Escapes.{escape_hex_text}
use Rattle.query_json.proofs.IntegerTexts.{integer_text}
use Rattle.json_page.proofs.Pages.{◌▸◌, Puts-is}
use Rattle.query_json.proofs.Pages.{items_rest, rest_text}

abbrev others : Tag → List ℕ
others t = members_text true (member (codes "type") (string (type_name t.value)) (member (codes "value") (value_tree t.value) no_members))

abbrev opened : List ℕ
opened = codes "{\"key\":\""

tag_text : (t : Tag) → opened ++ from_key t ≡ compact_text (tag_tree t)
unfolding escape_byte
tag_text t = ap (λ (l : List ℕ). opened ++ l) (sym (append_assoc (escape t.key) (34 ∷ []) (others t)))

-- a value inside quotes
in_quotes : (before text : List ℕ) → (before ++ text) ++ 34 ∷ 125 ∷ [] ≡ before ++ ((text ++ 34 ∷ []) ++ 125 ∷ [])
in_quotes before text = append_assoc before text (34 ∷ 125 ∷ []) ∙ ap (λ (l : List ℕ). before ++ l) (sym (append_assoc text (34 ∷ []) (125 ∷ [])))

text_typed : (w : List ℕ) → (codes "\",\"type\":\"string\",\"value\":\"" ++ escape w) ++ 34 ∷ 125 ∷ [] ≡ behind_key (tagged.Text w)
unfolding escape_byte
text_typed w = in_quotes (codes "\",\"type\":\"string\",\"value\":\"") (escape w)

double_typed : (w : List ℕ) → (codes "\",\"type\":\"float64\",\"value\":\"" ++ hex_text w) ++ 34 ∷ 125 ∷ [] ≡ behind_key (tagged.Double w)
unfolding escape_byte
double_typed w =
    in_quotes (codes "\",\"type\":\"float64\",\"value\":\"") (hex_text w)
    ∙ ap (λ (l : List ℕ). codes "\",\"type\":\"float64\",\"value\":\"" ++ ((l ++ 34 ∷ []) ++ 125 ∷ [])) (sym (escape_hex_text w))

bytes_typed : (w : List ℕ) → (codes "\",\"type\":\"binary\",\"value\":\"" ++ hex_text w) ++ 34 ∷ 125 ∷ [] ≡ behind_key (tagged.Bytes w)
unfolding escape_byte
bytes_typed w =
    in_quotes (codes "\",\"type\":\"binary\",\"value\":\"") (hex_text w)
    ∙ ap (λ (l : List ℕ). codes "\",\"type\":\"binary\",\"value\":\"" ++ ((l ++ 34 ∷ []) ++ 125 ∷ [])) (sym (escape_hex_text w))

flag_typed : (b : Bool) → (codes "\",\"type\":\"bool\",\"value\":" ++ flag_text b) ++ 125 ∷ [] ≡ behind_key (tagged.Bool b)
unfolding escape_byte
flag_typed true = refl
flag_typed false = refl

long_typed : (z : ℤ) → (codes "\",\"type\":\"int64\",\"value\":" ++ signed_decimal z) ++ 125 ∷ [] ≡ behind_key (tagged.Long z)
unfolding escape_byte
long_typed z = ap (λ (l : List ℕ). codes "\",\"type\":\"int64\",\"value\":" ++ (l ++ 125 ∷ [])) (sym (integer_text z))

-- a tag's text, with what follows it
followed : (text end more : List ℕ) {whole : List ℕ} → text ++ end ≡ whole → text ++ (end ++ more) ≡ whole ++ more
followed text end more e = sym (append_assoc text end more) ∙ ap (λ (l : List ℕ). l ++ more) e

pub text_then : (w more : List ℕ) → (codes "\",\"type\":\"string\",\"value\":\"" ++ escape w) ++ 34 ∷ 125 ∷ more ≡ behind_key (tagged.Text w) ++ more
text_then w more = followed (codes "\",\"type\":\"string\",\"value\":\"" ++ escape w) (34 ∷ 125 ∷ []) more (text_typed w)

pub double_then : (w more : List ℕ) → (codes "\",\"type\":\"float64\",\"value\":\"" ++ hex_text w) ++ 34 ∷ 125 ∷ more ≡ behind_key (tagged.Double w) ++ more
double_then w more = followed (codes "\",\"type\":\"float64\",\"value\":\"" ++ hex_text w) (34 ∷ 125 ∷ []) more (double_typed w)

pub bytes_then : (w more : List ℕ) → (codes "\",\"type\":\"binary\",\"value\":\"" ++ hex_text w) ++ 34 ∷ 125 ∷ more ≡ behind_key (tagged.Bytes w) ++ more
bytes_then w more = followed (codes "\",\"type\":\"binary\",\"value\":\"" ++ hex_text w) (34 ∷ 125 ∷ []) more (bytes_typed w)

pub flag_then : (b : Bool) (more : List ℕ) → (codes "\",\"type\":\"bool\",\"value\":" ++ flag_text b) ++ 125 ∷ more ≡ behind_key (tagged.Bool b) ++ more
flag_then b more = followed (codes "\",\"type\":\"bool\",\"value\":" ++ flag_text b) (125 ∷ []) more (flag_typed b)

pub long_then : (z : ℤ) (more : List ℕ) → (codes "\",\"type\":\"int64\",\"value\":" ++ signed_decimal z) ++ 125 ∷ more ≡ behind_key (tagged.Long z) ++ more
long_then z more = followed (codes "\",\"type\":\"int64\",\"value\":" ++ signed_decimal z) (125 ∷ []) more (long_typed z)

-- ---- a list of tags, each of which is opened with what is before it
abbrev text_of : Tag → List ℕ
text_of t = compact_text (tag_tree t)

-- the rest of the list after its next tag was opened
abbrev opened_rest : List Tag → List ℕ
opened_rest [] = []
opened_rest (t ∷ ts) = from_key t ++ rest_text text_of 93 ts

-- a list is written up to the key of the first tag of `left`
pub record Opened (old now : Page) (left : List Tag) (whole : List ℕ) : Type 0 where
  pub front : List ℕ
  pub put : Puts old now front
  pub text : front ++ opened_rest left ≡ whole

from_opened : (t : Tag) (rest : List ℕ) → opened ++ (from_key t ++ rest) ≡ text_of t ++ rest
from_opened t rest = sym (append_assoc opened (from_key t) rest) ∙ ap (λ (l : List ℕ). l ++ rest) (tag_text t)

next_text : (front : List ℕ) (t u : Tag) (ts : List Tag)
    → (front ++ (from_key t ++ after_tag after.Next)) ++ opened_rest (u ∷ ts) ≡ front ++ opened_rest (t ∷ u ∷ ts)
next_text front t u ts =
    let rest : List ℕ = rest_text text_of 93 ts in
    append_assoc front (from_key t ++ after_tag after.Next) (from_key u ++ rest)
    ∙ ap (λ (l : List ℕ). front ++ l)
    (append_assoc (from_key t) (after_tag after.Next) (from_key u ++ rest) ∙ ap (λ (l : List ℕ). from_key t ++ 44 ∷ l) (from_opened u rest))

pub Opened-begun : {old now : Page} (ts : List Tag) → 0 < length ts → Puts old now (codes "[{\"key\":\"")
    → Opened old now ts (compact_text (list (map tag_tree ts)))
Opened-begun [] some p = absurd (omega (arith, some))
Opened-begun (t ∷ ts) some p = record {
  front = 91 ∷ opened;
  put = p;
  text = ap (λ (l : List ℕ). 91 ∷ l) (from_opened t (rest_text text_of 93 ts) ∙ ap (λ (l : List ℕ). text_of t ++ l) (items_rest tag_tree ts));
}

-- the tag at the index is next
opened_at : {old now : Page} (ts : List Tag) (i : ℕ) (t : Tag) {whole : List ℕ} → Opened old now (drop i ts) whole → i < length ts → t ≡ get_or ts i t
    → Opened old now (t ∷ drop (i + 1) ts) whole
opened_at {old = old} {now = now} ts i t {whole = whole} o within is =
    subst (λ (l : List Tag). Opened old now l whole) (drop_more ts i t within ∙ ap (λ (u : Tag). u ∷ drop (i + 1) ts) (sym is)) o

pub Opened-next : {old now next : Page} (ts : List Tag) (i : ℕ) (t : Tag) {whole : List ℕ} → Opened old now (drop i ts) whole → i + 1 < length ts
    → t ≡ get_or ts i t → Puts now next (from_key t ++ after_tag after.Next) → Opened old next (drop (i + 1) ts) whole
Opened-next {old = old} {now = now} {next = next} ts i t {whole = whole} o within is p =
    let follows : drop (i + 1) ts ≡ get_or ts (i + 1) t ∷ drop (i + 1 + 1) ts = drop_more ts (i + 1) t within in
    let here : Opened old now (t ∷ get_or ts (i + 1) t ∷ drop (i + 1 + 1) ts) whole =
    subst (λ (l : List Tag). Opened old now (t ∷ l) whole) follows (opened_at ts i t o (omega (arith, within)) is) in
    subst (λ (l : List Tag). Opened old next l whole) (sym follows) (record {
      front = here.front ++ (from_key t ++ after_tag after.Next);
      put = here.put ▸ p;
      text = next_text here.front t (get_or ts (i + 1) t) (drop (i + 1 + 1) ts) ∙ here.text;
    })

pub Opened-end : {old now next : Page} (ts : List Tag) (i : ℕ) (t : Tag) {whole : List ℕ} → Opened old now (drop i ts) whole → i + 1 ≡ length ts
    → t ≡ get_or ts i t → Puts now next (from_key t ++ after_tag after.End) → Puts old next whole
Opened-end {old = old} {now = now} ts i t {whole = whole} o last is p =
    let here : Opened old now (t ∷ []) whole =
    subst (λ (l : List Tag). Opened old now (t ∷ l) whole) (drop_all (i + 1) ts (omega (arith, last))) (opened_at ts i t o (omega (arith, last)) is) in
    Puts-is (here.put ▸ p) here.text
