-- A list in the log of a book, as the log grows.
use Rattle.std.proofs.Common.{◌≡◌, ◌≢◌, ℕ, suc, ◌+◌, ◌==◌, true, false, List, [], ◌∷◌, ◌++◌}
use Rattle.std.proofs.Common.{length, Some, refl, ap, sym, subst, ◌∙◌, arith, append_assoc, append-nil, length-append, eq-eqb}
use Rattle.std.proofs.lemmas.Bool.{ne_eqb}
use Rattle.std.proofs.lemmas.List.{get_or-append-add}
use mathlib.Core.List.{IsPrefix}
use Rattle.trace_model.proofs.Prefixes.{prefix_trans}
use Rattle.read_side.specs.declared.log_steps.Link.{Link}
use Rattle.read_side.specs.LogSteps.{item_at, key_after, items_from, next_key, LacksKey}

items_append : {A : Type 0} (key : ℕ) (xs ys : List (Link A)) → items_from key (xs ++ ys) ≡ items_from key xs ++ items_from (next_key key xs) ys
items_append key [] ys = refl
items_append key (l ∷ xs) ys =
    let next = key_after key l in
    ap (λ r. item_at key l ++ r) (items_append next xs ys) ∙ sym (append_assoc (item_at key l) (items_from next xs) (items_from (next_key next xs) ys))

key_append : {A : Type 0} (key : ℕ) (xs ys : List (Link A)) → next_key key (xs ++ ys) ≡ next_key (next_key key xs) ys
key_append key [] ys = refl
key_append key (l ∷ xs) ys = key_append (key_after key l) xs ys

-- a prefix of the log has a prefix of the list
pub items_prefix : {A : Type 0} (key : ℕ) (xs ys : List (Link A)) → IsPrefix xs ys → IsPrefix (items_from key xs) (items_from key ys)
items_prefix key xs ys p = (items_from (next_key key xs) p.0, sym (items_append key xs p.0) ∙ ap (items_from key) p.1)

-- a list whose first key no link has is empty
pub no_items : {A : Type 0} (key : ℕ) (log : List (Link A)) → LacksKey key log → (items_from key log ≡ []) × (next_key key log ≡ key)
no_items key [] lacks = (refl, refl)
no_items {A} key (l ∷ log) lacks =
    let other : (l.key == key) ≡ false = ne_eqb l.key key (lacks 0 l (omega arith)) in
    let rest : LacksKey key log = λ i d lt. lacks (suc i) d (omega arith) in
    rw other (no_items key log rest)

-- a list whose next key no link has is as long as it was
pub same_items : {A : Type 0} (key : ℕ) (xs ys : List (Link A)) → IsPrefix xs ys → LacksKey (next_key key xs) ys
    → (items_from key ys ≡ items_from key xs) × (next_key key ys ≡ next_key key xs)
same_items {A} key xs ys p lacks =
    let next = next_key key xs in
    let P : List (Link A) → Type 0 = λ z. (items_from key z ≡ items_from key xs) × (next_key key z ≡ next) in
    let has : Link A → Type 0 = λ l. l.key ≢ next in
    let both : LacksKey next (xs ++ p.0) = subst (LacksKey next) (sym p.1) lacks in
    let more : LacksKey next p.0 = λ i d lt. subst has (get_or-append-add xs p.0 i d) (both (length xs + i) d (omega (arith, length-append xs p.0))) in
    let none = no_items next p.0 more in
    subst P p.1 (
      items_append key xs p.0 ∙ (ap (λ r. items_from key xs ++ r) none.0 ∙ append-nil (items_from key xs)),
      key_append key xs p.0 ∙ none.1,
    )

-- a link with the list's next key adds its item
pub item_added : {A : Type 0} (first key next : ℕ) (item : A) (xs before ys : List (Link A)) → key ≡ next_key first xs → IsPrefix xs before
    → LacksKey key before
    → ys ≡ before ++ record { item = Some item; key = key; next = next } ∷ []
    → (items_from first ys ≡ items_from first xs ++ item ∷ []) × (next_key first ys ≡ next)
item_added {A} first key next item xs before ys at p lacks is =
    let new : Link A = record { item = Some item; key = key; next = next } in
    let same = same_items first xs before p (subst (λ (k : ℕ). LacksKey k before) at lacks) in
    let here : (key == next_key first before) ≡ true = eq-eqb key (next_key first before) (at ∙ sym same.1) in
    let one : items_from (next_key first before) (new ∷ []) ≡ item ∷ [] = rw here refl in
    let then : next_key (next_key first before) (new ∷ []) ≡ next = rw here refl in (
      ap (items_from first) is ∙ (items_append first before (new ∷ []) ∙ (ap (λ r. items_from first before ++ r) one ∙ ap (λ r. r ++ item ∷ []) same.0)),
      ap (next_key first) is ∙ (key_append first before (new ∷ []) ∙ then),
    )

-- where no link has the list's next key, what others have seen of the list is a prefix of what its owner has
pub seen_prefix : {A : Type 0} (first other_first : ℕ) (own other both log : List (Link A)) → other_first ≡ first → IsPrefix own both → IsPrefix other both
    → IsPrefix both log → LacksKey (next_key first own) log → IsPrefix (items_from other_first other) (items_from first own)
seen_prefix {A} first other_first own other both log same p o q lacks =
    let all : items_from first log ≡ items_from first own = (same_items first own log (prefix_trans own both log p q) lacks).0 in
    let P : List A → Type 0 = λ items. IsPrefix (items_from first other) items in
    rw same (subst P all (items_prefix first other log (prefix_trans other both log o q)))
