-- A list of entries and its last one.
use Rattle.std.proofs.Common.{◌≡◌, ℕ, ◌+◌, ◌-◌, ◌<◌, List, [], ◌∷◌, ◌++◌, map, length, get_or, take, sym, ap, ◌∙◌, arith, length-append}
use Rattle.std.specs.Arc.{arc_value}
use Rattle.std.specs.declared.sync.Arc.{Arc}
use Rattle.std.specs.Global.{Global}
use Rattle.std.proofs.lemmas.List.{get_or-map, length-map, take_more, take_all, take_at, get_or_default}
use Rattle.trace_model.specs.declared.entry.Entry.{Entry}
use Rattle.trace_model.specs.Histories.{before_last}

pub before_last-push : (h : List Entry) (e : Entry) → before_last (h ++ e ∷ []) ≡ h
before_last-push h e =
    let l : length (h ++ e ∷ []) ≡ length h + 1 = length-append h (e ∷ []) in
    take_at h (e ∷ []) (length (h ++ e ∷ []) - 1) (omega arith)

-- an entry that an `Arc` leads to
pub entry_is : (entries : List (Arc Entry Global)) (k : ℕ) (a : Arc Entry Global) → k < length entries → a ≡ get_or entries k a
    → arc_value a ≡ get_or (map arc_value entries) k (arc_value a)
entry_is entries k a below is = ap arc_value is ∙ sym (get_or-map arc_value entries k a (arc_value a) below)

-- all but the last, and the last
pub last_is : (h : List Entry) (e : Entry) → 0 < length h → e ≡ get_or h (length h - 1) e → before_last h ++ e ∷ [] ≡ h
last_is h e some is =
    let k = length h - 1 in
    let all : k + 1 ≡ length h = omega arith in
    ap (λ x. take k h ++ x ∷ []) is ∙ sym (take_more h k e (omega arith)) ∙ take_all (k + 1) h (omega arith)

pub last_entry : (entries : List (Arc Entry Global)) (a : Arc Entry Global) (e : Entry) → 0 < length entries → a ≡ get_or entries (length entries - 1) a
    → e ≡ arc_value a → before_last (map arc_value entries) ++ e ∷ [] ≡ map arc_value entries
last_entry entries a e some is value =
    let long : length (map arc_value entries) ≡ length entries = length-map entries arc_value in
    let here : arc_value a ≡ get_or (map arc_value entries) (length (map arc_value entries) - 1) (arc_value a) =
    entry_is entries (length entries - 1) a (omega arith) is ∙ ap (λ n. get_or (map arc_value entries) (n - 1) (arc_value a)) (sym long) in
    ap (λ x. before_last (map arc_value entries) ++ x ∷ []) value ∙ last_is (map arc_value entries) (arc_value a) (omega (arith, long)) here

pub last_of : (h : List Entry) → 0 < length h → (e : Entry) × (before_last h ++ e ∷ [] ≡ h)
last_of [] some = absurd (omega arith)
last_of (x ∷ xs) some =
    let h = x ∷ xs in
    let e = get_or h (length h - 1) x in
    (e, last_is h e some (get_or_default h (length h - 1) x e (omega arith)))
