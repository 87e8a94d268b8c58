-- Each entry of a legal list may follow those before it.
use Rattle.std.proofs.Common.{◌≡◌, ◌∙◌, ℕ, suc, ◌+◌, ◌<◌, List, [], ◌∷◌, ◌++◌, length, get_or, map, drop, drop-cons, sym, ap, subst, append_assoc, arith}
use Rattle.std.proofs.Common.{length-append}
use Rattle.std.specs.Prelude.{Ok}
use Rattle.trace_model.specs.declared.entry.Entry.{Entry}
use Rattle.trace_model.specs.declared.limits.Limits.{Limits}
use Rattle.trace_model.specs.Histories.{IsLegal}
use Rattle.trace_model.specs.Refusals.{admission}
use Rattle.trace_model.specs.declared.admission.Admission.TheVariants.{Added}
use Rattle.trace_model.proofs.Legality.{last_is_added, legal_front}

next_follows : (limits : Limits) (h rest all : List Entry) (e : Entry) → IsLegal limits all → h ++ e ∷ rest ≡ all → admission limits h e ≡ Ok Added
next_follows limits h rest all e legal whole =
    last_is_added limits h e
    (legal_front limits (h ++ e ∷ []) rest (subst (IsLegal limits) (sym (append_assoc h (e ∷ []) rest ∙ whole)) legal))

-- the same for items after them mapped by f
pub item_follows : {X : Type 0} (f : X → Entry) (limits : Limits) (h all : List Entry) (behind : List X) (i : ℕ) (x : X) → IsLegal limits all
    → i < length behind → x ≡ get_or behind i x → h ++ map f (drop i behind) ≡ all → admission limits h (f x) ≡ Ok Added
item_follows f limits h all behind i x legal below is whole =
    let next = drop-cons behind i x below ∙ ap (λ y. y ∷ drop (suc i) behind) (sym is) in
    next_follows limits h (map f (drop (suc i) behind)) all (f x) legal (ap (λ xs. h ++ map f xs) (sym next) ∙ whole)
