-- The clerk's accounts.
use Rattle.std.proofs.Common.{◌≡◌, ℕ, ◌+◌, cond, List, [], ◌∷◌, ◌++◌, length, subst, sym, refl, arith, Result, Ok, Err, is_ok, is_err}
use Rattle.std.proofs.lemmas.List.Sums.{sum_by-cons}
use Rattle.trace_model.specs.declared.refusal.Refusal.{Refusal}
use Rattle.trace_model.specs.declared.entry.Entry.{Entry}
use Rattle.intake.specs.declared.account.Account.{Account}
use Rattle.intake.specs.Turns.{Accounted}
use Rattle.intake.specs.Books.{acknowledged, refused}

pub accounted-snoc : (jobs : List Entry) (accounts : List Account) (j : Entry) (a : Account) → Accounted jobs accounts → a.seat ≡ j.seat → a.number ≡ j.number
    → Accounted (jobs ++ j ∷ []) (accounts ++ a ∷ [])
accounted-snoc [] [] j a h s n = (s, n, tt)
accounted-snoc [] (b ∷ bs) j a h s n = absurd h
accounted-snoc (k ∷ ks) [] j a h s n = absurd h
accounted-snoc (k ∷ ks) (b ∷ bs) j a h s n = (h.0, h.1, accounted-snoc ks bs j a h.2 s n)

pub accounted-on : (jobs jobs' : List Entry) (accounts accounts' : List Account) (j : Entry) (a : Account) → Accounted jobs accounts → jobs' ≡ jobs ++ j ∷ []
    → accounts' ≡ accounts ++ a ∷ [] → a.seat ≡ j.seat → a.number ≡ j.number → Accounted jobs' accounts'
accounted-on jobs jobs' accounts accounts' j a h js as' s n =
    let P : List Entry → Type 0 = λ z. Accounted z accounts' in
    let Q : List Account → Type 0 = λ z. Accounted (jobs ++ j ∷ []) z in
    subst P (sym js) (subst Q (sym as') (accounted-snoc jobs accounts j a h s n))

-- each account is of an acknowledged job or of a refused one
pub both_counted : (accounts : List Account) → acknowledged accounts + refused accounts ≡ length accounts
both_counted [] = refl
both_counted (a ∷ rest) =
    let yes = sum_by-cons (λ (x : Account). cond (is_ok x.answer) 1 0) a rest in
    let no = sum_by-cons (λ (x : Account). cond (is_err x.answer) 1 0) a rest in
    let both = both_counted rest in
    let one = either a.answer in
    omega (arith, yes, no, both, one)
  where
    either : (r : Result ℕ Refusal) → cond (is_ok r) 1 0 + cond (is_err r) 1 0 ≡ 1
    either (Ok place) = refl
    either (Err why) = refl
