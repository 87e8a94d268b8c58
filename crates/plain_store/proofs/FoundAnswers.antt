-- The answer for a list of found spans.
use Rattle.std.proofs.Common.{◌≡◌, ◌<◌, List, [], ◌∷◌, length, refl, sym, ap, arith}
use Rattle.std.specs.Prelude.{Some, None}
use Rattle.trace_model.specs.ShownSpans.{if_any}

pub none_if_empty : {X : Type 0} {xs ys : List X} → xs ≡ ys → length ys ≡ 0 → None ≡ if_any xs
none_if_empty {X} {xs = []} e z = refl
none_if_empty {X} {xs = x ∷ xs} {ys = ys} e z = absurd (omega (arith, ap length e))

pub some_if_not_empty : {X : Type 0} {xs ys : List X} → xs ≡ ys → 0 < length ys → Some ys ≡ if_any xs
some_if_not_empty {X} {xs = []} e z = absurd (omega (arith, ap length e))
some_if_not_empty {X} {xs = x ∷ xs} e z = ap (λ l. Some l) (sym e)
