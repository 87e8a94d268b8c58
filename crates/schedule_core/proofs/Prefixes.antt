-- Prefixes of lists, and what comes after them.
use Rattle.std.proofs.Common.{◌≡◌, List, ◌++◌, length, map, drop, sym, ap, ◌∙◌}
use Rattle.std.proofs.Math.Seq.{drop-append_seam}
use Rattle.std.specs.List.{drop-map}
use mathlib.Core.List.{IsPrefix}

-- a prefix, and what comes after it
pub whole : {A : Type 0} (h a : List A) → IsPrefix h a → h ++ drop (length h) a ≡ a
whole h a p = ap (λ (x : List _). h ++ drop (length h) x) (sym p.1) ∙ ap (λ (x : List _). h ++ x) (drop-append_seam h p.0) ∙ p.1

-- the same for the items of a list mapped by f
pub joined : {A B : Type 0} (f : A → B) (h : List B) (xs : List A) → IsPrefix h (map f xs) → h ++ map f (drop (length h) xs) ≡ map f xs
joined f h xs p = ap (λ (x : List _). h ++ x) (sym (drop-map f (length h) xs)) ∙ whole h (map f xs) p
