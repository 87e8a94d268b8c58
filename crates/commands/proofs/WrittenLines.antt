-- The lines of spans, one by one.
use Rattle.std.proofs.Common.{◌≡◌, ℕ, zero, suc, arith, ◌+◌, ◌<◌, List, [], ◌∷◌, ◌++◌, length, take, drop, Option, subst, sym, ap, ◌∙◌, append-nil}
use Rattle.std.proofs.Common.{append_assoc, add-one, refl}
use Rattle.std.proofs.lemmas.List.{take-append-drop}
use Rattle.std.proofs.lemmas.Grind.{flat_map-append}
use Rattle.std.specs.Prelude.{flat_map}
use Rattle.text_lines.specs.RunErrors.{Moves, WritesSome}
use Rattle.text_lines.proofs.Buffers.{moves_more, moves_nothing, moves_then, some_written}
use Rattle.text_lines.proofs.CompleteRuns.{some_more}
use Rattle.std.specs.List.{slice_index_or}

pub flat_map-take : {X : Type 0} (f : X → List ℕ) (xs : List X) (i : ℕ) (d : X) → i < length xs → d ≡ slice_index_or xs i d
    → flat_map f (take i xs) ++ f d ≡ flat_map f (take (i + 1) xs)
flat_map-take f [] i d below is = absurd (omega arith)
flat_map-take f (x ∷ xs) zero d below is = ap f is ∙ sym (append-nil (f x))
flat_map-take f (x ∷ xs) (suc i) d below is =
    rw add-one (append_assoc (f x) (flat_map f (take i xs)) (f d) ∙ ap (λ t. f x ++ t) (flat_map-take f xs i d (omega arith) is ∙ rw add-one refl))

flat_map-split : {X : Type 0} (f : X → List ℕ) (i : ℕ) (xs : List X) → flat_map f xs ≡ flat_map f (take i xs) ++ flat_map f (drop i xs)
flat_map-split f i xs = ap (flat_map f) (sym (take-append-drop i xs)) ∙ flat_map-append f (take i xs) (drop i xs)

pub none_moved : (a : Option (List ℕ)) (buffer : List ℕ) → buffer ≡ [] → Moves a a [] buffer
none_moved a buffer is = subst (Moves a a []) (sym is) (moves_nothing a [])

-- one more is said and some of what waits is written
pub moves_one : {X : Type 0} (f : X → List ℕ) (xs : List X) (i : ℕ) (d : X) (a b c : Option (List ℕ)) (w0 w1 w2 text : List ℕ) → i < length xs
    → d ≡ slice_index_or xs i d → text ≡ f d
    → Moves a b (flat_map f (take i xs)) w0 → w1 ≡ w0 ++ text → Moves b c w1 w2 → Moves a c (flat_map f (take (i + 1) xs)) w2
moves_one f xs i d a b c w0 w1 w2 text below is reply before says last =
    subst (λ t. Moves a c t w2) (ap (λ t. flat_map f (take i xs) ++ t) reply ∙ flat_map-take f xs i d below is)
    (moves_then a b c _ w1 w2 (subst (Moves a b (flat_map f (take i xs) ++ text)) (sym says) (moves_more a b (flat_map f (take i xs)) w0 text before)) last)

pub part_written : {X : Type 0} (f : X → List ℕ) (xs : List X) (i : ℕ) (a b : Option (List ℕ)) (w : List ℕ) → Moves a b (flat_map f (take i xs)) w
    → WritesSome a b (flat_map f xs)
part_written f xs i a b w m =
    some_more a b (flat_map f (take i xs)) (flat_map f (drop i xs)) (flat_map f xs) (flat_map-split f i xs) (some_written a b (flat_map f (take i xs)) w m)
