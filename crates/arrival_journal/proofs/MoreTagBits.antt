-- Bits with those of more tags, and values that are no text.
use Rattle.std.proofs.Common.{◌≡◌, ℕ, ◌+◌, ◌<◌, List, [], ◌∷◌, ◌++◌, flat_map, length, take, get_or, sym, ap, ◌∙◌}
use Rattle.std.proofs.lemmas.List.{take_more, flat_map_more}
use Rattle.std.proofs.lemmas.List.Sums.{fold_push, fold-append}
use Rattle.std.specs.List.{fold}
use Rattle.jaeger_model.specs.declared.tag.Tag.{Tag}
use Rattle.arrival_journal.specs.TagBits.{with_tag}

-- with one tag more
pub tag_more : (b : List ℕ) (ts : List Tag) (i : ℕ) (t : Tag) → i < length ts → t ≡ get_or ts i t
    → with_tag (fold with_tag b (take i ts)) t ≡ fold with_tag b (take (i + 1) ts)
tag_more b ts i t le is = sym (fold_push with_tag b (take i ts) t) ∙ ap (fold with_tag b) (ap (λ x. take i ts ++ x ∷ []) is ∙ sym (take_more ts i t le))

-- with the tags of one more
pub tags_more : {A : Type 0} (g : A → List Tag) (b : List ℕ) (xs : List A) (i : ℕ) (x : A) → i < length xs → x ≡ get_or xs i x
    → fold with_tag (fold with_tag b (flat_map g (take i xs))) (g x) ≡ fold with_tag b (flat_map g (take (i + 1) xs))
tags_more g b xs i x le is =
    sym (fold-append with_tag b (flat_map g (take i xs)) (g x))
    ∙ ap (fold with_tag b) (flat_map_more g [] (take i xs) x ∙ ap (flat_map g) (ap (λ y. take i xs ++ y ∷ []) is ∙ sym (take_more xs i x le)))
