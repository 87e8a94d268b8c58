-- Bounds with one span more.
use Rattle.std.proofs.Common.{◌≡◌, ℕ, ℤ, ◌+◌, ◌<◌, List, [], ◌∷◌, ◌++◌, map, length, take, get_or, sym, ap, ◌∙◌}
use Rattle.std.proofs.lemmas.List.{take_more, map_push}
use Rattle.std.proofs.lemmas.List.Sums.{fold_push}
use Rattle.std.specs.List.{fold}
use Rattle.jaeger_model.specs.declared.span.Span.{Span}
use Rattle.arrival_journal.specs.Times.{times_of, times_with, latest, earliest}
use Rattle.std.specs.Int.{int_min, int_max}

folded : (f : ℤ → ℤ → ℤ) (a : ℤ) (g : Span → ℤ) (ss : List Span) (s : Span) → fold f a (map g (ss ++ s ∷ [])) ≡ f (fold f a (map g ss)) (g s)
folded f a g ss s = ap (fold f a) (map_push g ss s) ∙ fold_push f a (map g ss) (g s)

pushed : (ss : List Span) (s : Span) → times_with (times_of ss) s ≡ times_of (ss ++ s ∷ [])
pushed ss s = λ i. record {
  start_min = sym (folded int_min latest (λ (x : Span). x.start) ss s) i;
  start_max = sym (folded int_max earliest (λ (x : Span). x.start) ss s) i;
  duration_min = sym (folded int_min latest (λ (x : Span). x.duration) ss s) i;
  duration_max = sym (folded int_max earliest (λ (x : Span). x.duration) ss s) i;
}

pub widened : (ss : List Span) (i : ℕ) (s : Span) → i < length ss → s ≡ get_or ss i s → times_with (times_of (take i ss)) s ≡ times_of (take (i + 1) ss)
widened ss i s le is = pushed (take i ss) s ∙ ap times_of (ap (λ x. take i ss ++ x ∷ []) is ∙ sym (take_more ss i s le))
