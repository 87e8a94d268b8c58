-- A part of a path as text.
use Rattle.std.proofs.Common.{◌≡◌, ℕ, List, Ok, Err, true, false, refl}
use Rattle.std.specs.Str.{IsUtf8, is_utf8}
use Rattle.std.proofs.lemmas.Bool.{false_from_ne_true}
use Rattle.std.proofs.lemmas.Str.{is_utf8-from_IsUtf8, IsUtf8-from_is_utf8}
use Rattle.percent_encoding.specs.Percent.{percent_decode}
use Rattle.query_http.specs.declared.fault.Parameter.TheVariants as bad
use Rattle.query_http.specs.Queries.{text_part}

pub text_part_is : (part t : List ℕ) → percent_decode part ≡ t → IsUtf8 (percent_decode part) → text_part part ≡ Ok t
unfolding text_part
text_part_is part t e u = let yes' : is_utf8 (percent_decode part) ≡ true = is_utf8-from_IsUtf8 (percent_decode part) u in rw (yes', e) refl

pub text_part_bad : (part : List ℕ) → ¬ IsUtf8 (percent_decode part) → text_part part ≡ Err bad.Service
unfolding text_part
text_part_bad part n =
    let none : is_utf8 (percent_decode part) ≡ false =
    false_from_ne_true (is_utf8 (percent_decode part)) (λ y. n (IsUtf8-from_is_utf8 (percent_decode part) y)) in
    rw none refl
