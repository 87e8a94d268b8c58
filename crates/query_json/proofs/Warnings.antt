-- The warning about a span's clock, as a JSON string.
use Rattle.std.proofs.Common.{◌≡◌, ℕ, ℤ, List, [], ◌∷◌, ◌++◌, refl, sym, ap, ◌∙◌, append_assoc}
use Rattle.std.specs.Prelude.{codes}
use Rattle.std.specs.Fmt.{decimal, signed_decimal}
use Rattle.json.specs.Print.{escape, escape_byte, quoted}
use Rattle.trace_model.specs.Adjusting.{adjusted_by, past_limit, past_times}
use Rattle.json_page.proofs.Escapes.{escape_decimal, escape_signed, quoted_around, quoted_around_two}

abbrev skew_of : List ℕ
skew_of = codes "clock skew of "

abbrev limit_is : List ℕ
limit_is = codes " us not applied: the limit is "

abbrev us : List ℕ
us = codes " us"

skew_of_plain : escape skew_of ≡ skew_of
unfolding escape_byte
skew_of_plain = refl

limit_is_plain : escape limit_is ≡ limit_is
unfolding escape_byte
limit_is_plain = refl

us_plain : escape us ≡ us
unfolding escape_byte
us_plain = refl

pub adjusted_text : (d : ℤ) → ((34 ∷ codes "clock skew adjusted by ") ++ signed_decimal d) ++ (us ++ 34 ∷ []) ≡ quoted (adjusted_by d)
unfolding escape_byte
adjusted_text d = quoted_around (codes "clock skew adjusted by ") (signed_decimal d) us refl (escape_signed d) us_plain

pub past_times_text : (d : ℤ) → ((34 ∷ skew_of) ++ signed_decimal d) ++ (codes " us not applied: a time would not fit" ++ 34 ∷ []) ≡ quoted (past_times d)
unfolding escape_byte
past_times_text d = quoted_around skew_of (signed_decimal d) (codes " us not applied: a time would not fit") skew_of_plain (escape_signed d) refl

pub past_limit_text : (d : ℤ) (limit : ℕ)
    → ((((34 ∷ skew_of) ++ signed_decimal d) ++ limit_is) ++ decimal limit) ++ (us ++ 34 ∷ []) ≡ quoted (past_limit d limit)
past_limit_text d limit =
    let front : List ℕ = skew_of ++ signed_decimal d in
    let words : ((front ++ limit_is) ++ decimal limit) ++ us ≡ skew_of ++ (signed_decimal d ++ (limit_is ++ (decimal limit ++ us))) =
    append_assoc (front ++ limit_is) (decimal limit) us ∙ append_assoc front limit_is (decimal limit ++ us)
    ∙ append_assoc skew_of (signed_decimal d) (limit_is ++ (decimal limit ++ us)) in
    quoted_around_two skew_of (signed_decimal d) limit_is (decimal limit) us skew_of_plain (escape_signed d) limit_is_plain (escape_decimal limit) us_plain
    ∙ ap quoted (sym words)
