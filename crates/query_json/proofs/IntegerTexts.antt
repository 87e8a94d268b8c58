-- Integers as text.
use Rattle.std.proofs.Common.{◌≡◌, ℤ, pos, negsuc, refl}
use Rattle.std.specs.Fmt.{signed_decimal}
use Rattle.serde_json.specs.Find.{of_integer}
use Rattle.serde_json.specs.Written.{number_text}

pub integer_text : (z : ℤ) → number_text (of_integer z) ≡ signed_decimal z
integer_text (pos n) = refl
integer_text (negsuc n) = refl
