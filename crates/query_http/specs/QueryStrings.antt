-- The parameters of a query string: its decoded pairs, and lookups by name.
use Rattle.std.specs.Prelude.{ℕ, ◌==◌, List, [], ◌∷◌, length, map, filter, Option, Some, None, if◌then◌else◌, nat_lt, ◌&&◌, not, Bool}
use Rattle.std.specs.Str.Lossy.{utf8_lossy}
use Rattle.form_urlencoded.specs.Form.{raw_pairs, decode}
use Rattle.jaeger_model.specs.Texts.{Pairs, same_text}

-- the byte before the query of a target (RFC 3986, section 3.4)
abbrev pub question_mark : ℕ
question_mark = 63

-- the byte between the key and the value of a requested tag
abbrev pub colon : ℕ
colon = 58

-- the text of a name or of a value
abbrev pub decoded_text : List ℕ → List ℕ
decoded_text bytes = utf8_lossy (decode bytes)

abbrev pub decoded_pair : List ℕ × List ℕ → List ℕ × List ℕ
decoded_pair p = (decoded_text p.0, decoded_text p.1)

abbrev pub pairs_of : List ℕ → Pairs
pairs_of query = map decoded_pair (raw_pairs query)

-- the value of the first pair of that name
abbrev pub first_of : List ℕ → Pairs → Option (List ℕ)
first_of name [] = None
first_of name (p ∷ ps) = if same_text p.0 name then Some p.1 else first_of name ps

-- absent if the value is empty
abbrev pub given_value : Option (List ℕ) → Option (List ℕ)
given_value None = None
given_value (Some v) = if nat_lt 0 (length v) then Some v else None

abbrev pub parameter : List ℕ → Pairs → Option (List ℕ)
parameter name ps = given_value (first_of name ps)

-- whether it has this name and a value that isn't empty
abbrev pub is_given : List ℕ → List ℕ × List ℕ → Bool
is_given name p = same_text p.0 name && not (length p.1 == 0)

-- all values of that name that aren't empty
abbrev pub given_values : List ℕ → Pairs → List (List ℕ)
given_values name ps = map (λ (p : List ℕ × List ℕ). p.1) (filter (is_given name) ps)
