-- The fields of a head, by name (RFC 9110, sections 5 and 5.6.1).
use Rattle.std.specs.Prelude.{◌≡◌, ℕ, ◌==◌, ◌&&◌, ◌||◌, Bool, not, List, [], ◌∷◌, map, filter}
use Rattle.std.specs.List.{list_any, list_all, slice_split}
use Rattle.std.specs.Char.{to_ascii_lowercase}
use Rattle.jaeger_model.specs.Texts.{Pairs, same_text}
use Rattle.httparse.specs.Grammar.{trim_ows}
use Rattle.http_requests.specs.declared.fields.Values.{Values}
use Rattle.http_requests.specs.declared.fields.Values.TheVariants.{One, Many}
use Rattle.http_requests.specs.declared.fields.Values.TheVariants as values

-- equal texts, in any ASCII case
abbrev pub same_name : List ℕ → List ℕ → Bool
same_name a b = same_text (map to_ascii_lowercase a) (map to_ascii_lowercase b)

-- the values of the fields of that name
abbrev pub values_of : List ℕ → Pairs → List (List ℕ)
values_of name ps = map (λ (p : List ℕ × List ℕ). p.1) (filter (λ (p : List ℕ × List ℕ). same_name p.0 name) ps)

-- some item of a comma-separated list is the token, in any ASCII case
abbrev pub has_token : List ℕ → List ℕ → Bool
has_token token value = list_any (λ item. same_name (trim_ows item) token) (slice_split (λ b. b == 44) value)

-- some field of that name has that token
abbrev pub have_token : List ℕ → List ℕ → Pairs → Bool
have_token name token ps = list_any (λ (p : List ℕ × List ℕ). same_name p.0 name && has_token token p.1) ps

-- every field of that name has exactly this value
abbrev pub all_are : List ℕ → List ℕ → Pairs → Bool
all_are name value ps = list_all (λ (p : List ℕ × List ℕ). not (same_name p.0 name) || same_text p.1 value) ps

-- none, the only value, or at least two
abbrev pub AreValues : Values → List (List ℕ) → Type 0
AreValues values.None vs = vs ≡ []
AreValues (One v) vs = vs ≡ v.now ∷ []
AreValues Many vs = (v : List ℕ) × (w : List ℕ) × (more : List (List ℕ)) × (vs ≡ v ∷ w ∷ more)

-- the values that were found, unless it is Many
abbrev pub values_in : Values → List (List ℕ)
values_in values.None = []
values_in (One v) = v.now ∷ []
values_in Many = []
