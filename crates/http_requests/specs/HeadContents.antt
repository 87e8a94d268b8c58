-- What a head asks of a session.
use Rattle.std.specs.Prelude.{ℕ, ◌==◌, ◌&&◌, ◌||◌, ◌≤◌, Bool, false, List, [], ◌∷◌, map, if◌then◌else◌, nat_le, codes}
use Rattle.std.specs.List.{before_first}
use Rattle.jaeger_model.specs.Decimal.{is_digits, number_of}
use Rattle.jaeger_model.specs.Texts.{Pairs, same_text}
use Rattle.httparse.specs.Grammar.{RequestHead, trim_ows}
use Rattle.httparse.specs.Spans.{name_and_value}
use Rattle.http_requests.specs.declared.request.TheConstants.{MAX_BODY_BYTES}
use Rattle.http_requests.specs.Fields.{same_name, values_of, have_token, all_are}
use Rattle.http_requests.specs.declared.request.Method.{Method}
use Rattle.http_requests.specs.declared.request.Method.TheVariants.{Get, Post, Other}
use Rattle.http_requests.specs.declared.request.BodyLength.{BodyLength}
use Rattle.http_requests.specs.declared.request.BodyLength.TheVariants.{Bytes, Chunked, Unreadable, TooLarge}

abbrev pub pairs_of : RequestHead → Pairs
pairs_of h = map name_and_value h.fields

-- method names are case-sensitive
abbrev pub method_of : List ℕ → Method
method_of text = if same_text text (codes "GET") then Get else if same_text text (codes "POST") then Post else Other

-- a body of this size, unless it exceeds the limit of a session
abbrev pub body_of_size : ℕ → BodyLength
body_of_size n = if nat_le n MAX_BODY_BYTES then Bytes n else TooLarge

-- the body's length by the values of Content-Length, of 1 to 19 digits; without one the body is empty
abbrev pub length_by : List (List ℕ) → BodyLength
length_by [] = Bytes 0
length_by (v ∷ []) = if is_digits 19 v then body_of_size (number_of v) else Unreadable
length_by (v ∷ w ∷ more) = Unreadable

-- the body's length by all fields: one Transfer-Encoding `chunked`, in any ASCII case, without a Content-Length, or
-- without a Transfer-Encoding by Content-Length
abbrev pub length_in : List (List ℕ) → List (List ℕ) → BodyLength
length_in [] lengths = length_by lengths
length_in (coding ∷ []) [] = if same_name coding (codes "chunked") then Chunked else Unreadable
length_in (coding ∷ []) (v ∷ more) = Unreadable
length_in (coding ∷ other ∷ more) lengths = Unreadable

-- a body that is read doesn't exceed the limit
abbrev pub IsBounded : BodyLength → Type 0
IsBounded (Bytes n) = n ≤ MAX_BODY_BYTES
IsBounded Chunked = Unit {0}
IsBounded Unreadable = Unit {0}
IsBounded TooLarge = Unit {0}

abbrev pub body_by : Pairs → BodyLength
body_by ps = length_in (values_of (codes "transfer-encoding") ps) (values_of (codes "content-length") ps)

-- some Connection field has the token `close`
abbrev pub closes_by : Pairs → Bool
closes_by ps = have_token (codes "connection") (codes "close") ps

-- the text before the first `;`, without surrounding white space
abbrev pub media_type : List ℕ → List ℕ
media_type value = trim_ows (before_first (λ b. b == 59) value)

abbrev pub is_thrift : List ℕ → Bool
is_thrift media = same_name media (codes "application/x-thrift") || same_name media (codes "application/vnd.apache.thrift.binary")

-- the first Content-Type is one of the binary Thrift protocol
abbrev pub is_thrift_type : List (List ℕ) → Bool
is_thrift_type [] = false
is_thrift_type (v ∷ more) = is_thrift (media_type v)

-- every Content-Encoding is exactly `identity`
abbrev pub is_plain : Pairs → Bool
is_plain ps = all_are (codes "content-encoding") (codes "identity") ps

-- the body may be a batch
abbrev pub has_batch_type : Pairs → Bool
has_batch_type ps = is_plain ps && is_thrift_type (values_of (codes "content-type") ps)

-- what a session reads from a head
pub record Asked : Type 0 where
  pub method : Method
  pub target : List ℕ
  pub has_batch_type : Bool
  pub closes : Bool

abbrev pub asked_by : RequestHead → Asked
asked_by h = record {
  method = method_of h.method;
  target = h.target;
  has_batch_type = has_batch_type (pairs_of h);
  closes = h.minor == 0 || closes_by (pairs_of h);
}

abbrev pub body_length : RequestHead → BodyLength
body_length h = body_by (pairs_of h)
