-- The bytes of a response (HTTP/1.1, RFC 9112).
use Rattle.std.specs.Prelude.{ℕ, ◌==◌, List, [], ◌∷◌, ◌++◌, length, if◌then◌else◌, codes, Bool, not}
use Rattle.std.specs.Fmt.{decimal}

abbrev pub line_end : List ℕ
line_end = 13 ∷ 10 ∷ []

-- the reason phrase of a status (RFC 9110, section 15)
abbrev pub reason : ℕ → List ℕ
reason status =
    if status == 200 then codes "OK"
    else if status == 202 then codes "Accepted"
    else if status == 400 then codes "Bad Request"
    else if status == 404 then codes "Not Found"
    else if status == 405 then codes "Method Not Allowed"
    else if status == 409 then codes "Conflict"
    else if status == 413 then codes "Content Too Large"
    else if status == 415 then codes "Unsupported Media Type"
    else if status == 503 then codes "Service Unavailable"
    else codes "Internal Server Error"

-- a header field
unfoldable pub field : List ℕ → List ℕ → List ℕ
field name value = name ++ codes ": " ++ value ++ line_end

unfoldable pub status_line : ℕ → List ℕ
status_line status = codes "HTTP/1.1 " ++ decimal status ++ codes " " ++ reason status ++ line_end

-- for a body of n bytes
unfoldable pub type_line : ℕ → List ℕ
type_line size = if not (size == 0) then field (codes "Content-Type") (codes "application/json") else []

unfoldable pub length_line : ℕ → List ℕ
length_line size = field (codes "Content-Length") (decimal size)

unfoldable pub allow_line : List ℕ → List ℕ
allow_line allow = if not (length allow == 0) then field (codes "Allow") allow else []

unfoldable pub close_line : Bool → List ℕ
close_line close = if close then field (codes "Connection") (codes "close") else []

-- the head of a response with a body of n bytes: each part follows the ones before it, in the order in which they are
-- written
abbrev pub response_head : ℕ → ℕ → List ℕ → Bool → List ℕ
response_head status size allow close =
    status_line status ++ type_line size ++ length_line size ++ allow_line allow ++ close_line close ++ line_end

abbrev pub response : ℕ → List ℕ → List ℕ → Bool → List ℕ
response status body allow close = response_head status (length body) allow close ++ body
