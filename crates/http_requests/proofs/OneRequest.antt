-- Bytes start with a request in at most one way.
use Rattle.std.proofs.Common.{false, ◌≡◌, ℕ, ◌<◌, List, [], ◌++◌, length, codes, IsTrue, refl, sym, ap, ◌∙◌, subst, arith, inl, inr, append_assoc, append-nil}
use Rattle.std.proofs.Common.{length-append}
use Rattle.std.proofs.lemmas.List.Elements.{All-nil, All-from_recursion}
use Rattle.std.proofs.lemmas.Str.{IsUtf8-from_ascii}
use Rattle.std.proofs.lemmas.Str.Ascii.{IsAscii-cons, IsAscii-nil}
use Rattle.httparse.specs.Grammar.{LineEnd, LineEnd.{crlf}, RequestHead, IsRequestHead, is_token_byte, is_uri_byte, print_blank, print_request}
use Rattle.httparse.proofs.GrammarLemmas.{request_unique, ReadsRequest-append, print_request-append}
use Rattle.http_requests.specs.Chunks.{IsDecided, HasNone}
use Rattle.http_requests.proofs.OneChunkedBody.{same_cut, body_once, body_is_not_large, never_longer}
use Rattle.http_requests.specs.declared.request.TheConstants.{MAX_BODY_BYTES}
use Rattle.http_requests.specs.HeadContents.{body_length}
use Rattle.http_requests.specs.Heads.{TakesHead, HasNoHead}
use Rattle.http_requests.specs.Requests.{HasBody, Spells, IsUnreadable, PassesMost, BodyBreaks, BreaksAfter, IsMalformed}
use Rattle.http_requests.specs.declared.request.BodyLength.{BodyLength}
use Rattle.http_requests.specs.declared.request.BodyLength.TheVariants.{Bytes, Chunked, Unreadable, TooLarge}
use Rattle.http_requests.specs.declared.request.RequestFault.{RequestFault}
use Rattle.http_requests.specs.declared.request.RequestFault.TheVariants.{Head, Body}
use Rattle.http_requests.specs.declared.request.RequestFault.TheVariants as fault

-- ---- heads

pub head_once : (bytes : List ℕ) (h k : RequestHead) (rest more : List ℕ) → TakesHead bytes h rest → TakesHead bytes k more → (h ≡ k) × (rest ≡ more)
head_once bytes h k rest more one other = request_unique bytes h k rest more one.reads other.reads

pub head_stays : (bytes : List ℕ) (h : RequestHead) (rest more : List ℕ) → TakesHead bytes h rest → TakesHead (bytes ++ more) h (rest ++ more)
head_stays bytes h rest more takes = record { reads = ReadsRequest-append bytes h rest more takes.reads; size = takes.size; fields = takes.fields }

pub head_is_some : (bytes : List ℕ) (h : RequestHead) (rest : List ℕ) → TakesHead bytes h rest → 0 < length bytes
head_is_some bytes h rest takes =
    omega (arith, simp length-append at (ap length (takes.reads.1 ∙ print_request-append h rest)))

-- ---- requests

-- what a head says follows is one body, with one rest
one_body : (size : BodyLength) (text other body more rest left : List ℕ) → HasBody size text body → HasBody size other more → text ++ rest ≡ other ++ left
    → (text ≡ other) × (body ≡ more) × (rest ≡ left)
one_body (Bytes n) text other body more rest left one two e =
    let same = same_cut text other rest left (ap length one.0 ∙ one.1 ∙ sym two.1 ∙ sym (ap length two.0)) e in
    (same.0, sym one.0 ∙ same.0 ∙ two.0, same.1)
one_body Chunked text other body more rest left one two e = body_once MAX_BODY_BYTES text other body more rest left one two e
one_body Unreadable text other body more rest left one two e = absurd one
one_body TooLarge text other body more rest left one two e = absurd one

pub request_stays : (text : List ℕ) (h : RequestHead) (body rest : List ℕ) (spells : Spells text h body) → TakesHead (text ++ rest) h (spells.after ++ rest)
request_stays text h body rest spells = head_stays text h spells.after rest spells.takes

pub request_is_some : (text : List ℕ) (h : RequestHead) (body : List ℕ) → Spells text h body → 0 < length text
request_is_some text h body spells = head_is_some text h spells.after spells.takes

pub request_once : (text other : List ℕ) (h k : RequestHead) (body more rest left : List ℕ) → Spells text h body → Spells other k more
    → text ++ rest ≡ other ++ left
    → (text ≡ other) × (h ≡ k) × (body ≡ more) × (rest ≡ left)
request_once text other h k body more rest left one two e =
    let second : TakesHead (text ++ rest) k (two.after ++ left) =
    subst (λ (l : List ℕ). TakesHead l k (two.after ++ left)) (sym e) (request_stays other k more left two) in
    let heads = head_once (text ++ rest) h k (one.after ++ rest) (two.after ++ left) (request_stays text h body rest one) second in
    let there : HasBody (body_length h) two.after more = subst (λ (x : RequestHead). HasBody (body_length x) two.after more) (sym heads.0) two.body_is in
    let parts = one_body (body_length h) one.after two.after body more rest left one.body_is there heads.1 in
    let texts : text ≡ other = one.takes.reads.1 ∙ (λ i. print_request (heads.0 i) ++ parts.0 i) ∙ sym two.takes.reads.1 in
    (texts, heads.0, parts.1, parts.2)

-- ---- why all the bytes are malformed

abbrev pub Breaks : List ℕ → RequestFault → Type 0
Breaks bytes b = IsMalformed (Unit {0}) bytes b

-- nothing is left after a list that nothing follows
nothing_more : (xs left : List ℕ) → left ≡ [] → xs ++ left ≡ xs
nothing_more xs left none = ap (λ (l : List ℕ). xs ++ l) none ∙ append-nil xs

body_breaks_all : (size : BodyLength) (after left : List ℕ) (b : RequestFault) → BodyBreaks (left ≡ []) b size after
    → BodyBreaks (Unit {0}) b size (after ++ left)
body_breaks_all (Bytes n) after left Body malformed = (subst (λ (l : List ℕ). length l < n) (sym (nothing_more after left malformed.1)) malformed.0, tt)
body_breaks_all Chunked after left Body (inl never) = inl (never_longer (IsDecided MAX_BODY_BYTES) after left never)
body_breaks_all Chunked after left Body (inr ended) = inr (tt, subst (HasNone (IsDecided MAX_BODY_BYTES)) (sym (nothing_more after left ended.0)) ended.1)
body_breaks_all Unreadable after left Body malformed = tt
body_breaks_all TooLarge after left Body malformed = absurd malformed
body_breaks_all (Bytes n) after left fault.TooLarge malformed = absurd malformed
body_breaks_all Chunked after left fault.TooLarge b =
    record { text = b.text; rest = b.rest ++ left; is = b.is; cut = ap (λ l. l ++ left) b.cut ∙ append_assoc b.text b.rest left }
body_breaks_all Unreadable after left fault.TooLarge malformed = absurd malformed
body_breaks_all TooLarge after left fault.TooLarge malformed = tt
body_breaks_all size after left Head malformed = absurd malformed

after_all : (piece left : List ℕ) (b : RequestFault) → BreaksAfter (left ≡ []) piece b → BreaksAfter (Unit {0}) (piece ++ left) b
after_all piece left b reported = record {
  head = reported.head;
  after = reported.after ++ left;
  takes = head_stays piece reported.head reported.after left reported.takes;
  breaks = body_breaks_all (body_length reported.head) reported.after left b reported.breaks;
}

-- if a piece is malformed, all bytes that start with it are, provided that the end was seen only with nothing left
pub breaks_all : (piece left : List ℕ) (b : RequestFault) → IsMalformed (left ≡ []) piece b → Breaks (piece ++ left) b
breaks_all piece left Head (inl never) = inl (λ more. subst HasNoHead (sym (append_assoc piece left more)) (never (left ++ more)))
breaks_all piece left Head (inr ended) =
    let same : piece ≡ piece ++ left = sym (nothing_more piece left ended.0) in
    inr (tt, subst (λ (l : List ℕ). 0 < length l) same ended.1, subst HasNoHead same ended.2)
breaks_all piece left Body reported = after_all piece left Body reported
breaks_all piece left fault.TooLarge reported = after_all piece left fault.TooLarge reported

-- if the head is malformed there is none
no_head : (bytes : List ℕ) → Breaks bytes Head → HasNoHead bytes
no_head bytes (inl never) h rest takes = never [] h (rest ++ []) (head_stays bytes h rest [] takes)
no_head bytes (inr ended) h rest takes = ended.2 h rest takes

-- a body isn't malformed
body_no_fault : (size : BodyLength) (text body rest : List ℕ) (b : RequestFault) → HasBody size text body → BodyBreaks (Unit {0}) b size (text ++ rest) → ⊥
body_no_fault (Bytes n) text body rest Body is malformed = absurd (omega (arith, malformed.0, ap length is.0, is.1, length-append text rest))
body_no_fault Chunked text body rest Body is (inl never) = never [] text (rest ++ []) (inl (body, is)) (append_assoc text rest [])
body_no_fault Chunked text body rest Body is (inr ended) = ended.1 text rest (inl (body, is)) refl
body_no_fault Unreadable text body rest b is malformed = absurd is
body_no_fault TooLarge text body rest b is malformed = absurd is
body_no_fault (Bytes n) text body rest fault.TooLarge is malformed = absurd malformed
body_no_fault Chunked text body rest fault.TooLarge is malformed =
    body_is_not_large MAX_BODY_BYTES text malformed.text body rest malformed.rest is malformed.is malformed.cut
body_no_fault (Bytes n) text body rest Head is malformed = absurd malformed
body_no_fault Chunked text body rest Head is malformed = absurd malformed

no_request_after : (text rest : List ℕ) (h : RequestHead) (body : List ℕ) (b : RequestFault) → Spells text h body → BreaksAfter (Unit {0}) (text ++ rest) b → ⊥
no_request_after text rest h body b spells reported =
    let same = head_once (text ++ rest) reported.head h reported.after (spells.after ++ rest) reported.takes (request_stays text h body rest spells) in
    let malformed : BodyBreaks (Unit {0}) b (body_length h) (spells.after ++ rest) =
    subst (λ (x : RequestHead). BodyBreaks (Unit {0}) b (body_length x) (spells.after ++ rest)) same.0
    (subst (λ (l : List ℕ). BodyBreaks (Unit {0}) b (body_length reported.head) l) same.1 reported.breaks) in
    body_no_fault (body_length h) spells.after body rest b spells.body_is malformed

pub no_request : (text rest : List ℕ) (h : RequestHead) (body : List ℕ) (b : RequestFault) → Spells text h body → Breaks (text ++ rest) b → ⊥
no_request text rest h body Head spells malformed = no_head (text ++ rest) malformed h (spells.after ++ rest) (request_stays text h body rest spells)
no_request text rest h body Body spells reported = no_request_after text rest h body Body spells reported
no_request text rest h body fault.TooLarge spells reported = no_request_after text rest h body fault.TooLarge spells reported

-- a body that can't be read isn't too large
body_not_both : (size : BodyLength) (after : List ℕ) → IsUnreadable (Unit {0}) size after → PassesMost size after → ⊥
body_not_both (Bytes n) after one other = absurd other
body_not_both Chunked after (inl never) other =
    never [] other.text (other.rest ++ []) (inr other.is) (ap (λ l. l ++ []) other.cut ∙ append_assoc other.text other.rest [])
body_not_both Chunked after (inr ended) other = ended.1 other.text other.rest (inr other.is) other.cut
body_not_both Unreadable after one other = absurd other
body_not_both TooLarge after one other = absurd one

not_both : (bytes : List ℕ) → Breaks bytes Body → Breaks bytes fault.TooLarge → ⊥
not_both bytes one other =
    let same = head_once bytes one.head other.head one.after other.after one.takes other.takes in
    let malformed : IsUnreadable (Unit {0}) (body_length other.head) other.after =
    subst (λ (x : RequestHead). IsUnreadable (Unit {0}) (body_length x) other.after) same.0
    (subst (IsUnreadable (Unit {0}) (body_length one.head)) same.1 one.breaks) in
    body_not_both (body_length other.head) other.after malformed other.breaks

pub one_fault : (bytes : List ℕ) (b c : RequestFault) → Breaks bytes b → Breaks bytes c → b ≡ c
one_fault bytes Head Head one other = refl
one_fault bytes Head Body one other = absurd (no_head bytes one other.head other.after other.takes)
one_fault bytes Head fault.TooLarge one other = absurd (no_head bytes one other.head other.after other.takes)
one_fault bytes Body Head one other = absurd (no_head bytes other one.head one.after one.takes)
one_fault bytes Body Body one other = refl
one_fault bytes Body fault.TooLarge one other = absurd (not_both bytes one other)
one_fault bytes fault.TooLarge Head one other = absurd (no_head bytes other one.head one.after one.takes)
one_fault bytes fault.TooLarge Body one other = absurd (not_both bytes other one)
one_fault bytes fault.TooLarge fault.TooLarge one other = refl

-- ---- no bytes

-- GET / HTTP/1.1, and no fields
pub some_head : RequestHead
some_head = record { blank = []; method = codes "GET"; target = codes "/"; minor = 1; line_end = crlf; fields = []; last = crlf }

some_head_is_one : IsRequestHead some_head
unfolding some_head is_token_byte
some_head_is_one =
    let is_token : ℕ → Type 0 = λ b. IsTrue (is_token_byte b) in
    let is_uri : ℕ → Type 0 = λ b. IsTrue (is_uri_byte b) in
    record {
      method = (omega arith, All-from_recursion is_token (codes "GET") (refl, (refl, (refl, tt))));
      target = (omega arith, All-from_recursion is_uri (codes "/") (refl, tt));
      target_text = IsUtf8-from_ascii _ (IsAscii-cons 47 [] (omega arith) IsAscii-nil);
      minor = omega arith;
      fields = All-nil _;
    }

-- a line feed is no byte of a token
pub token_quiet : is_token_byte 10 ≡ false
unfolding is_token_byte
token_quiet = refl

-- the same after empty lines
pub some_with : (blank : List LineEnd) → IsRequestHead (record some_head { blank = blank })
some_with blank = record {
  method = some_head_is_one.method;
  target = some_head_is_one.target;
  target_text = some_head_is_one.target_text;
  minor = some_head_is_one.minor;
  fields = some_head_is_one.fields;
}

pub some_behind : (blank : List LineEnd) → print_request (record some_head { blank = blank }) ++ [] ≡ print_blank blank ++ (print_request some_head ++ [])
unfolding some_head
some_behind blank = print_request-append (record some_head { blank = blank }) [] ∙ ap (λ l. print_blank blank ++ l) (sym (print_request-append some_head []))

some_head_is_taken : TakesHead (print_request some_head) some_head []
unfolding some_head print_request
some_head_is_taken = record { reads = (some_head_is_one, sym (append-nil (print_request some_head))); size = omega arith; fields = omega arith }

pub nothing_is_no_fault : (b : RequestFault) → Breaks [] b → ⊥
nothing_is_no_fault Head (inl never) = never (print_request some_head) some_head [] some_head_is_taken
nothing_is_no_fault Head (inr ended) = absurd (omega (arith, ended.1))
nothing_is_no_fault Body reported = absurd (omega (arith, head_is_some [] reported.head reported.after reported.takes))
nothing_is_no_fault fault.TooLarge reported = absurd (omega (arith, head_is_some [] reported.head reported.after reported.takes))

-- ---- pieces

pub piece_no_request : (text rest piece left : List ℕ) (h : RequestHead) (body : List ℕ) (b : RequestFault) → Spells text h body → piece ++ left ≡ text ++ rest
    → IsMalformed (left ≡ []) piece b → ⊥
piece_no_request text rest piece left h body b spells e malformed =
    no_request text rest h body b spells (subst (λ (l : List ℕ). Breaks l b) e (breaks_all piece left b malformed))

pub piece_one_fault : (piece left part behind : List ℕ) (b c : RequestFault) → piece ++ left ≡ part ++ behind → IsMalformed (left ≡ []) piece b
    → IsMalformed (behind ≡ []) part c → b ≡ c
piece_one_fault piece left part behind b c e one other =
    one_fault (part ++ behind) b c (subst (λ (l : List ℕ). Breaks l b) e (breaks_all piece left b one)) (breaks_all part behind c other)
