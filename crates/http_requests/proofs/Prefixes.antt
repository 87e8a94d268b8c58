-- A head in a prefix of the bytes is the head of all of them.
use Rattle.std.proofs.Common.{◌≡◌, ℕ, ◌≤◌, ◌<◌, List, ◌++◌, length, take, drop, sym, ap, ◌∙◌, subst, arith, append_assoc}
use Rattle.std.proofs.lemmas.List.{take-append-drop, take_all, length-take-le, length-take, length-map}
use Rattle.std.proofs.Math.Seq.{drop-append_seam}
use Rattle.httparse.specs.Grammar.{RequestHead, ReadsRequest, print_request, HasNoRequest}
use Rattle.httparse.specs.Spans.{IsRequestAt, IsRequestWithin, IsRequestOf, RequestOverflows, header_bytes, name_and_value}
use Rattle.httparse.specs.declared.spans.RequestSpans.{RequestSpans}
use Rattle.httparse.specs.declared.spans.HeaderSpan.{HeaderSpan}
use Rattle.httparse.proofs.GrammarLemmas.{request_unique, ReadsRequest-append}
use Rattle.http_requests.proofs.ChunkPrefixes.{split_prefix, begins_first}
use Rattle.http_requests.specs.declared.head.TheConstants.{MAX_HEAD_BYTES, MAX_FIELDS}
use Rattle.http_requests.specs.Heads.{HasNoHead, NeverHasHead, IsWholeHead}

pub never_when_full : (bytes prefix : List ℕ) → prefix ≡ take MAX_HEAD_BYTES bytes → MAX_HEAD_BYTES ≤ length bytes → HasNoRequest prefix → NeverHasHead bytes
never_when_full bytes prefix f full none more h rest takes =
    let size : length prefix ≡ MAX_HEAD_BYTES = ap length f ∙ length-take-le MAX_HEAD_BYTES bytes full in
    let e : prefix ++ (drop MAX_HEAD_BYTES bytes ++ more) ≡ print_request h ++ rest = sym (split_prefix MAX_HEAD_BYTES bytes prefix more f) ∙ takes.reads.1 in
    none h (drop (length (print_request h)) prefix)
    (takes.reads.0, begins_first prefix (drop MAX_HEAD_BYTES bytes ++ more) (print_request h) rest e (omega (arith, takes.size)))

pub never_in_room : (bytes prefix : List ℕ) (room : ℕ) → prefix ≡ take MAX_HEAD_BYTES bytes → MAX_FIELDS ≤ room → RequestOverflows room prefix
    → NeverHasHead bytes
never_in_room bytes prefix room f wide over more h rest takes =
    let reads : ReadsRequest (prefix ++ (drop MAX_HEAD_BYTES bytes ++ more)) h rest =
    subst (λ (l : List ℕ). ReadsRequest l h rest) (split_prefix MAX_HEAD_BYTES bytes prefix more f) takes.reads in
    let many : room < length h.fields = over (drop MAX_HEAD_BYTES bytes ++ more) h rest reads in
    absurd (omega (arith, takes.fields))

count_is : (buf : List ℕ) (headers : List HeaderSpan) (spans : RequestSpans) (h : RequestHead) → IsRequestAt buf headers spans h
    → IsRequestWithin buf headers spans
    → length h.fields ≡ spans.headers
count_is buf headers spans h at within =
    sym (length-map h.fields name_and_value) ∙ ap length (sym at.fields) ∙ length-map (take spans.headers headers) (header_bytes buf)
    ∙ length-take-le spans.headers headers within.section.count_fits

pub never_with_many : (bytes prefix : List ℕ) (headers : List HeaderSpan) (spans : RequestSpans) → prefix ≡ take MAX_HEAD_BYTES bytes
    → MAX_FIELDS < spans.headers
    → IsRequestOf prefix headers spans → IsRequestWithin prefix headers spans → NeverHasHead bytes
never_with_many bytes prefix headers spans f many of within more h rest takes =
    let found : ReadsRequest (bytes ++ more) of.0 (drop spans.len prefix ++ (drop MAX_HEAD_BYTES bytes ++ more)) =
    subst (λ (l : List ℕ). ReadsRequest l of.0 (drop spans.len prefix ++ (drop MAX_HEAD_BYTES bytes ++ more)))
    (sym (split_prefix MAX_HEAD_BYTES bytes prefix more f))
    (ReadsRequest-append prefix of.0 (drop spans.len prefix) (drop MAX_HEAD_BYTES bytes ++ more) of.1.reads) in
    let same : of.0 ≡ h = (request_unique (bytes ++ more) of.0 h _ rest found takes.reads).0 in
    let count : length h.fields ≡ spans.headers = sym (ap (λ (k : RequestHead). length k.fields) same) ∙ count_is prefix headers spans of.0 of.1 within in
    absurd (omega (arith, takes.fields))

pub whole : (bytes prefix : List ℕ) (headers : List HeaderSpan) (spans : RequestSpans) → prefix ≡ take MAX_HEAD_BYTES bytes → spans.headers ≤ MAX_FIELDS
    → IsRequestOf prefix headers spans → IsRequestWithin prefix headers spans → IsWholeHead bytes headers spans
whole bytes prefix headers spans f few of within =
    let p = print_request of.0 in
    let cut : bytes ≡ p ++ (drop spans.len prefix ++ drop MAX_HEAD_BYTES bytes) =
    sym (take-append-drop MAX_HEAD_BYTES bytes) ∙ ap (λ l. l ++ drop MAX_HEAD_BYTES bytes) (sym f ∙ of.1.reads.1)
    ∙ append_assoc p (drop spans.len prefix) (drop MAX_HEAD_BYTES bytes) in
    let left : drop spans.len bytes ≡ drop spans.len prefix ++ drop MAX_HEAD_BYTES bytes =
    ap (drop spans.len) cut ∙ ap (λ n. drop n (p ++ (drop spans.len prefix ++ drop MAX_HEAD_BYTES bytes))) of.1.len
    ∙ drop-append_seam p (drop spans.len prefix ++ drop MAX_HEAD_BYTES bytes) in
    let size : length p ≤ MAX_HEAD_BYTES = omega (arith, of.1.len, within.section.len_fits, ap length f, length-take MAX_HEAD_BYTES bytes) in
    let fields : length (of.0).fields ≤ MAX_FIELDS = omega (arith, count_is prefix headers spans of.0 of.1 within) in
    record {
      head = of.0;
      takes = record { reads = (of.1.reads.0, cut ∙ ap (λ l. p ++ l) (sym left)); size = size; fields = fields };
      prefix = prefix;
      prefix_is = f;
      at = of.1;
      within = within;
    }

pub more_when_short : (bytes prefix : List ℕ) → prefix ≡ take MAX_HEAD_BYTES bytes → length bytes < MAX_HEAD_BYTES → HasNoRequest prefix → HasNoHead bytes
more_when_short bytes prefix f short none h rest takes =
    none h rest (subst (λ (l : List ℕ). ReadsRequest l h rest) (sym (f ∙ take_all MAX_HEAD_BYTES bytes (omega arith))) takes.reads)
