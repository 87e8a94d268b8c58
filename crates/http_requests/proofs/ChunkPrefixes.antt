-- Bytes start with a text if a prefix of them does.
use Rattle.std.proofs.Common.{◌≡◌, ℕ, ◌+◌, ◌≤◌, ◌<◌, List, ◌++◌, length, take, drop, sym, ap, ◌∙◌, arith, append_assoc, length-append}
use Rattle.std.proofs.lemmas.List.{take-append-drop, take-append-le, take_all, length-take-le, length-take, length-map}
use Rattle.std.proofs.Math.Seq.{take-append_seam}
use Rattle.httparse.specs.Grammar.{ChunkLine, print_chunk_line, HasNoChunkLine, NeverHasChunkLine, print_section, HasNoSection}
use Rattle.httparse.specs.Spans.{IsChunkLineAt, IsSectionOf, IsSectionWithin, SectionOverflows, header_bytes, name_and_value}
use Rattle.httparse.specs.declared.spans.HeaderSpan.{HeaderSpan}
use Rattle.http_requests.specs.declared.chunked.line.TheConstants.{MAX_LINE_BYTES}
use Rattle.http_requests.specs.declared.chunked.trailer.TheConstants.{MAX_TRAILER_BYTES}
use Rattle.http_requests.specs.declared.head.TheConstants.{MAX_FIELDS}
use Rattle.http_requests.specs.Chunks.{IsSizeLine, IsSomeSizeLine, IsTrailer, HasNone, NeverHas}

-- the bytes, and more, as the first n and the rest
pub split_prefix : (n : ℕ) (bytes prefix more : List ℕ) → prefix ≡ take n bytes → bytes ++ more ≡ prefix ++ (drop n bytes ++ more)
split_prefix n bytes prefix more f =
    ap (λ l. l ++ more) (sym (take-append-drop n bytes)) ∙ append_assoc (take n bytes) (drop n bytes) more ∙ ap (λ l. l ++ (drop n bytes ++ more)) (sym f)

-- a text that begins a longer one begins its first bytes
pub begins_first : (prefix more text rest : List ℕ) → prefix ++ more ≡ text ++ rest → length text ≤ length prefix → prefix ≡ text ++ drop (length text) prefix
begins_first prefix more text rest e fits =
    let same : take (length text) prefix ≡ text =
    sym (take-append-le (length text) prefix more fits) ∙ ap (take (length text)) e ∙ take-append_seam text rest in
    sym (take-append-drop (length text) prefix) ∙ ap (λ l. l ++ drop (length text) prefix) same

module _ (Is : List ℕ → Type 0) (n : ℕ) (bytes prefix : List ℕ) (f : prefix ≡ take n bytes) where
  never_when_full : ((text : List ℕ) → Is text → length text ≤ n) → n ≤ length bytes → HasNone Is prefix → NeverHas Is bytes
  never_when_full short full none more text rest is e =
      let size : length prefix ≡ n = ap length f ∙ length-take-le n bytes full in
      none text (drop (length text) prefix) is
      (begins_first prefix (drop n bytes ++ more) text rest (sym (split_prefix n bytes prefix more f) ∙ e) (omega (arith, size, short text is)))

  more_when_short : length bytes < n → HasNone Is prefix → HasNone Is bytes
  more_when_short short none text rest is e = none text rest is (f ∙ take_all n bytes (omega (arith, short)) ∙ e)

  never_of_prefix : NeverHas Is prefix → NeverHas Is bytes
  never_of_prefix never more text rest is e = never (drop n bytes ++ more) text rest is (sym (split_prefix n bytes prefix more f) ∙ e)

  -- a text of this length that a prefix starts with is a prefix of all
  first_of_prefix : (text rest : List ℕ) (len : ℕ) → prefix ≡ text ++ rest → len ≡ length text → (take len bytes ≡ text) × (len ≤ length bytes) × (len ≤ n)
  first_of_prefix text rest len e is =
      let long : length prefix ≡ length text + length rest = ap length e ∙ length-append text rest in
      let cut : bytes ≡ text ++ (rest ++ drop n bytes) =
      sym (take-append-drop n bytes) ∙ ap (λ l. l ++ drop n bytes) (sym f ∙ e) ∙ append_assoc text rest (drop n bytes) in (
        ap (take len) cut ∙ ap (λ k. take k (text ++ (rest ++ drop n bytes))) is ∙ take-append_seam text (rest ++ drop n bytes),
        omega (arith, is, long, ap length f, length-take n bytes),
        omega (arith, is, long, ap length f, length-take n bytes),
      )

-- ---- size lines

line_is_short : (text : List ℕ) → IsSomeSizeLine text → length text ≤ MAX_LINE_BYTES
line_is_short text is = is.1.short

no_line : (buf : List ℕ) → HasNoChunkLine buf → HasNone IsSomeSizeLine buf
no_line buf none text rest is e = none is.1.line rest (is.1.is, e ∙ ap (λ l. l ++ rest) is.1.text_is)

pub line_when_full : (bytes prefix : List ℕ) → prefix ≡ take MAX_LINE_BYTES bytes → MAX_LINE_BYTES ≤ length bytes → HasNoChunkLine prefix
    → NeverHas IsSomeSizeLine bytes
line_when_full bytes prefix f full none = never_when_full IsSomeSizeLine MAX_LINE_BYTES bytes prefix f line_is_short full (no_line prefix none)

pub line_when_short : (bytes prefix : List ℕ) → prefix ≡ take MAX_LINE_BYTES bytes → length bytes < MAX_LINE_BYTES → HasNoChunkLine prefix
    → HasNone IsSomeSizeLine bytes
line_when_short bytes prefix f short none = more_when_short IsSomeSizeLine MAX_LINE_BYTES bytes prefix f short (no_line prefix none)

pub line_never : (bytes prefix : List ℕ) → prefix ≡ take MAX_LINE_BYTES bytes → NeverHasChunkLine prefix → NeverHas IsSomeSizeLine bytes
line_never bytes prefix f never = never_of_prefix IsSomeSizeLine MAX_LINE_BYTES bytes prefix f (λ more. no_line (prefix ++ more) (never more))

pub line_whole : (bytes prefix : List ℕ) (len size : ℕ) → prefix ≡ take MAX_LINE_BYTES bytes → (l : ChunkLine) × IsChunkLineAt prefix len size l
    → IsSizeLine (take len bytes) size × (len ≤ length bytes)
line_whole bytes prefix len size f found =
    let first = first_of_prefix IsSomeSizeLine MAX_LINE_BYTES bytes prefix f (print_chunk_line found.0) (drop len prefix)
    len found.1.reads.1 found.1.len_is in (
      record {
        line = found.0;
        is = found.1.reads.0;
        text_is = first.0;
        short = omega (arith, ap length first.0, first.2, found.1.len_is);
        size_is = found.1.size_is;
      },
      first.1,
    )

-- ---- trailers

trailer_is_short : (text : List ℕ) → IsTrailer text → length text ≤ MAX_TRAILER_BYTES
trailer_is_short text is = is.short

no_section : (buf : List ℕ) → HasNoSection buf → HasNone IsTrailer buf
no_section buf none text rest is e = none is.fields is.last rest (is.are, e ∙ ap (λ l. l ++ rest) is.text_is)

pub trailer_when_full : (bytes prefix : List ℕ) → prefix ≡ take MAX_TRAILER_BYTES bytes → MAX_TRAILER_BYTES ≤ length bytes → HasNoSection prefix
    → NeverHas IsTrailer bytes
trailer_when_full bytes prefix f full none = never_when_full IsTrailer MAX_TRAILER_BYTES bytes prefix f trailer_is_short full (no_section prefix none)

pub trailer_when_short : (bytes prefix : List ℕ) → prefix ≡ take MAX_TRAILER_BYTES bytes → length bytes < MAX_TRAILER_BYTES → HasNoSection prefix
    → HasNone IsTrailer bytes
trailer_when_short bytes prefix f short none = more_when_short IsTrailer MAX_TRAILER_BYTES bytes prefix f short (no_section prefix none)

-- a section with more fields than the room has isn't a trailer
pub trailer_never : (bytes prefix : List ℕ) (room : ℕ) → prefix ≡ take MAX_TRAILER_BYTES bytes → MAX_FIELDS ≤ room → SectionOverflows room prefix
    → NeverHas IsTrailer bytes
trailer_never bytes prefix room f wide over =
    never_of_prefix IsTrailer MAX_TRAILER_BYTES bytes prefix f (λ more text rest is e.
    absurd (omega (arith, is.few, wide, over more is.fields is.last rest (is.are, e ∙ ap (λ l. l ++ rest) is.text_is))))

pub trailer_whole : (bytes prefix : List ℕ) (headers : List HeaderSpan) (len count : ℕ) → prefix ≡ take MAX_TRAILER_BYTES bytes → length headers ≤ MAX_FIELDS
    → IsSectionOf prefix 0 headers (len, count) → IsSectionWithin prefix headers len count → IsTrailer (take len bytes) × (len ≤ length bytes)
trailer_whole bytes prefix headers len count f room found within =
    let at = found.2 in
    let long : len ≡ length (print_section found.0 found.1) = omega (arith, at.len_is) in
    let first = first_of_prefix IsTrailer MAX_TRAILER_BYTES bytes prefix f (print_section found.0 found.1) (drop len prefix) len at.reads.1 long in
    let many : length found.0 ≡ count =
    sym (length-map found.0 name_and_value) ∙ ap length (sym at.fields_are) ∙ length-map (take count headers) (header_bytes prefix)
    ∙ length-take-le count headers within.count_fits in (
      record {
        fields = found.0;
        last = found.1;
        are = at.reads.0;
        text_is = first.0;
        short = omega (arith, ap length first.0, first.2, long);
        few = omega (arith, many, room, within.count_fits);
      },
      first.1,
    )
