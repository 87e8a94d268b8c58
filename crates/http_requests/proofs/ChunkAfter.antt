-- Where a part of a chunked body can't go on, the body can't.
use Rattle.std.proofs.Common.{◌≡◌, ℕ, ◌+◌, ◌≤◌, ◌<◌, List, [], ◌∷◌, ◌++◌, length, All, refl, sym, ap, ◌∙◌, subst, arith, inl, inr, append_assoc, length-append}
use Rattle.std.proofs.lemmas.List.Elements.{All-head, All-tail}
use Rattle.httparse.specs.Ascii.{crlf_bytes}
use Rattle.http_requests.specs.Chunks.{IsSizeLine, IsSomeSizeLine, Chunk, IsChunk, texts, contents, IsTrailer, IsBody, IsTooLarge, HasNone, Lacks, IsDecided}
use Rattle.http_requests.specs.Chunks.{IsContent}
use Rattle.http_requests.proofs.OneChunkedBody.{size_line_once, chunk_cut, chunk_once, chunk_is_not_last, first_chunk, body_cut, large_cut}

-- what is lacking after a text is lacking at its start
pub lacks_after : (AtEnd : Type 0) (Is Has : List ℕ → Type 0) (text here : List ℕ) → ((h : List ℕ) → HasNone Is h → HasNone Has (text ++ h))
    → Lacks AtEnd Is here → Lacks AtEnd Has (text ++ here)
lacks_after AtEnd Is Has text here behind (inl never) =
    inl (λ more. subst (HasNone Has) (sym (append_assoc text here more)) (behind (here ++ more) (never more)))
lacks_after AtEnd Is Has text here behind (inr ended) = inr (ended.0, behind here ended.1)

-- ---- the first line

-- a line that says a size, and what follows
record Starts (text : List ℕ) : Type 0 where
  line : List ℕ
  size : ℕ
  more : List ℕ
  is : IsSizeLine line size
  cut : text ≡ line ++ more

starts_chunk : (c : Chunk) (r : List ℕ) → IsChunk c → Starts (c.text ++ r)
starts_chunk c r is = record { line = is.line; size = length c.content; more = c.content ++ (crlf_bytes ++ r); is = is.line_is; cut = chunk_cut c r is }

starts_line : (cs : List Chunk) (line r : List ℕ) (size : ℕ) → All IsChunk cs → IsSizeLine line size → Starts (texts cs ++ (line ++ r))
starts_line [] line r size each is = record { line = line; size = size; more = r; is = is; cut = refl }
starts_line (c ∷ cs) line r size each is =
    subst Starts (sym (first_chunk c cs (line ++ r))) (starts_chunk c (texts cs ++ (line ++ r)) (All-head IsChunk c cs each))

starts : (most : ℕ) (text rest : List ℕ) → IsDecided most text → Starts (text ++ rest)
starts most text rest (inl b) =
    subst Starts (sym (body_cut most text b.0 rest b.1)) (starts_line b.1.chunks b.1.last (b.1.trailer ++ rest) 0 b.1.each b.1.last_is)
starts most text rest (inr t) = subst Starts (sym (large_cut most text rest t)) (starts_line t.chunks t.line rest t.size t.each t.line_is)

pub no_line : (most : ℕ) (here : List ℕ) → HasNone IsSomeSizeLine here → HasNone (IsDecided most) here
no_line most here none text rest is e =
    let first = starts most text rest is in
    none first.line first.more (first.size, first.is) (e ∙ first.cut)

-- ---- after a chunk

chunk_text : (c : Chunk) (cs : List Chunk) (d : Chunk) (ds : List Chunk) (here r : List ℕ) → IsChunk c → All IsChunk (d ∷ ds)
    → c.text ++ here ≡ texts (d ∷ ds) ++ r → (c ≡ d) × (here ≡ texts ds ++ r)
chunk_text c cs d ds here r is each e = chunk_once c d here (texts ds ++ r) is (All-head IsChunk d ds each) (e ∙ first_chunk d ds r)

body_after : (most : ℕ) (c : Chunk) (here : List ℕ) (ds : List Chunk) (last trailer rest : List ℕ) → IsChunk c → HasNone (IsDecided most) here
    → All IsChunk ds → IsSizeLine last 0 → IsTrailer trailer → length (contents ds) ≤ length c.content + most
    → c.text ++ here ≡ texts ds ++ (last ++ (trailer ++ rest)) → ⊥
body_after most c here [] last trailer rest is none each l t small e = chunk_is_not_last c last here (trailer ++ rest) is l e
body_after most c here (d ∷ ds) last trailer rest is none each l t small e =
    let now = chunk_text c [] d ds here (last ++ (trailer ++ rest)) is each e in
    let same : length c.content ≡ length d.content = ap (λ (x : Chunk). length x.content) now.0 in
    let b : IsBody most (texts ds ++ (last ++ trailer)) (contents ds) = record {
      chunks = ds;
      last = last;
      trailer = trailer;
      each = All-tail IsChunk d ds each;
      last_is = l;
      trailer_is = t;
      text_is = refl;
      body_is = refl;
      small = omega (arith, small, same, length-append d.content (contents ds));
    } in
    none (texts ds ++ (last ++ trailer)) rest (inl (contents ds, b)) (now.1 ∙ sym (body_cut most (texts ds ++ (last ++ trailer)) (contents ds) rest b))

large_after : (most : ℕ) (c : Chunk) (here : List ℕ) (ds : List Chunk) (line rest : List ℕ) (size : ℕ) → IsChunk c → HasNone (IsDecided most) here
    → All IsChunk ds → IsSizeLine line size → length (contents ds) ≤ length c.content + most → length c.content + most < length (contents ds) + size
    → c.text ++ here ≡ texts ds ++ (line ++ rest) → ⊥
large_after most c here [] line rest size is none each l small large e =
    let lines = size_line_once is.line line (c.content ++ (crlf_bytes ++ here)) rest (length c.content) size is.line_is l (sym (chunk_cut c here is) ∙ e) in
    absurd (omega (arith, lines.1, large))
large_after most c here (d ∷ ds) line rest size is none each l small large e =
    let now = chunk_text c [] d ds here (line ++ rest) is each e in
    let same : length c.content ≡ length d.content = ap (λ (x : Chunk). length x.content) now.0 in
    let long : length (contents (d ∷ ds)) ≡ length d.content + length (contents ds) = length-append d.content (contents ds) in
    let t : IsTooLarge most (texts ds ++ line) = record {
      chunks = ds;
      line = line;
      size = size;
      each = All-tail IsChunk d ds each;
      line_is = l;
      text_is = refl;
      small = omega (arith, small, same, long);
      large = omega (arith, large, same, long);
    } in
    none (texts ds ++ line) rest (inr t) (now.1 ∙ sym (large_cut most (texts ds ++ line) rest t))

after_chunk : (most : ℕ) (c : Chunk) (here : List ℕ) → IsChunk c → HasNone (IsDecided most) here
    → HasNone (IsDecided (length c.content + most)) (c.text ++ here)
after_chunk most c here is none text rest (inl b) e =
    body_after most c here b.1.chunks b.1.last b.1.trailer rest is none b.1.each b.1.last_is b.1.trailer_is
    (omega (arith, b.1.small, ap length b.1.body_is)) (e ∙ body_cut (length c.content + most) text b.0 rest b.1)
after_chunk most c here is none text rest (inr t) e =
    large_after most c here t.chunks t.line rest t.size is none t.each t.line_is t.small t.large (e ∙ large_cut (length c.content + most) text rest t)

pub after_chunks : (cs : List Chunk) (most all : ℕ) (here : List ℕ) → All IsChunk cs → all ≡ length (contents cs) + most → HasNone (IsDecided most) here
    → HasNone (IsDecided all) (texts cs ++ here)
after_chunks [] most all here each is none =
    let same : most ≡ all = omega (arith, is) in
    subst (λ (n : ℕ). HasNone (IsDecided n) here) same none
after_chunks (c ∷ cs) most all here each is none =
    let later = after_chunks cs most (length (contents cs) + most) here (All-tail IsChunk c cs each) refl none in
    let now = after_chunk (length (contents cs) + most) c (texts cs ++ here) (All-head IsChunk c cs each) later in
    let sum : length c.content + (length (contents cs) + most) ≡ all = omega (arith, is, length-append c.content (contents cs)) in
    subst (λ (n : ℕ). HasNone (IsDecided n) (texts (c ∷ cs) ++ here)) sum
    (subst (HasNone (IsDecided (length c.content + (length (contents cs) + most)))) (sym (first_chunk c cs here)) now)

-- ---- after a line

-- no chunk, where its content can't come
content_after : (size : ℕ) (line here : List ℕ) (d : Chunk) (ds : List Chunk) (r : List ℕ) → IsSizeLine line size → HasNone (IsContent size) here
    → All IsChunk (d ∷ ds) → line ++ here ≡ texts (d ∷ ds) ++ r → ⊥
content_after size line here d ds r l none each e =
    let is = All-head IsChunk d ds each in
    let lines = size_line_once line is.line here (d.content ++ (crlf_bytes ++ (texts ds ++ r))) size (length d.content) l is.line_is
    (e ∙ first_chunk d ds r ∙ chunk_cut d (texts ds ++ r) is) in
    none (d.content ++ crlf_bytes) (texts ds ++ r) (record { content = d.content; size_is = sym lines.1; text_is = refl })
    (lines.2 ∙ sym (append_assoc d.content crlf_bytes (texts ds ++ r)))

no_content_body : (size : ℕ) (line here : List ℕ) (ds : List Chunk) (last r : List ℕ) → 0 < size → IsSizeLine line size → HasNone (IsContent size) here
    → All IsChunk ds → IsSizeLine last 0
    → line ++ here ≡ texts ds ++ (last ++ r) → ⊥
no_content_body size line here [] last r some l none each z e =
    let lines = size_line_once line last here r size 0 l z e in
    absurd (omega (arith, some, lines.1))
no_content_body size line here (d ∷ ds) last r some l none each z e = content_after size line here d ds (last ++ r) l none each e

no_content_large : (most size more : ℕ) (line here : List ℕ) (ds : List Chunk) (end r : List ℕ) → size ≤ most → IsSizeLine line size
    → HasNone (IsContent size) here → All IsChunk ds → IsSizeLine end more
    → most < length (contents ds) + more → line ++ here ≡ texts ds ++ (end ++ r) → ⊥
no_content_large most size more line here [] end r fits l none each z large e =
    let lines = size_line_once line end here r size more l z e in
    absurd (omega (arith, fits, large, lines.1))
no_content_large most size more line here (d ∷ ds) end r fits l none each z large e = content_after size line here d ds (end ++ r) l none each e

pub no_content : (most size : ℕ) (line here : List ℕ) → 0 < size → size ≤ most → IsSizeLine line size → HasNone (IsContent size) here
    → HasNone (IsDecided most) (line ++ here)
no_content most size line here some fits l none text rest (inl b) e =
    no_content_body size line here b.1.chunks b.1.last (b.1.trailer ++ rest) some l none b.1.each b.1.last_is (e ∙ body_cut most text b.0 rest b.1)
no_content most size line here some fits l none text rest (inr t) e =
    no_content_large most size t.size line here t.chunks t.line rest fits l none t.each t.line_is t.large (e ∙ large_cut most text rest t)

-- no chunk after the last line
no_chunk : (line here : List ℕ) (d : Chunk) (ds : List Chunk) (r : List ℕ) → IsSizeLine line 0 → All IsChunk (d ∷ ds) → line ++ here ≡ texts (d ∷ ds) ++ r → ⊥
no_chunk line here d ds r l each e = chunk_is_not_last d line (texts ds ++ r) here (All-head IsChunk d ds each) l (sym (e ∙ first_chunk d ds r))

no_trailer_body : (line here : List ℕ) (ds : List Chunk) (last trailer rest : List ℕ) → IsSizeLine line 0 → HasNone IsTrailer here → All IsChunk ds
    → IsSizeLine last 0 → IsTrailer trailer
    → line ++ here ≡ texts ds ++ (last ++ (trailer ++ rest)) → ⊥
no_trailer_body line here [] last trailer rest l none each z t e = none trailer rest t (size_line_once line last here (trailer ++ rest) 0 0 l z e).2
no_trailer_body line here (d ∷ ds) last trailer rest l none each z t e = no_chunk line here d ds (last ++ (trailer ++ rest)) l each e

no_trailer_large : (most more : ℕ) (line here : List ℕ) (ds : List Chunk) (end r : List ℕ) → IsSizeLine line 0 → All IsChunk ds → IsSizeLine end more
    → most < length (contents ds) + more
    → line ++ here ≡ texts ds ++ (end ++ r) → ⊥
no_trailer_large most more line here [] end r l each z large e =
    let lines = size_line_once line end here r 0 more l z e in
    absurd (omega (arith, large, lines.1))
no_trailer_large most more line here (d ∷ ds) end r l each z large e = no_chunk line here d ds (end ++ r) l each e

pub no_trailer : (most : ℕ) (line here : List ℕ) → IsSizeLine line 0 → HasNone IsTrailer here → HasNone (IsDecided most) (line ++ here)
no_trailer most line here l none text rest (inl b) e =
    no_trailer_body line here b.1.chunks b.1.last b.1.trailer rest l none b.1.each b.1.last_is b.1.trailer_is (e ∙ body_cut most text b.0 rest b.1)
no_trailer most line here l none text rest (inr t) e =
    no_trailer_large most t.size line here t.chunks t.line rest l t.each t.line_is t.large (e ∙ large_cut most text rest t)
