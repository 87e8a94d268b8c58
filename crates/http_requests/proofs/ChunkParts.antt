-- What is awaited after a part of a chunked body, and what can't come there.
use Rattle.std.proofs.Common.{All, ◌≡◌, ℕ, ◌+◌, ◌-◌, ◌≤◌, ◌<◌, true, false, List, [], ◌∷◌, ◌++◌, length, take, drop, replicate, refl, sym, ap, ◌∙◌, subst}
use Rattle.std.proofs.Common.{arith, inl, append_assoc, append-nil, length-append}
use Rattle.std.proofs.lemmas.Bool.Decides.{nat_tests}
use Rattle.std.proofs.lemmas.List.{flat_map_more, take-append-drop, length-take-le, length-replicate, length-drop}
use Rattle.std.proofs.lemmas.List.Elements.{All-append, All-cons, All-nil}
use Rattle.httparse.specs.Ascii.{crlf_bytes}
use Rattle.http_requests.specs.Chunks.{IsSizeLine, IsSomeSizeLine, IsTrailer, IsContent, IsDecided, Chunk, IsChunk, texts, contents, HasNone, NeverHas, Lacks}
use Rattle.http_requests.proofs.OneChunkedBody.{same_cut}
use Rattle.http_requests.proofs.ChunkSizes.{zero_line, zero_line_is}
use Rattle.http_requests.proofs.ChunkAfter.{lacks_after, after_chunks, no_line, no_content, no_trailer}
use Rattle.http_requests.specs.declared.request.TheConstants.{MAX_BODY_BYTES}
use Rattle.http_requests.specs.Requests.{AwaitsChunks, HasBody, PassesMost}
use Rattle.http_requests.specs.Bodies.{AwaitsLine, AwaitsRest, IsLineEnd, begins_line_end, may_begin_line_end}
use Rattle.http_requests.specs.declared.request.BodyLength.TheVariants.{Chunked}
use Rattle.http_requests.specs.LineLaws.{cut_before}

-- ---- CR LF

no_line_end : (bytes : List ℕ) → begins_line_end bytes ≡ false → HasNone IsLineEnd bytes
no_line_end bytes e text rest is cut =
    let yes : begins_line_end bytes ≡ true = ap begins_line_end (cut ∙ ap (λ l. l ++ rest) is) in
    absurd (cc (yes, e))

pub awaits_line_end : (bytes : List ℕ) → begins_line_end bytes ≡ false → may_begin_line_end bytes ≡ true → AwaitsRest IsLineEnd bytes
awaits_line_end [] e f = record { none = no_line_end [] e; more = crlf_bytes; may = refl }
awaits_line_end (a ∷ []) e f =
    let is : a ≡ 13 = grind (arith, nat_tests, f) in
    record { none = no_line_end (a ∷ []) e; more = 10 ∷ []; may = λ i. is i ∷ 10 ∷ [] }
awaits_line_end (a ∷ b ∷ rest) e f = absurd (cc f)

-- ---- data and CR LF

too_few : (size : ℕ) (bytes : List ℕ) → length bytes < size → HasNone (IsContent size) bytes
too_few size bytes short text rest is e =
    absurd (omega (arith, short, is.size_is, ap length e, length-append text rest, ap length is.text_is, length-append is.content crlf_bytes))

-- fewer bytes than the data may go on with any
pub shorter : (size : ℕ) (bytes : List ℕ) → length bytes < size → AwaitsRest (IsContent size) bytes
shorter size bytes short =
    let lacking : List ℕ = replicate (size - length bytes) 0 in
    record {
      none = too_few size bytes short;
      more = lacking ++ crlf_bytes;
      may = record {
        content = bytes ++ lacking;
        size_is = omega (arith, short, length-append bytes lacking, length-replicate {A = ℕ} (size - length bytes) 0);
        text_is = sym (append_assoc bytes lacking crlf_bytes);
      };
    }

pub end_is_awaited : (h : List ℕ) → AwaitsRest IsLineEnd h → AwaitsRest (IsContent 0) h
end_is_awaited h awaits = record {
  none = λ text rest is e.
      let nothing : is.content ≡ [] = is_nothing is.content is.size_is in
      awaits.none text rest (is.text_is ∙ ap (λ l. l ++ crlf_bytes) nothing) e;
  more = awaits.more;
  may = record { content = []; size_is = refl; text_is = awaits.may };
}
  where
    is_nothing : (xs : List ℕ) → length xs ≡ 0 → xs ≡ []
    is_nothing [] e = refl
    is_nothing (x ∷ xs) e = absurd (omega (arith, e))

-- after the first of the data
module _ (size count : ℕ) (got : List ℕ) (lacking : length got + count ≡ size) where
  pub none_after : (h : List ℕ) → HasNone (IsContent count) h → HasNone (IsContent size) (got ++ h)
  none_after h none text rest is e =
      let n = length got in
      let front = take n is.content in
      let back = drop n is.content in
      let long : length got ≡ length front = sym (length-take-le n is.content (omega (arith, is.size_is, lacking))) in
      let whole : text ++ rest ≡ front ++ ((back ++ crlf_bytes) ++ rest) =
      ap (λ l. l ++ rest) (is.text_is ∙ ap (λ l. l ++ crlf_bytes) (sym (take-append-drop n is.content)) ∙ append_assoc front back crlf_bytes)
      ∙ append_assoc front (back ++ crlf_bytes) rest in
      let parts = same_cut got front h ((back ++ crlf_bytes) ++ rest) long (e ∙ whole) in
      none (back ++ crlf_bytes) rest (record { content = back; size_is = omega (arith, is.size_is, lacking, length-drop n is.content); text_is = refl }) parts.1

  pub awaited_after : (h : List ℕ) → AwaitsRest (IsContent count) h → AwaitsRest (IsContent size) (got ++ h)
  awaited_after h awaits = record {
    none = none_after h awaits.none;
    more = awaits.more;
    may = record {
      content = got ++ awaits.may.content;
      size_is = omega (arith, lacking, awaits.may.size_is, length-append got awaits.may.content);
      text_is = append_assoc got h awaits.more ∙ ap (λ l. got ++ l) awaits.may.text_is ∙ sym (append_assoc got awaits.may.content crlf_bytes);
    };
  }

-- ---- after chunks

module _ (chunks : List Chunk) (left : ℕ) (each : All IsChunk chunks) (sum : MAX_BODY_BYTES ≡ length (contents chunks) + left) where
  after_texts : (h : List ℕ) → HasNone IsSomeSizeLine h → HasNone (IsDecided MAX_BODY_BYTES) (texts chunks ++ h)
  after_texts h none = after_chunks chunks left MAX_BODY_BYTES h each sum (no_line left h none)

  -- before a line that hasn't ended the last line may stand
  pub line_awaited : (h : List ℕ) → AwaitsLine h → AwaitsChunks (texts chunks ++ h)
  line_awaited h awaits = record {
    none = after_texts h awaits.0;
    may = λ lines rest e ends never. let cut = cut_before (texts chunks) h lines rest ends e awaits.1 in
        never (cut.0 ++ zero_line) (texts chunks ++ zero_line) []
        (inl (record { chunks = chunks; last = zero_line; each = each; last_is = zero_line_is; text_is = refl; small = omega (arith, sum) }))
        (sym (append_assoc lines cut.0 zero_line) ∙ ap (λ l. l ++ zero_line) (sym cut.1) ∙ sym (append-nil (texts chunks ++ zero_line)));
  }

  pub no_size : (h : List ℕ) → NeverHas IsSomeSizeLine h → Lacks ⊥ (IsDecided MAX_BODY_BYTES) (texts chunks ++ h)
  no_size h never = lacks_after ⊥ IsSomeSizeLine (IsDecided MAX_BODY_BYTES) (texts chunks) h after_texts (inl never)

  module _ (line : List ℕ) (size : ℕ) (line_is : IsSizeLine line size) where
    -- what can't go on after the line can't go on
    after_line : (h : List ℕ) → HasNone (IsDecided left) (line ++ h) → HasNone (IsDecided MAX_BODY_BYTES) ((texts chunks ++ line) ++ h)
    after_line h none =
        subst (HasNone (IsDecided MAX_BODY_BYTES)) (sym (append_assoc (texts chunks) line h))
        (after_chunks chunks left MAX_BODY_BYTES (line ++ h) each sum none)

    pub passes : (h : List ℕ) → left < size → PassesMost Chunked ((texts chunks ++ line) ++ h)
    passes h large = record {
      text = texts chunks ++ line;
      rest = h;
      is =
          record {
            chunks = chunks;
            line = line;
            size = size;
            each = each;
            line_is = line_is;
            text_is = refl;
            small = omega (arith, sum);
            large = omega (arith, sum, large);
          };
      cut = refl;
    }

    module _ (some : 0 < size) (fits : size ≤ left) where
      after_content : (h : List ℕ) → HasNone (IsContent size) h → HasNone (IsDecided MAX_BODY_BYTES) ((texts chunks ++ line) ++ h)
      after_content h none = after_line h (no_content left size line h some fits line_is none)

      abbrev pub chunk_of : List ℕ → Chunk
      chunk_of content = record { text = line ++ (content ++ crlf_bytes); content = content }

      chunk_is : (content : List ℕ) → length content ≡ size → IsChunk (chunk_of content)
      chunk_is content size_is =
          record { line = line; line_is = subst (IsSizeLine line) (sym size_is) line_is; some = omega (arith, some, size_is); text_is = refl }

      pub each_with : (content : List ℕ) → length content ≡ size → All IsChunk (chunks ++ chunk_of content ∷ [])
      each_with content size_is =
          All-append IsChunk chunks (chunk_of content ∷ []) each (All-cons IsChunk (chunk_of content) [] (chunk_is content size_is) (All-nil IsChunk))

      pub sum_with : (content : List ℕ) → length content ≡ size → length (contents (chunks ++ chunk_of content ∷ [])) ≡ length (contents chunks) + size
      sum_with content size_is =
          omega (arith, size_is, ap length (flat_map_more (λ (x : Chunk). x.content) [] chunks (chunk_of content)), length-append (contents chunks) content)

      pub texts_with : (content : List ℕ) → (texts chunks ++ line) ++ (content ++ crlf_bytes) ≡ texts (chunks ++ chunk_of content ∷ [])
      texts_with content = append_assoc (texts chunks) line (content ++ crlf_bytes) ∙ flat_map_more (λ (x : Chunk). x.text) [] chunks (chunk_of content)

      -- after data that are whole the last line may stand
      pub content_awaited : (h : List ℕ) → AwaitsRest (IsContent size) h → AwaitsChunks ((texts chunks ++ line) ++ h)
      content_awaited h awaits =
          let content = awaits.may.content in
          let more = texts (chunks ++ chunk_of content ∷ []) in
          let whole : ((texts chunks ++ line) ++ h) ++ awaits.more ≡ more =
          append_assoc (texts chunks ++ line) h awaits.more ∙ ap (λ l. (texts chunks ++ line) ++ l) awaits.may.text_is ∙ texts_with content in
          record {
            none = after_content h awaits.none;
            may = λ lines rest e ends never.
                never (rest ++ (awaits.more ++ zero_line)) (more ++ zero_line) []
                (inl (record {
                  chunks = chunks ++ chunk_of content ∷ [];
                  last = zero_line;
                  each = each_with content awaits.may.size_is;
                  last_is = zero_line_is;
                  text_is = refl;
                  small = omega (arith, sum, fits, sum_with content awaits.may.size_is);
                }))
                (sym (append_assoc lines rest (awaits.more ++ zero_line)) ∙ ap (λ l. l ++ (awaits.more ++ zero_line)) (sym e)
                ∙ sym (append_assoc ((texts chunks ++ line) ++ h) awaits.more zero_line) ∙ ap (λ l. l ++ zero_line) whole
                ∙ sym (append-nil (more ++ zero_line)));
          }

      pub no_more_content : (h : List ℕ) → NeverHas (IsContent size) h → Lacks ⊥ (IsDecided MAX_BODY_BYTES) ((texts chunks ++ line) ++ h)
      no_more_content h never = lacks_after ⊥ (IsContent size) (IsDecided MAX_BODY_BYTES) (texts chunks ++ line) h after_content (inl never)

  module _ (line : List ℕ) (line_is : IsSizeLine line 0) where
    after_last : (h : List ℕ) → HasNone IsTrailer h → HasNone (IsDecided MAX_BODY_BYTES) ((texts chunks ++ line) ++ h)
    after_last h none = after_line line 0 line_is h (no_trailer left line h line_is none)

    -- all chunks are there
    pub trailer_awaited : (h : List ℕ) → HasNone IsTrailer h → AwaitsChunks ((texts chunks ++ line) ++ h)
    trailer_awaited h none = record {
      none = after_last h none;
      may = λ lines rest e ends never. never rest (texts chunks ++ line) h
          (inl (record { chunks = chunks; last = line; each = each; last_is = line_is; text_is = refl; small = omega (arith, sum) })) (sym e);
    }

    pub no_trailer_comes : (h : List ℕ) → NeverHas IsTrailer h → Lacks ⊥ (IsDecided MAX_BODY_BYTES) ((texts chunks ++ line) ++ h)
    no_trailer_comes h never = lacks_after ⊥ IsTrailer (IsDecided MAX_BODY_BYTES) (texts chunks ++ line) h after_last (inl never)

    pub chunks_whole : (trailer : List ℕ) → IsTrailer trailer → HasBody Chunked ((texts chunks ++ line) ++ trailer) (contents chunks)
    chunks_whole trailer trailer_is = record {
      chunks = chunks;
      last = line;
      trailer = trailer;
      each = each;
      last_is = line_is;
      trailer_is = trailer_is;
      text_is = append_assoc (texts chunks) line trailer;
      body_is = refl;
      small = omega (arith, sum);
    }
