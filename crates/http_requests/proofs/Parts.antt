-- How a part of a body that was taken comes to more of it.
use Rattle.std.proofs.Common.{◌≡◌, ℕ, ◌+◌, ◌-◌, ◌≤◌, ◌<◌, min, List, [], ◌∷◌, ◌++◌, length, take, drop, Option, Some, None, refl, sym}
use Rattle.std.proofs.Common.{ap, ◌∙◌, subst, arith, inl, inr, append_assoc, append-nil, length-append}
use Rattle.std.proofs.lemmas.List.{flat_map_more, take-append-drop, length-take-le, length-drop}
use Rattle.std.proofs.Math.Seq.{take-append_seam}
use Rattle.httparse.specs.Ascii.{crlf_bytes}
use Rattle.http_requests.specs.Chunks.{IsSizeLine, IsSomeSizeLine, IsTrailer, IsContent, Chunk, texts, contents, HasNone, NeverHas}
use Rattle.session_devices.specs.ByteTransfers.{ByteTransfer, TakesNothing, TakesJoined}
use Rattle.http_requests.specs.declared.request.TheConstants.{MAX_BODY_BYTES}
use Rattle.http_requests.specs.declared.request.BodyLength.{BodyLength}
use Rattle.http_requests.specs.declared.request.BodyLength.TheVariants.{Bytes, Chunked, Unreadable, TooLarge}
use Rattle.http_requests.specs.declared.request.RequestFault.{RequestFault}
use Rattle.http_requests.specs.declared.request.RequestFault.TheVariants as fault
use Rattle.http_requests.specs.declared.body_reader.BodyReader.{BodyReader}
use Rattle.http_requests.specs.declared.body_reader.Stage.{Stage}
use Rattle.http_requests.specs.declared.body_reader.Stage.TheVariants.{Length, SizeLine, Data, Trailer}
use Rattle.http_requests.specs.declared.body_reader.Stage.TheVariants as stage
use Rattle.http_requests.specs.Requests.{HasBody, BodyBreaks, AwaitsBody}
use Rattle.http_requests.specs.ReceivedBytes.{ReadBuffer, put_back}
use Rattle.http_requests.specs.Bodies.{IsLineEnd}
use Rattle.http_requests.specs.PartialRequests.{IsPartAt, IsPart, HasLookedAt, HasLooked, AwaitsAt}
use Rattle.http_requests.specs.PartialRequests.{AwaitsMoreBody, BodyPart, body_part, ReaderMoment, reader_moment, sinkless_moment, HasStepOutcome}
use Rattle.http_requests.specs.PartialRequests.{ContinuesBody, ContinuesWithoutData}
use Rattle.http_requests.specs.declared.body_reader.BodyStatus.{BodyStatus}
use Rattle.http_requests.specs.declared.body_reader.BodyStatus.TheVariants.{Complete, Partial, Invalid}
use Rattle.http_requests.proofs.ChunkParts.{none_after, awaited_after, line_awaited, no_size, passes, each_with, sum_with, texts_with, content_awaited}
use Rattle.http_requests.proofs.ChunkParts.{no_more_content, trailer_awaited, no_trailer_comes, chunks_whole}

-- ---- a size line

pub line_then_data : (of : BodyLength) (front fed line : List ℕ) (left size : ℕ) → IsPartAt of (body_part front fed) left SizeLine
    → IsSizeLine line size → 0 < size
    → size ≤ left
    → IsPartAt of (body_part (front ++ line) (fed ++ [])) (left - size) (Data size)
line_then_data Chunked front fed line left size so is some fits = record {
  chunks = so.chunks;
  line = line;
  size = size;
  got = [];
  each = so.each;
  line_is = is;
  some = some;
  text_is = ap (λ l. l ++ line) so.text_is ∙ sym (append-nil (texts so.chunks ++ line));
  content_is = ap (λ l. l ++ []) so.content_is;
  sum = omega (arith, so.sum, fits);
  lacking = omega arith;
}
line_then_data (Bytes n) front fed line left size so is some fits = absurd so
line_then_data Unreadable front fed line left size so is some fits = absurd so
line_then_data TooLarge front fed line left size so is some fits = absurd so

pub line_then_trailer : (of : BodyLength) (front fed line : List ℕ) (left : ℕ) → IsPartAt of (body_part front fed) left SizeLine → IsSizeLine line 0
    → IsPartAt of (body_part (front ++ line) (fed ++ [])) left (Trailer 0)
line_then_trailer Chunked front fed line left so is = record {
  chunks = so.chunks;
  line = line;
  each = so.each;
  line_is = is;
  text_is = ap (λ l. l ++ line) so.text_is;
  content_is = append-nil fed ∙ so.content_is;
  small = omega (arith, so.sum);
}
line_then_trailer (Bytes n) front fed line left so is = absurd so
line_then_trailer Unreadable front fed line left so is = absurd so
line_then_trailer TooLarge front fed line left so is = absurd so

pub line_passes : (of : BodyLength) (front fed line held : List ℕ) (left size : ℕ) → IsPartAt of (body_part front fed) left SizeLine
    → IsSizeLine line size → left < size
    → BodyBreaks ⊥ fault.TooLarge of ((front ++ line) ++ held)
line_passes Chunked front fed line held left size so is large =
    subst (λ (l : List ℕ). BodyBreaks ⊥ fault.TooLarge Chunked ((l ++ line) ++ held)) (sym so.text_is)
    (passes so.chunks left so.each so.sum line size is held large)
line_passes (Bytes n) front fed line held left size so is large = absurd so
line_passes Unreadable front fed line held left size so is large = absurd so
line_passes TooLarge front fed line held left size so is large = absurd so

pub no_line_comes : (of : BodyLength) (front fed held : List ℕ) (left : ℕ) → IsPartAt of (body_part front fed) left SizeLine → NeverHas IsSomeSizeLine held
    → BodyBreaks ⊥ fault.Body of (front ++ held)
no_line_comes Chunked front fed held left so never =
    subst (λ (l : List ℕ). BodyBreaks ⊥ fault.Body Chunked (l ++ held)) (sym so.text_is) (no_size so.chunks left so.each so.sum held never)
no_line_comes (Bytes n) front fed held left so never = absurd so
no_line_comes Unreadable front fed held left so never = absurd so
no_line_comes TooLarge front fed held left so never = absurd so

-- ---- data, and CR LF after them

pub data_then : (of : BodyLength) (front fed piece : List ℕ) (left count rest : ℕ) → IsPartAt of (body_part front fed) left (Data count)
    → length piece + rest ≡ count
    → IsPartAt of (body_part (front ++ piece) (fed ++ piece)) left (Data rest)
data_then Chunked front fed piece left count rest so long = record {
  chunks = so.chunks;
  line = so.line;
  size = so.size;
  got = so.got ++ piece;
  each = so.each;
  line_is = so.line_is;
  some = so.some;
  text_is = ap (λ l. l ++ piece) so.text_is ∙ append_assoc (texts so.chunks ++ so.line) so.got piece;
  content_is = ap (λ l. l ++ piece) so.content_is ∙ append_assoc (contents so.chunks) so.got piece;
  sum = so.sum;
  lacking = omega (arith, so.lacking, long, length-append so.got piece);
}
data_then (Bytes n) front fed piece left count rest so long = absurd so
data_then Unreadable front fed piece left count rest so long = absurd so
data_then TooLarge front fed piece left count rest so long = absurd so

pub end_then_line : (of : BodyLength) (front fed line : List ℕ) (left : ℕ) → IsPartAt of (body_part front fed) left (Data 0) → IsLineEnd line
    → IsPartAt of (body_part (front ++ line) (fed ++ [])) left SizeLine
end_then_line Chunked front fed line left so is =
    let fits : so.size ≤ so.size + left = omega arith in
    let long : length so.got ≡ so.size = omega (arith, so.lacking) in
    let one : Chunk = record { text = so.line ++ (so.got ++ crlf_bytes); content = so.got } in
    record {
      chunks = so.chunks ++ one ∷ [];
      each = each_with so.chunks (so.size + left) so.each so.sum so.line so.size so.line_is so.some fits so.got long;
      text_is =
          ap (λ l. l ++ line) so.text_is ∙ ap (λ l. ((texts so.chunks ++ so.line) ++ so.got) ++ l) is
          ∙ append_assoc (texts so.chunks ++ so.line) so.got crlf_bytes
          ∙ texts_with so.chunks (so.size + left) so.each so.sum so.line so.size so.line_is so.some fits so.got;
      content_is = append-nil fed ∙ so.content_is ∙ flat_map_more (λ (x : Chunk). x.content) [] so.chunks one;
      sum = omega (arith, so.sum, sum_with so.chunks (so.size + left) so.each so.sum so.line so.size so.line_is so.some fits so.got long);
    }
end_then_line (Bytes n) front fed line left so is = absurd so
end_then_line Unreadable front fed line left so is = absurd so
end_then_line TooLarge front fed line left so is = absurd so

never_content : (held : List ℕ) → NeverHas IsLineEnd held → NeverHas (IsContent 0) held
never_content held never more text rest is e = never more text rest (is.text_is ∙ ap (λ l. l ++ crlf_bytes) (is_nothing is.content is.size_is)) e
  where
    is_nothing : (xs : List ℕ) → length xs ≡ 0 → xs ≡ []
    is_nothing [] e = refl
    is_nothing (x ∷ xs) e = absurd (omega (arith, e))

pub no_end_comes : (of : BodyLength) (front fed held : List ℕ) (left : ℕ) → IsPartAt of (body_part front fed) left (Data 0) → NeverHas IsLineEnd held
    → BodyBreaks ⊥ fault.Body of (front ++ held)
no_end_comes Chunked front fed held left so never =
    let fits : so.size ≤ so.size + left = omega arith in
    let nothing = never_content held never in
    let behind : NeverHas (IsContent so.size) (so.got ++ held) =
    λ more. subst (HasNone (IsContent so.size)) (sym (append_assoc so.got held more)) (none_after so.size 0 so.got so.lacking (held ++ more) (nothing more)) in
    subst (λ (l : List ℕ). BodyBreaks ⊥ fault.Body Chunked l)
    (sym (append_assoc (texts so.chunks ++ so.line) so.got held) ∙ ap (λ l. l ++ held) (sym so.text_is))
    (no_more_content so.chunks (so.size + left) so.each so.sum so.line so.size so.line_is so.some fits (so.got ++ held) behind)
no_end_comes (Bytes n) front fed held left so never = absurd so
no_end_comes Unreadable front fed held left so never = absurd so
no_end_comes TooLarge front fed held left so never = absurd so

-- ---- a trailer

abbrev rest_of : List Chunk → ℕ
rest_of chunks = MAX_BODY_BYTES - length (contents chunks)

pub trailer_ends : (of : BodyLength) (front fed text : List ℕ) (left seen : ℕ) → IsPartAt of (body_part front fed) left (Trailer seen) → IsTrailer text
    → HasBody of (front ++ text) (fed ++ [])
trailer_ends Chunked front fed text left seen so is =
    let whole = chunks_whole so.chunks (rest_of so.chunks) so.each (omega (arith, so.small)) so.line so.line_is text is in
    subst (HasBody Chunked (front ++ text)) (sym (append-nil fed ∙ so.content_is))
    (subst (λ (l : List ℕ). HasBody Chunked (l ++ text) (contents so.chunks)) (sym so.text_is) whole)
trailer_ends (Bytes n) front fed text left seen so is = absurd so
trailer_ends Unreadable front fed text left seen so is = absurd so
trailer_ends TooLarge front fed text left seen so is = absurd so

pub no_trailer_then : (of : BodyLength) (front fed held : List ℕ) (left seen : ℕ) → IsPartAt of (body_part front fed) left (Trailer seen)
    → NeverHas IsTrailer held
    → BodyBreaks ⊥ fault.Body of (front ++ held)
no_trailer_then Chunked front fed held left seen so never =
    subst (λ (l : List ℕ). BodyBreaks ⊥ fault.Body Chunked (l ++ held)) (sym so.text_is)
    (no_trailer_comes so.chunks (rest_of so.chunks) so.each (omega (arith, so.small)) so.line so.line_is held never)
no_trailer_then (Bytes n) front fed held left seen so never = absurd so
no_trailer_then Unreadable front fed held left seen so never = absurd so
no_trailer_then TooLarge front fed held left seen so never = absurd so

pub trailer_seen : (of : BodyLength) (front fed : List ℕ) (left seen more : ℕ) → IsPartAt of (body_part front fed) left (Trailer seen)
    → IsPartAt of (body_part front fed) left (Trailer more)
trailer_seen Chunked front fed left seen more so = so
trailer_seen (Bytes n) front fed left seen more so = absurd so
trailer_seen Unreadable front fed left seen more so = absurd so
trailer_seen TooLarge front fed left seen more so = absurd so

-- ---- a body by its length, and one that isn't read

pub length_then : (of : BodyLength) (front fed piece : List ℕ) (left count rest : ℕ) → IsPartAt of (body_part front fed) left (Length count)
    → length piece + rest ≡ count
    → IsPartAt of (body_part (front ++ piece) (fed ++ piece)) left (Length rest)
length_then (Bytes n) front fed piece left count rest so long = (ap (λ l. l ++ piece) so.0, omega (arith, so.1, long, length-append fed piece))
length_then Chunked front fed piece left count rest so long = absurd so
length_then Unreadable front fed piece left count rest so long = absurd so
length_then TooLarge front fed piece left count rest so long = absurd so

pub length_ends : (of : BodyLength) (front fed piece : List ℕ) (left count : ℕ) → IsPartAt of (body_part front fed) left (Length count) → length piece ≡ count
    → HasBody of (front ++ piece) (fed ++ piece)
length_ends (Bytes n) front fed piece left count so long = (ap (λ l. l ++ piece) so.0, omega (arith, so.1, long, length-append fed piece))
length_ends Chunked front fed piece left count so long = absurd so
length_ends Unreadable front fed piece left count so long = absurd so
length_ends TooLarge front fed piece left count so long = absurd so

pub refused_breaks : (of : BodyLength) (why : RequestFault) (front fed held : List ℕ) (left : ℕ) → IsPartAt of (body_part front fed) left (stage.Unreadable why)
    → BodyBreaks ⊥ why of (front ++ held)
refused_breaks Unreadable fault.Body front fed held left so = tt
refused_breaks TooLarge fault.TooLarge front fed held left so = tt
refused_breaks Unreadable fault.Head front fed held left so = absurd so
refused_breaks Unreadable fault.TooLarge front fed held left so = absurd so
refused_breaks TooLarge fault.Head front fed held left so = absurd so
refused_breaks TooLarge fault.Body front fed held left so = absurd so
refused_breaks (Bytes n) why front fed held left so = absurd so
refused_breaks Chunked why front fed held left so = absurd so

-- ---- what is awaited after a part

data_awaited : (front fed held : List ℕ) (left count : ℕ) → IsPartAt Chunked (body_part front fed) left (Data count) → AwaitsAt (Data count) held
    → AwaitsBody Chunked (front ++ held)
data_awaited front fed held left count so awaits =
    let fits : so.size ≤ so.size + left = omega arith in
    subst (AwaitsBody Chunked) (sym (append_assoc (texts so.chunks ++ so.line) so.got held) ∙ ap (λ l. l ++ held) (sym so.text_is))
    (content_awaited so.chunks (so.size + left) so.each so.sum so.line so.size so.line_is so.some fits (so.got ++ held)
    (awaited_after so.size count so.got so.lacking held awaits))

awaits_at : (of : BodyLength) (front fed held : List ℕ) (left : ℕ) (stage : Stage) → IsPartAt of (body_part front fed) left stage → AwaitsAt stage held
    → AwaitsBody of (front ++ held)
awaits_at (Bytes n) front fed held left (Length count) so short = omega (arith, so.1, short, ap length so.0, length-append front held)
awaits_at Chunked front fed held left SizeLine so awaits =
    subst (λ (l : List ℕ). AwaitsBody Chunked (l ++ held)) (sym so.text_is) (line_awaited so.chunks left so.each so.sum held awaits)
awaits_at Chunked front fed held left (Data count) so awaits = data_awaited front fed held left count so awaits
awaits_at Chunked front fed held left (Trailer seen) so awaits =
    subst (λ (l : List ℕ). AwaitsBody Chunked (l ++ held)) (sym so.text_is)
    (trailer_awaited so.chunks (rest_of so.chunks) so.each (omega (arith, so.small)) so.line so.line_is held awaits.1)
awaits_at Chunked front fed held left (Length count) so awaits = absurd so
awaits_at Chunked front fed held left (stage.Unreadable why) so awaits = absurd so
awaits_at (Bytes n) front fed held left SizeLine so awaits = absurd so
awaits_at (Bytes n) front fed held left (Data count) so awaits = absurd so
awaits_at (Bytes n) front fed held left (Trailer seen) so awaits = absurd so
awaits_at (Bytes n) front fed held left (stage.Unreadable why) so awaits = absurd so
awaits_at Unreadable front fed held left (Length count) so awaits = absurd so
awaits_at Unreadable front fed held left SizeLine so awaits = absurd so
awaits_at Unreadable front fed held left (Data count) so awaits = absurd so
awaits_at Unreadable front fed held left (Trailer seen) so awaits = absurd so
awaits_at Unreadable front fed held left (stage.Unreadable why) so awaits = absurd awaits
awaits_at TooLarge front fed held left (Length count) so awaits = absurd so
awaits_at TooLarge front fed held left SizeLine so awaits = absurd so
awaits_at TooLarge front fed held left (Data count) so awaits = absurd so
awaits_at TooLarge front fed held left (Trailer seen) so awaits = absurd so
awaits_at TooLarge front fed held left (stage.Unreadable why) so awaits = absurd awaits

pub awaits_body : (of : BodyLength) (front fed held : List ℕ) (reader : BodyReader) → IsPart of front fed reader → AwaitsMoreBody reader held
    → AwaitsBody of (front ++ held)
awaits_body of front fed held reader so awaits = awaits_at of front fed held reader.data_left reader.stage so awaits

-- the bytes looked at are seen among more
looked_at : (stage : Stage) (held more : List ℕ) → AwaitsAt stage held → HasLookedAt stage (held ++ more)
looked_at (Length count) held more awaits = tt
looked_at SizeLine held more awaits = tt
looked_at (Data count) held more awaits = tt
looked_at (Trailer seen) held more awaits = (
  omega (arith, awaits.0, length-append held more),
  subst (HasNone IsTrailer) (sym (ap (λ n. take n (held ++ more)) awaits.0 ∙ take-append_seam held more)) awaits.1,
)
looked_at (stage.Unreadable why) held more awaits = absurd awaits

pub has_looked : (reader : BodyReader) (held new more : List ℕ) → new ≡ held ++ more → AwaitsMoreBody reader held → HasLooked reader new
has_looked reader held new more is awaits = subst (HasLooked reader) (sym is) (looked_at reader.stage held more awaits)

-- where the input has ended, there is none
pub ended_breaks : (AtEnd : Type 0) (of : BodyLength) (after : List ℕ) → AwaitsBody of after → AtEnd → BodyBreaks AtEnd fault.Body of after
ended_breaks AtEnd (Bytes n) after short ended = (short, ended)
ended_breaks AtEnd Chunked after awaits ended = inr (ended, awaits.none)
ended_breaks AtEnd Unreadable after awaits ended = tt
ended_breaks AtEnd TooLarge after awaits ended = absurd awaits

pub breaks_anyway : (AtEnd : Type 0) (why : RequestFault) (of : BodyLength) (after : List ℕ) → BodyBreaks ⊥ why of after → BodyBreaks AtEnd why of after
breaks_anyway AtEnd fault.Head of after breaks = breaks
breaks_anyway AtEnd fault.Body (Bytes n) after breaks = absurd breaks.1
breaks_anyway AtEnd fault.Body Chunked after (inl never) = inl never
breaks_anyway AtEnd fault.Body Chunked after (inr ended) = absurd ended.0
breaks_anyway AtEnd fault.Body Unreadable after breaks = tt
breaks_anyway AtEnd fault.Body TooLarge after breaks = absurd breaks
breaks_anyway AtEnd fault.TooLarge of after breaks = breaks

-- ---- one text, and then another

cut_of : (old : ReadBuffer) (count : ℕ) → old ≡ put_back (take count old.held) (record old { held = drop count old.held })
cut_of old count = ap (λ (l : List ℕ). record old { held = l }) (sym (take-append-drop count old.held))

-- so many bytes were taken, and no data are in them
pub text_taken : (old new : ReadBuffer) (was is : BodyReader) (status : Option BodyStatus) (count : ℕ)
    → new ≡ record old { held = drop count old.held }
    → ((of : BodyLength) (front fed : List ℕ) → IsPart of front fed was
    → HasStepOutcome of (body_part (front ++ take count old.held) (fed ++ [])) (sinkless_moment is new) status)
    → ContinuesWithoutData (sinkless_moment was old) (sinkless_moment is new) status
text_taken old new was is status count new_is outcome = record {
  text = take count old.held;
  content = [];
  cut = cut_of old count ∙ ap (put_back (take count old.held)) (sym new_is);
  put = refl;
  outcome = outcome;
}

-- nothing was taken
pub none_taken : (old : ReadBuffer) (was is : BodyReader) (status : Option BodyStatus)
    → ((of : BodyLength) (front fed : List ℕ) → IsPart of front fed was → HasStepOutcome of (body_part front fed) (sinkless_moment is old) status)
    → ContinuesWithoutData (sinkless_moment was old) (sinkless_moment is old) status
none_taken old was is status outcome = record {
  text = [];
  content = [];
  cut = refl;
  put = refl;
  outcome =
      λ of front fed part. subst (λ (l : List ℕ). HasStepOutcome of (body_part l (fed ++ [])) (sinkless_moment is old) status) (sym (append-nil front))
      (subst (λ (l : List ℕ). HasStepOutcome of (body_part front l) (sinkless_moment is old) status) (sym (append-nil fed)) (outcome of front fed part));
}

module _ {S : Type 0} (takes : ByteTransfer S) where
  -- the first bytes were taken and pushed into the sink
  pub data_taken : (old new : ReadBuffer) (before after : S) (was is : BodyReader) (status : Option BodyStatus) (count : ℕ)
      → takes before (take count old.held) after → new ≡ record old { held = drop count old.held }
      → ((of : BodyLength) (front fed : List ℕ) → IsPart of front fed was
      → HasStepOutcome of (body_part (front ++ take count old.held) (fed ++ take count old.held)) (reader_moment is new after) status)
      → ContinuesBody takes (reader_moment was old before) (reader_moment is new after) status
  data_taken old new before after was is status count put new_is outcome =
      record {
        text = take count old.held;
        content = take count old.held;
        cut = cut_of old count ∙ ap (put_back (take count old.held)) (sym new_is);
        put = put;
        outcome = outcome;
      }

  -- an outcome doesn't depend on the sink
  same_outcome : (of : BodyLength) (part : BodyPart) (new : ReadBuffer) (is : BodyReader) (s : S) (status : Option BodyStatus)
      → HasStepOutcome of part (sinkless_moment is new) status → HasStepOutcome of part (reader_moment is new s) status
  same_outcome of part new is s None outcome = outcome
  same_outcome of part new is s (Some Complete) outcome = outcome
  same_outcome of part new is s (Some Partial) outcome = outcome
  same_outcome of part new is s (Some (Invalid why)) outcome = outcome

  pub with_sink : TakesNothing S takes → (old new : ReadBuffer) (s : S) (was is : BodyReader) (status : Option BodyStatus)
      → ContinuesWithoutData (sinkless_moment was old) (sinkless_moment is new) status
      → ContinuesBody takes (reader_moment was old s) (reader_moment is new s) status
  with_sink nothing old new s was is status taken =
      record {
        text = taken.text;
        content = taken.content;
        cut = taken.cut;
        put = subst (λ (l : List ℕ). takes s l s) (sym taken.put) (nothing s);
        outcome =
            λ of front fed part. same_outcome of (body_part (front ++ taken.text) (fed ++ taken.content)) new is s status (taken.outcome of front fed part);
      }

  pub taken_in_turn : TakesJoined S takes → (before mid after : ReaderMoment S) (status : Option BodyStatus)
      → ContinuesBody takes before mid None → ContinuesBody takes mid after status → ContinuesBody takes before after status
  taken_in_turn joined before mid after status first second = record {
    text = first.text ++ second.text;
    content = first.content ++ second.content;
    cut =
        first.cut ∙ ap (put_back first.text) second.cut
        ∙ ap (λ (l : List ℕ). record after.received { held = l }) (sym (append_assoc first.text second.text after.received.held));
    put = joined before.sink mid.sink after.sink first.content second.content first.put second.put;
    outcome = λ of front fed part.
        subst (λ (l : List ℕ). HasStepOutcome of (body_part l (fed ++ (first.content ++ second.content))) after status)
        (append_assoc front first.text second.text)
        (subst (λ (l : List ℕ). HasStepOutcome of (body_part ((front ++ first.text) ++ second.text) l) after status)
        (append_assoc fed first.content second.content)
        (second.outcome of (front ++ first.text) (fed ++ first.content) (first.outcome of front fed part)));
  }

-- the part of a reader whose stage is known
pub at_stage : (of : BodyLength) (front fed : List ℕ) (reader : BodyReader) (stage : Stage) → reader.stage ≡ stage → IsPart of front fed reader
    → IsPartAt of (body_part front fed) reader.data_left stage
at_stage of front fed reader stage is part = subst (λ (s : Stage). IsPartAt of (body_part front fed) reader.data_left s) is part

-- a text that begins the bytes and isn't empty is taken
pub fewer_held : (old new : ReadBuffer) (Is : List ℕ → Type 0) (count : ℕ) → HasNone Is [] → Is (take count old.held) → count ≤ length old.held
    → new ≡ record old { held = drop count old.held }
    → length new.held < length old.held
fewer_held old new Is count none is fits new_is = by (take count old.held) refl
  where
    by : (text : List ℕ) → text ≡ take count old.held → length new.held < length old.held
    by [] e = absurd (none [] [] (subst Is (sym e) is) refl)
    by (x ∷ xs) e =
        omega (arith, fits, ap length e, length-take-le count old.held fits, ap (λ (b : ReadBuffer). length b.held) new_is, length-drop count old.held)

pub some_put : (most : ℕ) (held : List ℕ) (count : ℕ) → count ≡ min (length held) most → length (take count held) ≡ count
some_put most held count is = length-take-le count held (omega (arith, is))
