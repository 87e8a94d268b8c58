-- A head at the start of bytes, and the body after it.
use Rattle.std.proofs.Common.{◌≡◌, ℕ, ◌+◌, ◌-◌, ◌==◌, ◌||◌, ◌≤◌, Bool, List, ◌++◌, length, take, drop, slice_range, refl, sym, ap, ◌∙◌, subst, arith}
use Rattle.std.proofs.Common.{length-append}
use Rattle.std.proofs.lemmas.List.{drop-append-le, take-append-le, length-drop}
use Rattle.std.proofs.Math.Seq.{take-append_seam}
use Rattle.httparse.specs.Grammar.{RequestHead, print_request}
use Rattle.httparse.specs.declared.spans.RequestSpans.{RequestSpans}
use Rattle.httparse.specs.declared.spans.HeaderSpan.{HeaderSpan}
use Rattle.http_requests.specs.Heads.{TakesHead, IsWholeHead, AwaitsHead}
use Rattle.http_requests.specs.declared.request.Method.{Method}
use Rattle.http_requests.specs.HeadContents.{asked_by, pairs_of, method_of, has_batch_type, closes_by}
use Rattle.http_requests.specs.AwaitedReads.{Source}
use Rattle.http_requests.specs.ReceivedBytes.{ReadBuffer, ReadsOnWhile, read_moment}
use Rattle.http_requests.specs.HeadSearches.{FindsHead}
use Rattle.http_requests.specs.FramedHeads.{Frames}
use Rattle.http_requests.specs.declared.request.FoundHead.{FoundHead}

-- a part of the start, whatever follows that
pub slice_of_prefix : (prefix more : List ℕ) (start end : ℕ) → start ≤ end → end ≤ length prefix
    → slice_range (prefix ++ more) start end ≡ slice_range prefix start end
slice_of_prefix prefix more start end ordered inside =
    ap (take (end - start)) (drop-append-le start prefix more (omega arith))
    ∙ take-append-le (end - start) (drop start prefix) more (omega (arith, length-drop start prefix))

pub target_is : (bytes : List ℕ) (headers : List HeaderSpan) (spans : RequestSpans) (w : IsWholeHead bytes headers spans)
    → w.head.target ≡ slice_range (print_request w.head) spans.path.start spans.path.end
target_is bytes headers spans w =
    let ends : spans.path.end ≤ length (print_request w.head) = omega (arith, w.within.path.1, w.at.len) in
    sym w.at.path ∙ ap (λ l. slice_range l spans.path.start spans.path.end) w.at.reads.1
    ∙ slice_of_prefix (print_request w.head) (drop spans.len w.prefix) spans.path.start spans.path.end w.within.path.0 ends

pub same_asked : (h : RequestHead) (m : Method) (t : List ℕ) (b c : Bool) → m ≡ method_of h.method → h.target ≡ t → b ≡ has_batch_type (pairs_of h)
    → c ≡ (h.minor == 0 || closes_by (pairs_of h)) → asked_by h ≡ record { method = m; target = t; has_batch_type = b; closes = c }
same_asked h m t b c em et eb ec = rw (em, sym et, eb, ec) refl

-- the head at the start, which is taken
pub head_cut : (bytes : List ℕ) (len : ℕ) (h : RequestHead) → TakesHead bytes h (drop len bytes) → len ≤ length bytes → take len bytes ≡ print_request h
head_cut bytes len h takes fits =
    let whole : length bytes ≡ length (print_request h) + length (drop len bytes) =
    ap length takes.reads.1 ∙ length-append (print_request h) (drop len bytes) in
    let is : len ≡ length (print_request h) = omega (arith, whole, fits, length-drop len bytes) in
    ap (take len) takes.reads.1 ∙ ap (λ k. take k (print_request h ++ drop len bytes)) is ∙ take-append_seam (print_request h) (drop len bytes)

pub finds_head : {R : Type 0} (source : Source R) (s t : R) (old here : ReadBuffer) (bytes : List ℕ) (found : FoundHead)
    → ReadsOnWhile source AwaitsHead (read_moment s old) (read_moment t here) → Frames bytes found → bytes ≡ here.held
    → FindsHead source (read_moment s old) (read_moment t here) found
finds_head source s t old here bytes found reads framed are =
    let frames : Frames here.held found = subst (λ (l : List ℕ). Frames l found) are framed in
    record {
      is =
          record {
            head = frames.head;
            is = frames.takes.reads.0;
            bytes_are = head_cut here.held found.len frames.head frames.takes frames.fits;
            describes = frames.describes;
          };
      takes = frames.takes;
      inside = frames.fits;
      body_length_is = frames.body_length_is;
      reads = reads;
    }
