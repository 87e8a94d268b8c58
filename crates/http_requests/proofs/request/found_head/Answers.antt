use Rattle.std.proofs.Common.{◌≡◌, ◌==◌, ◌||◌, map, length, take, drop, slice_range, sym, ap, ◌∙◌, arith, length-append}
use Rattle.httparse.specs.Grammar.{print_request}
use Rattle.httparse.specs.Spans.{header_bytes}
use Rattle.http_requests.specs.HeadContents.{pairs_of, method_of, has_batch_type, closes_by, body_by}
use Rattle.http_requests.proofs.WholeRequests.{target_is, same_asked}
use Rattle.http_requests.proofs.request.found_head.Goals as goal

pub returns : goal.returns
returns c =
    let w = c.requires in
    let e : w.prefix ≡ c.prefix_of-prefix.result.now = w.prefix_is ∙ sym c.prefix_of-prefix.ensures in
    let pairs : c.new-fields.result ≡ pairs_of w.head =
    c.new-fields.ensures ∙ ap (λ l. map (header_bytes l) (take c.args.spans.headers c.args.headers.now)) (sym e) ∙ w.at.fields in
    let method : c.method_of.result ≡ method_of w.head.method =
    c.method_of.ensures ∙ ap method_of (c.of.ensures ∙ ap (λ l. slice_range l c.args.spans.method.start c.args.spans.method.end) (sym e) ∙ w.at.method) in
    let batch : c.has_batch_type.result ≡ has_batch_type (pairs_of w.head) = c.has_batch_type.ensures ∙ ap has_batch_type pairs in
    let closing : c.closes.result ≡ (w.head.minor == 0 || closes_by (pairs_of w.head)) =
    c.closes.ensures ∙ ap (λ v. v == 0 || closes_by c.new-fields.result) w.at.version ∙ ap (λ ps. w.head.minor == 0 || closes_by ps) pairs in
    record {
      head = w.head;
      takes = w.takes;
      describes = record {
        asked = same_asked w.head _ _ _ _ method (target_is _ _ _ w) batch closing;
        ordered = w.within.path.0;
        inside = omega (arith, w.within.path.1, w.at.len);
      };
      body_length_is = c.body_length.ensures.length ∙ ap body_by pairs;
      bounded = c.body_length.ensures.bound;
      fits = omega (arith, w.at.len, ap length w.takes.reads.1, length-append (print_request w.head) (drop c.args.spans.len c.args.bytes.now));
    }
