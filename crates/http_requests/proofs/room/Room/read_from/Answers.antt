use Rattle.std.proofs.Common.{◌≡◌, ℕ, List, ◌≤◌, ◌+◌, ◌-◌, ◌∙◌, length, take, slice_range, ap, sym, arith, rules}
use Rattle.std.proofs.lemmas.List.{with_items_is, places}
use Rattle.std.specs.Vec.{with_items}
use borrow.Rule.Slice.PartMut.{put_mid}
use Rattle.http_requests.specs.declared.room.TheConstants.{READ_BYTES}
use Rattle.http_requests.proofs.Rooms.{grown, kept}
use Rattle.http_requests.proofs.AwaitedReads.{any_err}
use Rattle.http_requests.proofs.room.Room.read_from.Goals as goal

pub returns-in_err-count-clause-same : goal.returns-in_err-count-clause-same
returns-in_err-count-clause-same g c =
    let r = c.args.self.now in
    let all = c.as_mut_slice.result.now in
    let size = r.end + READ_BYTES - r.end in
    let after = put_mid r.end size all c.read.new.buf in
    let whole : (with_items r.bytes after).items ≡ after = with_items_is r.bytes after (search (rules, places)) in
    let same : after ≡ put_mid r.end size r.bytes.items c.read.new.buf =
    ap (λ (l : List ℕ). put_mid r.end size l c.read.new.buf) c.as_mut_slice.ensures.value in
    let within : r.end ≤ length r.bytes.items = omega (arith, r.within, ap length c.as_mut_slice.ensures.value, c.as_mut_slice.ensures.len) in
    any_err c.from_residual.result
    (ap (λ (l : List ℕ). slice_range l r.start r.end) (whole ∙ same) ∙ kept r.bytes.items c.read.new.buf r.start r.end size r.ordered within)

pub returns-clause-ok : goal.returns-clause-ok
returns-clause-ok g c =
    let r = c.args.self.now in
    let n = c.in_ok-count.count in
    let bound = c.in_ok-count.ensures.bound in
    let bytes = c.in_ok-count.ensures.bytes in
    let long : length c.read.new.buf ≡ READ_BYTES = search rules in
    let all = c.as_mut_slice.result.now in
    let size = r.end + READ_BYTES - r.end in
    let after = put_mid r.end size all c.read.new.buf in
    let whole : (with_items r.bytes after).items ≡ after = with_items_is r.bytes after (search (rules, places)) in
    let same : after ≡ put_mid r.end size r.bytes.items c.read.new.buf =
    ap (λ (l : List ℕ). put_mid r.end size l c.read.new.buf) c.as_mut_slice.ensures.value in
    let within : r.end ≤ length r.bytes.items = omega (arith, r.within, ap length c.as_mut_slice.ensures.value, c.as_mut_slice.ensures.len) in
    record {
      piece = take n c.read.new.buf;
      size = sym bound.1;
      most = omega (arith, bound.0, long);
      grown =
          ap (λ (l : List ℕ). slice_range l r.start (r.end + n)) (whole ∙ same)
          ∙ grown r.bytes.items c.read.new.buf r.start r.end size n r.ordered within bound.0;
      read = bytes.0;
      piece_given = c.in_ok-count.ensures.given;
      end = λ none. bytes.1 none (omega (arith, long));
    }
