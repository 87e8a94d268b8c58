use Rattle.std.proofs.Common.{◌<◌, ◌≤◌, ℕ, take, subst, arith}
use Rattle.http_requests.specs.Chunks.{IsSizeLine, IsSomeSizeLine}
use Rattle.http_requests.specs.LineLaws.{no_line_yet}
use Rattle.http_requests.proofs.Parts.{text_taken, none_taken, at_stage, fewer_held, line_passes, line_then_data, line_then_trailer, no_line_comes}
use Rattle.http_requests.proofs.body_reader.BodyReader.take_size_line.Goals as goal

pub returns-then-size-self-clause-took : goal.returns-then-size-self-clause-took
returns-then-size-self-clause-took c =
    let line = rw c.as_slice.ensures at c.in-Complete.ensures in
    text_taken _ _ _ _ _ c.in-Complete.length c.take.ensures
    (λ of front fed part. line_passes of front fed _ _ c.args.self.now.data_left c.in-Complete.size
    (at_stage of front fed c.args.self.now _ c.requires.stage part) line.0 c.if-size-self.true)

pub returns-then-size-eq0-clause-took : goal.returns-then-size-eq0-clause-took
returns-then-size-eq0-clause-took c =
    let line = rw c.as_slice.ensures at c.in-Complete.ensures in
    let last = subst (λ (n : ℕ). IsSizeLine (take c.in-Complete.length c.args.received.now.held) n) c.if-size-eq0.true line.0 in
    text_taken _ _ _ _ _ c.in-Complete.length c.take.ensures
    (λ of front fed part. line_then_trailer of front fed _ _ (at_stage of front fed c.args.self.now _ c.requires.stage part) last)

pub returns-else-size-eq0-clause-took : goal.returns-else-size-eq0-clause-took
returns-else-size-eq0-clause-took c =
    let line = rw c.as_slice.ensures at c.in-Complete.ensures in
    let some : 0 < c.in-Complete.size = omega (arith, c.if-size-eq0.false) in
    let fits : c.in-Complete.size ≤ c.args.self.now.data_left = omega (arith, c.if-size-self.false) in
    text_taken _ _ _ _ _ c.in-Complete.length c.take.ensures
    (λ of front fed part. line_then_data of front fed _ _ c.in-Complete.size (at_stage of front fed c.args.self.now _ c.requires.stage part) line.0 some fits)

pub returns-in-Invalid-clause-took : goal.returns-in-Invalid-clause-took
returns-in-Invalid-clause-took c =
    let never = rw c.as_slice.ensures at c.in-Invalid.ensures in
    none_taken _ _ _ _ (λ of front fed part. no_line_comes of front fed _ _ (at_stage of front fed c.args.self.now _ c.requires.stage part) never)

pub returns-then-size-eq0-clause-fewer : goal.returns-then-size-eq0-clause-fewer
returns-then-size-eq0-clause-fewer c =
    let line = rw c.as_slice.ensures at c.in-Complete.ensures in
    fewer_held _ _ IsSomeSizeLine c.in-Complete.length no_line_yet.0 (c.in-Complete.size, line.0) line.1 c.take.ensures

pub returns-else-size-eq0-clause-fewer : goal.returns-else-size-eq0-clause-fewer
returns-else-size-eq0-clause-fewer c =
    let line = rw c.as_slice.ensures at c.in-Complete.ensures in
    fewer_held _ _ IsSomeSizeLine c.in-Complete.length no_line_yet.0 (c.in-Complete.size, line.0) line.1 c.take.ensures
