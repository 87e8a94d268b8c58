use Rattle.std.proofs.Common.{◌∙◌, ℕ, ◌≤◌, length, take, refl, sym, subst, arith}
use Rattle.std.proofs.lemmas.Result.{err_from_is_err_and}
use Rattle.http_requests.specs.Heads.{AwaitsHead}
use Rattle.http_requests.specs.PartialRequests.{HasSeen}
use Rattle.http_requests.specs.LineLaws.{no_bytes_await}
use Rattle.http_requests.specs.AwaitedReads.{source_of}
use Rattle.http_requests.specs.declared.reading.HeadWait.{HeadWait}
use Rattle.http_requests.proofs.Readings.{nothing_yet, reads_more, stops_there, seen_stays, fits_still}
use Rattle.http_requests.proofs.WholeRequests.{finds_head}
use Rattle.http_requests.proofs.reading.next_head.Goals as goal

pub reads-init : goal.reads-init
reads-init g c = (
  nothing_yet (source_of g.R.Input.remaining g.R.Input.gives) AwaitsHead _ _,
  refl,
  subst (λ (w : HeadWait). HasSeen w c.args.received.now.held) (sym c.new-wait.ensures) (omega arith, no_bytes_await),
)

pub returns-in-Complete-clause-found : goal.returns-in-Complete-clause-found
returns-in-Complete-clause-found g c =
    finds_head (source_of g.R.Input.remaining g.R.Input.gives) _ _ _ _ _ _ c.reads.invariant.0 c.in-Complete.ensures.found c.as_slice.ensures

pub reads-preserved : goal.reads-preserved
reads-preserved g c =
    let so = c.reads.invariant in
    let read = c.in_ok-read_more-in-Partial.ensures.read in
    let awaits = c.in-Partial.ensures.found in
    let seen = c.in-Partial.ensures.seen in (
      reads_more (source_of g.R.Input.remaining g.R.Input.gives)
          AwaitsHead _ _ _ _ _ _ _ so.0 c.as_slice.ensures awaits c.in_ok-read_more-in-Partial.ensures.ok read,
      c.in_ok-read_more-in-Partial.ensures.same ∙ so.1,
      (
        subst (λ (n : ℕ). n ≤ length c.read_more.new.self.held) (sym seen) (fits_still _ _ _ read.0 c.as_slice.ensures read.2),
        subst (λ (n : ℕ). AwaitsHead (take n c.read_more.new.self.held)) (sym seen) (seen_stays AwaitsHead _ _ _ read.0 c.as_slice.ensures read.2 awaits),
      ),
    )

pub returns-in_err-read_more-in-Partial-clause-err : goal.returns-in_err-read_more-in-Partial-clause-err
returns-in_err-read_more-in-Partial-clause-err g c =
    let p = err_from_is_err_and c.from_residual.result c.from_residual.ensures.1 in
    rw (p.1, p.2) (stops_there (source_of g.R.Input.remaining g.R.Input.gives) AwaitsHead _ _ _ _ _ _ _ _
    c.reads.invariant.0 c.as_slice.ensures c.in-Partial.ensures.found c.in_err-read_more-in-Partial.ensures.err)
