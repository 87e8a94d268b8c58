-- The contract of a session's call implies the premises of the laws on sessions.
use Rattle.std.proofs.Common.{◌≡◌, ℕ, Bool, List, ◌++◌, take, Option, Some, None, refl, ap}
use Rattle.trace_model.specs.LimitedHistories.{LimitedHistory}
use Rattle.pipe_session.specs.DirectCalls.{direct_store}
use Rattle.http_session.specs.Sessions.{moment, EndsAs, FailsAs, last_of, responses, exchange_due, bytes_due}
use Rattle.http_session.specs.declared.whole_session.EndReason.{EndReason}
use Rattle.http_session.specs.declared.whole_session.SessionError.{SessionError}
use Rattle.pipe_session.specs.OneFunction.{NeverWants, Finished, Failed}
use Rattle.pipe_session.proofs.Prefixes.{spoken}

pub finished : (bytes before : List ℕ) (left out : Option (List ℕ)) (s t : LimitedHistory) (n : ℕ) (c : EndReason)
    (ends : EndsAs direct_store (moment (Some bytes) (Some before) s) (moment left out t) (record { answered = n; reason = c }))
    → NeverWants (ends.opens ++ last_of ends.ending)
    → (written : List ℕ) × (out ≡ Some (before ++ written))
    × Finished bytes s (record { written = written; held = t; ended = record { answered = n; reason = c } })
finished bytes before left None s t n c ends memory = absurd ends.written
finished bytes before left (Some after) s t n c ends memory = (
  spoken ends.opens ends.ending,
  ap Some ends.written,
  record {
    before = before;
    left = left;
    ends = record {
      taken = ends.taken;
      opens = ends.opens;
      ending = ends.ending;
      rest = ends.rest;
      read = ends.read;
      split = ends.split;
      each = ends.each;
      ends = ends.ends;
      run = ends.run;
      written = refl;
      count = ends.count;
      reason_is = ends.reason_is;
    };
    memory = memory;
  },
)

pub failed : (bytes before : List ℕ) (left out : Option (List ℕ)) (s t : LimitedHistory) (i o : Bool) (error : SessionError)
    (fails : FailsAs direct_store (moment (Some bytes) (Some before) s) (moment left out t)
    (record { error = error; input_failed = i; output_failed = o }))
    → NeverWants (fails.opens ++ exchange_due fails.next) → (written : List ℕ) × (out ≡ Some (before ++ written)) × Failed bytes s written
failed bytes before left None s t i o error fails memory = absurd fails.written
failed bytes before left (Some after) s t i o error fails memory = (
  responses fails.opens ++ take error.written (bytes_due fails.next),
  ap Some fails.written,
  record {
    before = before;
    left = left;
    held = t;
    in_failed = i;
    out_failed = o;
    error = error;
    fails = record {
      taken = fails.taken;
      opens = fails.opens;
      next = fails.next;
      rest = fails.rest;
      read = fails.read;
      split = fails.split;
      each = fails.each;
      next_is = fails.next_is;
      run = fails.run;
      within = fails.within;
      written = refl;
      count = fails.count;
      made = fails.made;
      cause = fails.cause;
      unwritten = fails.unwritten;
      spared = fails.spared;
    };
    memory = memory;
  },
)
