-- How a server ends, from how its lines were written.
use Rattle.std.proofs.Common.{◌≡◌, ℕ, ◌++◌, inl, inr, Bool, false, List, [], Option, Result, Ok, Err, refl}
use Rattle.std.proofs.lemmas.List.{append-nil}
use Rattle.std.specs.Io.KnownBytes.{Appends}
use Rattle.std.proofs.KnownBytes.{Appends-trans}
use Rattle.atomic_table.specs.Seated.{TableId}
use Rattle.intake.specs.Seats.{SeatValue}
use Rattle.serve_options.specs.declared.host.Host.{Host}
use Rattle.session_devices.specs.Traffic.{Traffic}
use Rattle.text_lines.specs.RunErrors.{WritesSome, IsWhyOf, WritesText, status_by}
use Rattle.text_lines.specs.declared.exit_status.ExitStatus.{ExitStatus}
use Rattle.text_lines.specs.declared.exit_status.ExitStatus.TheVariants.{OutOfMemory}
use Rattle.text_lines.specs.declared.run_error.RunError.{RunError}
use Rattle.text_lines.specs.declared.run_error.RunError.TheVariants.{Memory}
use Rattle.text_lines.proofs.Buffers.{moves_nothing, some_written}
use Rattle.text_lines.proofs.CompleteRuns.{some_after, some_more}
use Rattle.trace_server.specs.WorkerSeats.{AreNew}
use Rattle.trace_server.specs.ServerRuns.{StopsIn, Ends, StopsEarly, Serving, EndsAfterListening, RunsServer, listening_line, served_line, last_lines}

none_written : (a : Option (List ℕ)) (text : List ℕ) → WritesSome a a text
none_written a text = some_written a a text text (moves_nothing a text)

abbrev passing : Option (List ℕ) → Option (List ℕ) → Bool → Traffic
passing before after failed = record { before = before; after = after; failed = failed }

all_written : (a b : Option (List ℕ)) (text : List ℕ) → Appends a b text → WritesSome a b text
all_written a b text all = (text, all, ([], append-nil text))

-- the second of two lines was said, or was not
pub said_both : (a b c : Option (List ℕ)) (failed : Bool) (first second : List ℕ) (r : Result (Unit {0}) RunError) → Appends a b first
    → WritesText (passing b c failed) second r → WritesText (passing a c failed) (first ++ second) r
said_both a b c failed first second (Ok u) said s = (Appends-trans a b c first second said s.0, s.1)
said_both a b c failed first second (Err h) said s = (some_after a b c first second said s.0, s.1)

-- the first of two lines was not said whole
pub said_some : (a b : Option (List ℕ)) (failed : Bool) (first second : List ℕ) (h : RunError) → WritesSome a b first → IsWhyOf h failed
    → WritesSome a b (first ++ second) × IsWhyOf h failed
said_some a b failed first second h some why = (some_more a b first second (first ++ second) refl some, why)

-- a text was not written whole
pub stopped : (a b : Option (List ℕ)) (failed : Bool) (text : List ℕ) (h : RunError) (status : ExitStatus) → status ≡ status_by h → WritesSome a b text
    × IsWhyOf h failed → StopsIn (passing a b failed) text status
stopped a b failed text h status is w = (h, is, w.0, w.1)

-- all of it was written, and then memory ran out
pub wanting : (a b : Option (List ℕ)) (failed : Bool) (text : List ℕ) (status : ExitStatus) → status ≡ OutOfMemory → Appends a b text → failed ≡ false
    → StopsIn (passing a b failed) text status
wanting a b failed text status is all works = (Memory, is, all_written a b text all, works)

-- nothing was written, where memory or threads ran out
pub broken_off : (a : Option (List ℕ)) (failed : Bool) (text : List ℕ) (status : ExitStatus) → status ≡ OutOfMemory → failed ≡ false
    → StopsIn (passing a a failed) text status
broken_off a failed text status is works = (Memory, is, none_written a text, works)

-- the first line was not written whole
pub unheard : (a b : Option (List ℕ)) (failed : Bool) (host : Host) (port : ℕ) (h : RunError) (status : ExitStatus) → status ≡ status_by h
    → WritesSome a b (listening_line host port) × IsWhyOf h failed → StopsEarly host (passing a b failed) status
unheard a b failed host port h status is w = record {
  port = port;
  served = 0;
  stops = (h, is, some_more a b (listening_line host port) (served_line 0) (listening_line host port ++ served_line 0) refl w.0, w.1);
}

stopped_after : (a b c : Option (List ℕ)) (failed : Bool) (first text : List ℕ) (status : ExitStatus) → Appends a b first
    → StopsIn (passing b c failed) text status
    → StopsIn (passing a c failed) (first ++ text) status
stopped_after a b c failed first text status said s = (s.0, s.1, some_after a b c first text said s.2, s.3)

ended_after : (a b c : Option (List ℕ)) (failed : Bool) (first text : List ℕ) (lost : Bool) (status : ExitStatus) → Appends a b first
    → Ends (passing b c failed) text lost status → Ends (passing a c failed) (first ++ text) lost status
ended_after a b c failed first text lost status said (inl all) = inl (all.0, Appends-trans a b c first text said all.1, all.2)
ended_after a b c failed first text lost status said (inr some) = inr (stopped_after a b c failed first text status said some)

-- it listened, and then ended
pub listened_and_ended : (serving : Serving) (desk : TableId) (opened : List SeatValue) (a b c : Option (List ℕ)) (failed : Bool) (port : ℕ)
    (status : ExitStatus)
    → AreNew desk opened → Appends a b (listening_line serving.host port)
    → EndsAfterListening serving opened (passing b c failed) status
    → RunsServer serving (passing a c failed) status
listened_and_ended serving desk opened a b c failed port status new said (inl early) = inr (inl (record {
  port = port;
  served = early.0;
  stops = stopped_after a b c failed (listening_line serving.host port) (served_line early.0) status said early.1;
}))
listened_and_ended serving desk opened a b c failed port status new said (inr closes) = inr (inr (record {
  port = port;
  desk = desk;
  opened = opened;
  new = new;
  closes = record {
    served = closes.served;
    failed = closes.failed;
    counts = closes.counts;
    lists = closes.lists;
    seats = closes.seats;
    gone_on = closes.gone_on;
    one_for_each = closes.one_for_each;
    books = closes.books;
    ends =
        ended_after a b c failed (listening_line serving.host port)
        (last_lines closes.served closes.counts.acknowledged closes.counts.refused closes.counts.unanswered)
        closes.failed status said closes.ends;
  };
}))
