-- The output of a server, and how it ends.
use Rattle.std.specs.Prelude.{◌≡◌, ℕ, ◌⊎◌, ◌++◌, Bool, false, if◌then◌else◌, List, [], codes, length, map, All}
use Rattle.std.specs.List.{range_with_len, AllZip}
use Rattle.std.specs.Fmt.{decimal}
use Rattle.std.specs.Io.KnownBytes.{Appends}
use Rattle.atomic_table.specs.Seated.{TableId}
use Rattle.trace_model.specs.declared.entry.Entry.{Entry}
use Rattle.trace_model.specs.declared.limits.Limits.{Limits}
use Rattle.session_devices.specs.Traffic.{Traffic}
use Rattle.read_side.specs.Keepers.{Lists}
use Rattle.intake.specs.declared.account.Account.{Account}
use Rattle.intake.specs.Seats.{SeatValue}
use Rattle.intake.specs.Books.{nothing_run, run_state, Ran, AllTaken}
use Rattle.intake.specs.Books.{acknowledged as acknowledged_of, refused as refused_of}
use Rattle.serve_options.specs.declared.host.Host.{Host}
use Rattle.serve_options.specs.Hosts.{url_host}
use Rattle.text_lines.specs.declared.exit_status.ExitStatus.{ExitStatus}
use Rattle.text_lines.specs.declared.exit_status.ExitStatus.TheVariants.{Success, DeviceFailed, OutOfMemory}
use Rattle.text_lines.specs.declared.run_error.RunError.{RunError}
use Rattle.text_lines.specs.RunErrors.{WritesSome, IsWhyOf, status_by}
use Rattle.trace_server.specs.WorkerSeats.{AreNew}
use Rattle.intake.specs.LiveStores.{SeatGoesOn}

-- what the output of a server depends on: its host, the limits of its store, and the number of its workers
pub record Serving : Type 0 where
  pub host : Host
  pub limits : Limits
  pub workers : ℕ

abbrev pub serving_of : Host → Limits → ℕ → Serving
serving_of host limits workers = record { host = host; limits = limits; workers = workers }

-- ---- the lines of its output

abbrev pub listening_line : Host → ℕ → List ℕ
listening_line host port = codes "listening " ++ url_host host ++ codes ":" ++ decimal port ++ codes "\n"

abbrev pub served_line : ℕ → List ℕ
served_line served = codes "served " ++ decimal served ++ codes "\n"

abbrev pub books_line : ℕ → ℕ → ℕ → List ℕ
books_line acknowledged refused unanswered =
    codes "books " ++ decimal acknowledged ++ codes " " ++ decimal refused ++ codes " " ++ decimal unanswered
    ++ codes "\n"

abbrev pub last_lines : ℕ → ℕ → ℕ → ℕ → List ℕ
last_lines served acknowledged refused unanswered =
    served_line served ++ books_line acknowledged refused unanswered

-- ---- what became of the batches

-- how many batches were acknowledged, how many were refused, and how many are unanswered, which are neither
pub record BatchCounts : Type 0 where
  pub acknowledged : ℕ
  pub refused : ℕ
  pub unanswered : ℕ

abbrev pub counts_of : ℕ → ℕ → ℕ → BatchCounts
counts_of acknowledged refused unanswered = record { acknowledged = acknowledged; refused = refused; unanswered = unanswered }

-- A clerk of an empty store judged some jobs, which led to these lists, and some jobs stay unjudged. All jobs of these
-- seats are among them, for each seat complete and in order. The counts are those of the answers, and of the unjudged jobs.
pub record ClosesBooks (limits : Limits) (lists : Lists) (seats : List SeatValue) (counts : BatchCounts) : Type 0 where
  pub judged_jobs : List Entry
  pub accounts : List Account
  pub unjudged_jobs : List Entry
  pub ran : Ran limits nothing_run (run_state judged_jobs accounts lists)
  pub whole : All (λ (s : SeatValue). AllTaken s.seat s.jobs (judged_jobs ++ unjudged_jobs)) seats
  pub acknowledged_is : counts.acknowledged ≡ acknowledged_of accounts
  pub refused_is : counts.refused ≡ refused_of accounts
  pub unanswered_is : counts.unanswered ≡ length unjudged_jobs

-- each worker has one of these seats, the one with its number
abbrev pub OneForEach : ℕ → List SeatValue → Type 0
OneForEach workers seats = map (λ (s : SeatValue). s.seat) seats ≡ range_with_len 0 workers

-- ---- how it ends

-- a worker couldn't accept any more, or all could
abbrev pub status_if : Bool → ExitStatus
status_if failed = if failed then DeviceFailed else Success

-- a prefix of the text was written: the output failed, or memory or threads ran out
abbrev pub StopsIn : Traffic → List ℕ → ExitStatus → Type 0
StopsIn output text status =
    (error : RunError) × (status ≡ status_by error) × WritesSome output.before output.after text × IsWhyOf error output.failed

-- all of the text was written, or a prefix
abbrev pub Ends : Traffic → List ℕ → Bool → ExitStatus → Type 0
Ends output text failed status =
    ((status ≡ status_if failed) × Appends output.before output.after text × (output.failed ≡ false)) ⊎ StopsIn output text status

-- nothing was written, though the output works: memory or threads ran out, or the system didn't return the socket's
-- address
abbrev pub IsSilent : Traffic → ExitStatus → Type 0
IsSilent output status = (status ≡ OutOfMemory) × (output.after ≡ output.before) × (output.failed ≡ false)

-- it stopped before its books were closed
pub record StopsEarly (host : Host) (output : Traffic) (status : ExitStatus) : Type 0 where
  pub port : ℕ
  pub served : ℕ
  pub stops : StopsIn output (listening_line host port ++ served_line served) status

-- the start of a server: what its output depends on, the seats of its workers, and the text that it wrote first
pub record ServerStart : Type 0 where
  pub serving : Serving
  pub opened : List SeatValue
  pub written : List ℕ

-- it closed the books of the seats that the opened ones have become, and wrote the number of connections and the totals
-- of the batches after its first text
pub record Closes (start : ServerStart) (output : Traffic) (status : ExitStatus) : Type 0 where
  pub served : ℕ
  pub failed : Bool
  pub counts : BatchCounts
  pub lists : Lists
  pub seats : List SeatValue
  pub gone_on : AllZip SeatGoesOn start.opened seats
  pub one_for_each : OneForEach start.serving.workers seats
  pub books : ClosesBooks start.serving.limits lists seats counts
  pub ends : Ends output (start.written ++ last_lines served counts.acknowledged counts.refused counts.unanswered) failed status

-- after the listening line: it stopped before its books were closed, or it closed those of the seats that these have become
abbrev pub EndsAfterListening : Serving → List SeatValue → Traffic → ExitStatus → Type 0
EndsAfterListening serving opened output status =
    ((served : ℕ) × StopsIn output (served_line served) status) ⊎ Closes (record { serving = serving; opened = opened; written = [] }) output status

-- it closed its books: its output is the listening line, and at the end the number of connections and the totals of the
-- batches that were submitted by the seats of one desk, which were new at the start
pub record Completes (serving : Serving) (output : Traffic) (status : ExitStatus) : Type 0 where
  pub port : ℕ
  pub desk : TableId
  pub opened : List SeatValue
  pub new : AreNew desk opened
  pub closes : Closes (record { serving = serving; opened = opened; written = listening_line serving.host port }) output status

abbrev pub RunsServer : Serving → Traffic → ExitStatus → Type 0
RunsServer serving output status = IsSilent output status ⊎ StopsEarly serving.host output status ⊎ Completes serving output status
