-- Sessions between an input and an output, and over a connection, in terms of what is known about these and the store.
use Rattle.std.specs.Prelude.{ℕ, Bool, List, ◌++◌, Option}
use Rattle.session_devices.specs.ByteTransfers.{ByteTransfer}
use Rattle.http_requests.specs.AwaitedReads.{Source, source_of}
use Rattle.http_session.specs.Sessions.{Store, Moment, BytesMoment, SessionFailure, EndsAs, FailsAs, last_of, exchange_due}
use Rattle.http_session.specs.ReadTurns.{ReadsInTurn, input_run, ReadsInTurnUpTo}
use Rattle.http_session.specs.ResponseOrder.{ConnectionModel, ConnectionMoment, EndsOnConnection, FailsOnConnection}
use Rattle.http_session.specs.HistoryPoints.{known_at, Related, no_points}
use Rattle.http_session.specs.declared.whole_session.Ended.{Ended}
use Rattle.http_session.specs.declared.whole_session.SessionError.{SessionError}

-- what is known about an input and an output in each of their states
pub record Devices (R W : Type 0) : Type 1 where
  pub source : Source R
  pub in_failed : R → Bool
  pub contents : W → Option (List ℕ)
  pub out_failed : W → Bool

abbrev pub devices_of : {R W : Type 0} → (R → Option (List ℕ)) → ByteTransfer R → (R → Bool) → (W → Option (List ℕ)) → (W → Bool) → Devices R W
devices_of remaining gives in_failed contents out_failed =
    record { source = source_of remaining gives; in_failed = in_failed; contents = contents; out_failed = out_failed }

-- what is known of the bytes of an input and an output at one moment of a session
abbrev pub device_bytes : {R W S : Type 0} → Devices R W → Moment R W S → BytesMoment S
device_bytes devices at =
    record { input = devices.source.remaining at.input; output = devices.contents at.output; store = at.store }

-- the error of a session, and which devices have failed by then
abbrev pub device_failure : {R W S : Type 0} → Devices R W → Moment R W S → SessionError → SessionFailure
device_failure devices at error =
    record { error = error; input_failed = devices.in_failed at.input; output_failed = devices.out_failed at.output }

-- A session between an input and an output ended: what was read and written, and that it read only while the next
-- request was awaited.
abbrev pub EndsOnDevices : {S R W : Type 0} → Store S → Devices R W → Moment R W S → Moment R W S → Ended → Type 0
EndsOnDevices store devices before after ended =
    (ends : EndsAs store (device_bytes devices before) (device_bytes devices after) ended)
    × ReadsInTurn devices.source.gives before.input after.input ends.opens ends.taken

-- like EndsOnDevices, for a session that failed
abbrev pub FailsOnDevices : {S R W : Type 0} → Store S → Devices R W → Moment R W S → Moment R W S → SessionError → Type 0
FailsOnDevices store devices before after error =
    (fails : FailsAs store (device_bytes devices before) (device_bytes devices after) (device_failure devices after error))
    × ReadsInTurnUpTo devices.source (input_run before.input after.input (devices.in_failed after.input)) fails.opens fails.taken fails.made

-- a session ended, and its answers belong to one growing history
abbrev pub EndsOnDevicesInHistory : {S R W : Type 0} → Store S → Devices R W → Moment R W S → Moment R W S → Ended → Type 0
EndsOnDevicesInHistory store devices before after ended =
    (over : EndsOnDevices store devices before after ended)
    × Related (known_at store before.store) no_points (over.0.opens ++ last_of over.0.ending)

-- like EndsOnDevicesInHistory, for a session that failed
abbrev pub FailsOnDevicesInHistory : {S R W : Type 0} → Store S → Devices R W → Moment R W S → Moment R W S → SessionError → Type 0
FailsOnDevicesInHistory store devices before after error =
    (over : FailsOnDevices store devices before after error)
    × Related (known_at store before.store) no_points (over.0.opens ++ exchange_due over.0.next)

-- A session over a connection ended: as in EndsOnDevicesInHistory, and before each read the responses to all earlier
-- requests were written.
abbrev pub EndsOnConnectionInHistory : {S C : Type 0} → Store S → ConnectionModel C → ConnectionMoment C S → ConnectionMoment C S → Ended → Type 0
EndsOnConnectionInHistory store model before after ended =
    (over : EndsOnConnection store model before after ended)
    × Related (known_at store before.store) no_points (over.0.opens ++ last_of over.0.ending)

-- like EndsOnConnectionInHistory, for a session that failed
abbrev pub FailsOnConnectionInHistory : {S C : Type 0} → Store S → ConnectionModel C → ConnectionMoment C S → ConnectionMoment C S → SessionError → Type 0
FailsOnConnectionInHistory store model before after error =
    (over : FailsOnConnection store model before after error)
    × Related (known_at store before.store) no_points (over.0.opens ++ exchange_due over.0.next)
