-- A worker's connections, which share its seat and its pass.
use mathlib.Core.List.{IsPrefix}
use Rattle.slab.specs.Slab.{Slab}
use Rattle.trace_model.specs.declared.limits.Limits.{Limits}
use Rattle.http_session.specs.Sessions.{Store, store_of}
use Rattle.http_session.specs.KnownRefusals.{RefusalsAreKnown}
use Rattle.intake.specs.LiveStores.{LiveValue, LiveKnows, LiveSubmits, LiveReads}
use Rattle.open_connections.specs.OpenConnections.{AllOpen, HasCome, socket_model}
use Rattle.open_connections.specs.ConnectionRefusals.{exchanges_of}
use Rattle.open_connections.specs.declared.open.ConnectionProgress.{ConnectionProgress}
use Rattle.open_connections.specs.declared.open.OpenConnection.{OpenConnection}
use Rattle.open_connections.specs.declared.socket.Socket.{Socket}

-- what a store with these limits does over a seat and a pass
abbrev pub live_store : Limits → Store LiveValue
live_store limits = store_of (LiveSubmits limits) (LiveReads limits) (LiveKnows limits) (λ _. limits)

-- The session of each connection is underway from its start, over the present state of this seat and this pass.
abbrev pub AllUnderway : Limits → LiveValue → Slab (OpenConnection Socket) → Type 0
AllUnderway limits live connections = AllOpen (live_store limits) socket_model live connections

-- Each batch of a connection that was refused by JournalFull, Stale or Conflict was refused by a legal prefix of
-- `refused_by`, as that is then or later (LiveKnows).
abbrev pub RefusalsAreByPrefixes : Limits → Type 0
RefusalsAreByPrefixes limits =
    (now later : LiveValue) (it : OpenConnection Socket) (progress : ConnectionProgress) (came : HasCome (live_store limits) socket_model now it progress)
    → IsPrefix now.known later.known → IsPrefix now.refused_by later.refused_by
    → RefusalsAreKnown (LiveKnows limits) later (exchanges_of (live_store limits) socket_model now it progress came)
