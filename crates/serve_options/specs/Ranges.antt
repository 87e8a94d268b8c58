-- The ranges of a server's options. The numbers are written out on purpose: they are a second statement of the constants
-- in src/options.rt, so a constant that changes by itself is refused.
use Rattle.std.specs.Prelude.{ℕ, ◌<◌, ◌≤◌, ◌^◌}
use Rattle.serve_options.specs.declared.options.RequestedOptions.{RequestedOptions}

-- the greatest number of threads that serve connections
abbrev pub max_workers : ℕ
max_workers = 64

-- the greatest number of batches that may wait to be accepted
abbrev pub max_queue : ℕ
max_queue = 4096

-- the greatest number of open connections
abbrev pub max_connections : ℕ
max_connections = 65536

-- the greatest number of seconds: a day
abbrev pub max_seconds : ℕ
max_seconds = 86400

-- A port and a number of sessions may have any value of their types.
abbrev pub AreOptionsWithin : RequestedOptions → Type 0
AreOptionsWithin o =
    (o.port < 2 ^ 16) × (1 ≤ o.workers) × (o.workers ≤ max_workers) × (1 ≤ o.queue) × (o.queue ≤ max_queue)
    × (o.sessions < 2 ^ 32) × (1 ≤ o.connections) × (o.connections ≤ max_connections) × (o.idle ≤ max_seconds) × (o.report ≤ max_seconds)
