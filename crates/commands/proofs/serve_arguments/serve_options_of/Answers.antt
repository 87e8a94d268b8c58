use Rattle.std.proofs.Common.{◌≡◌, ◌<◌, arith, codes, false, true}
use Rattle.clap.specs.Words.{found_of, rows_of}
use Rattle.commands.proofs.Options.{number_read, number_there, one_number, serve_options_read}
use Rattle.commands.proofs.serve_arguments.serve_options_of.Goals as goal

pub returns-clause-given : goal.returns-clause-given
returns-clause-given c =
    let f = found_of c.args.matches.now in
    serve_options_read (rows_of f) c.in_ok-limits.limits c.args.host c.in_ok-port.port c.in_ok-workers.workers c.in_ok-queue.queue c.in_ok-sessions.sessions
    c.in_ok-connections.connections c.in_ok-idle.idle c.in_ok-report.report c.new.result
    c.in_ok-limits.ensures.given
    c.requires
    (number_read f (codes "port") 65536 _ _ c.in_ok-port.ensures.none c.in_ok-port.ensures.value)
    (number_read f (codes "workers") 65536 _ _ c.in_ok-workers.ensures.none c.in_ok-workers.ensures.value)
    (number_read f (codes "queue") 65536 _ _ c.in_ok-queue.ensures.none c.in_ok-queue.ensures.value)
    (number_read f (codes "sessions") 4294967296 _ _ c.in_ok-sessions.ensures.none c.in_ok-sessions.ensures.value)
    (number_read f (codes "connections") 4294967296 _ _ c.in_ok-connections.ensures.none c.in_ok-connections.ensures.value)
    (number_read f (codes "idle") 4294967296 _ _ c.in_ok-idle.ensures.none c.in_ok-idle.ensures.value)
    (number_read f (codes "report") 4294967296 _ _ c.in_ok-report.ensures.none c.in_ok-report.ensures.value)
    c.new.ensures.keeps c.new.ensures.listens c.new.ensures.holds c.new.ensures.admits c.new.ensures.ends c.new.ensures.reports

pub returns-in_err-limits-clause-found : goal.returns-in_err-limits-clause-found
returns-in_err-limits-clause-found c options has =
    let bad : false ≡ true = c.in_err-limits.ensures.found options.limits has.limits in absurd cc

pub returns-in_err-port-clause-found : goal.returns-in_err-port-clause-found
returns-in_err-port-clause-found c options has =
    let below : options.port < 65536 = omega (arith, options.within) in
    absurd (number_there (found_of c.args.matches.now) (codes "port") 65536 options.port (λ t e. (c.in_err-port.ensures.value t e).1.0) has.port below)

pub returns-in_err-workers-clause-found : goal.returns-in_err-workers-clause-found
returns-in_err-workers-clause-found c options has =
    let below : options.workers < 65536 = omega (arith, options.within) in
    absurd (number_there (found_of c.args.matches.now) (codes "workers") 65536 options.workers
    (λ t e. (c.in_err-workers.ensures.value t e).1.0) has.workers below)

pub returns-in_err-queue-clause-found : goal.returns-in_err-queue-clause-found
returns-in_err-queue-clause-found c options has =
    let below : options.queue < 65536 = omega (arith, options.within) in
    absurd (number_there (found_of c.args.matches.now) (codes "queue") 65536 options.queue (λ t e. (c.in_err-queue.ensures.value t e).1.0) has.queue below)

pub returns-in_err-sessions-clause-found : goal.returns-in_err-sessions-clause-found
returns-in_err-sessions-clause-found c options has =
    let below : options.sessions < 4294967296 = omega (arith, options.within) in
    absurd (number_there (found_of c.args.matches.now) (codes "sessions") 4294967296 options.sessions
    (λ t e. (c.in_err-sessions.ensures.value t e).1.0) has.sessions below)

pub returns-in_err-connections-clause-found : goal.returns-in_err-connections-clause-found
returns-in_err-connections-clause-found c options has =
    let below : options.connections < 4294967296 = omega (arith, options.within) in
    absurd (number_there (found_of c.args.matches.now) (codes "connections") 4294967296 options.connections
    (λ t e. (c.in_err-connections.ensures.value t e).1.0) has.connections below)

pub returns-in_err-idle-clause-found : goal.returns-in_err-idle-clause-found
returns-in_err-idle-clause-found c options has =
    let below : options.idle < 4294967296 = omega (arith, options.within) in
    absurd (number_there (found_of c.args.matches.now) (codes "idle") 4294967296 options.idle (λ t e. (c.in_err-idle.ensures.value t e).1.0) has.idle below)

pub returns-in_err-report-clause-found : goal.returns-in_err-report-clause-found
returns-in_err-report-clause-found c options has =
    let below : options.report < 4294967296 = omega (arith, options.within) in
    absurd (number_there (found_of c.args.matches.now) (codes "report") 4294967296 options.report
    (λ t e. (c.in_err-report.ensures.value t e).1.0) has.report below)

pub returns-clause-found : goal.returns-clause-found
returns-clause-found c options has =
    let f = found_of c.args.matches.now in
    let port = one_number (rows_of f) (codes "port") _ _ (number_read f (codes "port") 65536 _ _ c.in_ok-port.ensures.none c.in_ok-port.ensures.value)
    has.port in
    let workers = one_number (rows_of f) (codes "workers") _ _
    (number_read f (codes "workers") 65536 _ _ c.in_ok-workers.ensures.none c.in_ok-workers.ensures.value) has.workers in
    let queue = one_number (rows_of f) (codes "queue") _ _ (number_read f (codes "queue") 65536 _ _ c.in_ok-queue.ensures.none c.in_ok-queue.ensures.value)
    has.queue in
    let sessions = one_number (rows_of f) (codes "sessions") _ _
    (number_read f (codes "sessions") 4294967296 _ _ c.in_ok-sessions.ensures.none c.in_ok-sessions.ensures.value) has.sessions in
    let connections = one_number (rows_of f) (codes "connections") _ _
    (number_read f (codes "connections") 4294967296 _ _ c.in_ok-connections.ensures.none c.in_ok-connections.ensures.value) has.connections in
    let idle = one_number (rows_of f) (codes "idle") _ _ (number_read f (codes "idle") 4294967296 _ _ c.in_ok-idle.ensures.none c.in_ok-idle.ensures.value)
    has.idle in
    let report = one_number (rows_of f) (codes "report") _ _
    (number_read f (codes "report") 4294967296 _ _ c.in_ok-report.ensures.none c.in_ok-report.ensures.value) has.report in
    c.new.ensures.within.1 (rw (port, workers, queue, sessions, connections, idle, report) options.within)
