-- What `serve` writes.
use Rattle.std.specs.Prelude.{◌≡◌, ℕ, ◌⊎◌, false, List}
use Rattle.std.specs.Io.KnownBytes.{Appends}
use Rattle.session_devices.specs.Traffic.{Traffic}
use Rattle.serve_options.specs.declared.options.ServeOptions.{ServeOptions}
use Rattle.text_lines.specs.declared.exit_status.ExitStatus.{ExitStatus}
use Rattle.text_lines.specs.declared.exit_status.ExitStatus.TheVariants.{DeviceFailed}
use Rattle.trace_server.specs.ServerRuns.{RunsServer, StopsIn, serving_of}

-- the address can't be used, and a line says so; or a prefix of the line was written, because the output failed or memory
-- ran out
abbrev pub CannotListen : Traffic → ExitStatus → Type 0
CannotListen output status =
    (line : List ℕ)
    × (((status ≡ DeviceFailed) × Appends output.before output.after line × (output.failed ≡ false)) ⊎ StopsIn output line status)

-- the server serves, or the address can't be used
abbrev pub ServesOrNot : ServeOptions → Traffic → ExitStatus → Type 0
ServesOrNot options output status = RunsServer (serving_of options.host options.limits options.workers) output status ⊎ CannotListen output status
