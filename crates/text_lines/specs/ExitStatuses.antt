-- The numbers of the exit statuses.
use Rattle.std.specs.Prelude.{ℕ}
use Rattle.text_lines.specs.declared.exit_status.ExitStatus.{ExitStatus}
use Rattle.text_lines.specs.declared.exit_status.ExitStatus.TheVariants.{Success, NotFound, Usage, FaultyLine, DeviceFailed, OutOfMemory}

abbrev pub exit_code : ExitStatus → ℕ
exit_code Success = 0
exit_code NotFound = 1
exit_code Usage = 2
exit_code FaultyLine = 3
exit_code DeviceFailed = 4
exit_code OutOfMemory = 5
