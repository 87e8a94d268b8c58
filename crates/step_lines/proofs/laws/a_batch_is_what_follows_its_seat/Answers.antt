use Rattle.step_lines.proofs.Texts.{put_line}
use Rattle.step_lines.proofs.laws.a_batch_is_what_follows_its_seat.Goals as goal

pub returns : goal.returns
returns c = put_line
