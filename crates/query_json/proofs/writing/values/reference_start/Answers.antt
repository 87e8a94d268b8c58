use Rattle.std.proofs.Common.{rules}
use Rattle.json.specs.Print.{escape_byte}
use Rattle.query_json.proofs.writing.values.reference_start.Goals as goal

pub returns-in-ChildOf : goal.returns-in-ChildOf
unfolding escape_byte
returns-in-ChildOf c = search rules

pub returns-in-FollowsFrom : goal.returns-in-FollowsFrom
unfolding escape_byte
returns-in-FollowsFrom c = search rules
