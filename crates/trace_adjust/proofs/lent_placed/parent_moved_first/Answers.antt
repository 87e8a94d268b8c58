use Rattle.trace_adjust.proofs.LentReferences.{put_in_front}
use Rattle.trace_adjust.proofs.lent_placed.parent_moved_first.Goals as goal

pub returns-in-Some-clause-kept : goal.returns-in-Some-clause-kept
returns-in-Some-clause-kept c =
    put_in_front c.args.span.now c.as_slice.result.now c.in-Some.place c.as_slice.ensures c.in-Some.ensures.place c.in-Some.ensures.within
