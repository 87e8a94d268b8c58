use Rattle.read_side.proofs.PublishedLists.{all_grow}
use Rattle.read_side.proofs.laws.a_receipts_list_is_a_prefix_of_later_ones.Goals as goal

pub returns : goal.returns
returns c = all_grow
