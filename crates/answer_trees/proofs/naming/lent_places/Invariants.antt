use Rattle.answer_trees.specs.ProcessPlaces.{HasPlaces}
use Rattle.answer_trees.proofs.naming.lent_places.Given as goal

abbrev pub invariant-loop-index : goal.invariant-loop-index
invariant-loop-index l = HasPlaces l.spans l.keys l.index l.placing
