use Rattle.answer_trees.specs.ProcessPlaces.{HasPlaces}
use Rattle.answer_trees.proofs.naming.places.Given as goal

abbrev pub invariant-loop-index : goal.invariant-loop-index
invariant-loop-index l = HasPlaces l.trace l.keys l.index l.placing
