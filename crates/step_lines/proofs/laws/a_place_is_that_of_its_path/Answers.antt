use Rattle.step_lines.proofs.EndpointsOfPaths.{place_is, place_found, place_none, no_place}
use Rattle.step_lines.proofs.laws.a_place_is_that_of_its_path.Goals as goal

pub returns-clause-place : goal.returns-clause-place
returns-clause-place c = λ path part e. (place_is e part path, place_found e part path)

pub returns-clause-none : goal.returns-clause-none
returns-clause-none c = λ path. (no_place path, place_none path)
