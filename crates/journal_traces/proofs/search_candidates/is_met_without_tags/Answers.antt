use Rattle.std.proofs.Common.{◌∙◌}
use Rattle.journal_traces.proofs.NearMatches.{of_service}
use Rattle.journal_traces.proofs.search_candidates.is_met_without_tags.Goals as goal

pub returns : goal.returns
returns c = c.is_met.ensures ∙ of_service c.args.conditions.now.0 c.args.at.process.now c.args.at.span.now c.requires.service
