use Rattle.std.specs.Arc.{arc_value}
use Rattle.std.proofs.Common.{◌∙◌, sym}
use Rattle.journal_traces.proofs.Numbering.{number_known, number_last, numbers_more, place_above, numbers_within}
use Rattle.journal_traces.proofs.candidate_taking.number_of.Goals as goal

pub at-requires-clause-above : goal.at-requires-clause-above
at-requires-clause-above c = place_above c.args.matcher.now.journal.now.held.entries c.args.place (arc_value c.args.entry.now) c.requires.there

pub at-requires-clause-within : goal.at-requires-clause-within
at-requires-clause-within c =
    numbers_within c.args.matcher.now.journal.now.held.entries c.args.taken.now.entries c.args.numbers.now (arc_value c.args.entry.now)
    c.requires.numbers c.args.place c.requires.there

pub returns-in-Some-clause-number : goal.returns-in-Some-clause-number
returns-in-Some-clause-number c =
    number_known c.args.matcher.now.journal.now.held.entries c.args.taken.now.entries c.args.numbers.now (arc_value c.args.entry.now)
    c.requires.numbers c.args.place c.requires.there c.in-Some.number c.in-Some.ensures

pub returns-clause-number : goal.returns-clause-number
returns-clause-number c =
    number_last c.args.matcher.now.journal.now.held.entries c.args.taken.now.entries c.args.numbers.now (arc_value c.args.entry.now)
    c.requires.numbers c.args.place c.requires.there c.add_entry.new.self.entries c.in_ok-add_entry.ensures.entries c.add.result c.add.ensures.number

pub returns-clause-numbers : goal.returns-clause-numbers
returns-clause-numbers c =
    numbers_more c.args.matcher.now.journal.now.held.entries c.args.taken.now.entries c.args.numbers.now (arc_value c.args.entry.now)
    c.requires.numbers c.args.place c.requires.there c.add_entry.new.self.entries c.add.new.self (sym c.at.ensures ∙ c.in_default.is)
    c.in_ok-add_entry.ensures.entries c.add.ensures.numbers
