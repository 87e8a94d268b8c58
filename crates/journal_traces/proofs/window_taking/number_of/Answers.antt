use Rattle.std.proofs.Common.{◌∙◌, sym, ap, subst}
use Rattle.std.specs.Arc.{arc_value}
use Rattle.std.proofs.lemmas.List.{map_push}
use Rattle.journal_traces.specs.WindowTraces.{ServedEntry, entries_in, entries_seen, HasService}
use Rattle.journal_traces.proofs.Numbering.{number_known, number_last, place_above, numbers_within}
use Rattle.journal_traces.proofs.TracesOfWindows.{shared_still, shared_known, served_at}
use Rattle.journal_traces.proofs.window_taking.number_of.Goals as goal

pub at-requires-clause-above : goal.at-requires-clause-above
at-requires-clause-above c = place_above c.args.store.journal.now.held.entries c.args.place (arc_value c.args.entry.now) c.requires.there

pub at-requires-clause-within : goal.at-requires-clause-within
at-requires-clause-within c =
    numbers_within c.args.store.journal.now.held.entries (entries_in (entries_seen c.args.taken.now.entries.items)) c.args.numbers.now
    (arc_value c.args.entry.now) c.requires.taken.found c.args.place c.requires.there

pub returns-in-Some-clause-number : goal.returns-in-Some-clause-number
returns-in-Some-clause-number c =
    number_known c.args.store.journal.now.held.entries (entries_in (entries_seen c.args.taken.now.entries.items)) c.args.numbers.now
    (arc_value c.args.entry.now) c.requires.taken.found c.args.place c.requires.there c.in-Some.number c.in-Some.ensures

pub returns-clause-traces : goal.returns-clause-traces
returns-clause-traces c =
    shared_still c.args.store.journal.now.held.entries c.args.taken.now c.add_entry.new.self c.args.numbers.now c.requires.taken
    (arc_value c.args.entry.now, c.service_number_at.result) c.add_entry.ensures.spots c.add_entry.ensures.starts c.in_ok-add_entry.ensures.entries

pub returns-clause-number : goal.returns-clause-number
returns-clause-number c =
    let es = entries_seen c.args.taken.now.entries.items in
    let e = arc_value c.args.entry.now in
    let alone = ap entries_in c.in_ok-add_entry.ensures.entries ∙ map_push (λ (x : ServedEntry). x.0) es (e, c.service_number_at.result) in
    number_last c.args.store.journal.now.held.entries (entries_in es) c.args.numbers.now e c.requires.taken.found c.args.place c.requires.there
    (entries_in (entries_seen c.add_entry.new.self.entries.items)) alone c.add.result c.add.ensures.number

pub returns-clause-taken : goal.returns-clause-taken
returns-clause-taken c =
    let h = c.args.store.journal.now.held.entries in
    let e = arc_value c.args.entry.now in
    let served = subst (λ n. HasService h (e, n)) (sym c.service_number_at.ensures)
    (served_at h c.args.store.by_service.now.service_numbers c.args.place e c.requires.service_numbers c.requires.there) in
    shared_known h c.args.taken.now c.add_entry.new.self c.args.numbers.now c.requires.taken (e, c.service_number_at.result)
    c.add_entry.ensures.spots c.add_entry.ensures.starts c.in_ok-add_entry.ensures.entries c.args.place c.add.new.self c.requires.there served
    (sym c.at.ensures ∙ c.in_default.is) c.add.ensures.numbers
