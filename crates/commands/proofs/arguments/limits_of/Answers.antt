use Rattle.std.proofs.Common.{◌<◌, arith, codes}
use Rattle.clap.specs.Words.{found_of, rows_of}
use Rattle.commands.proofs.Options.{number_read, number_there, one_number, limits_read}
use Rattle.commands.proofs.arguments.limits_of.Goals as goal

pub returns-clause-given : goal.returns-clause-given
returns-clause-given c =
    let f = found_of c.args.matches.now in
    limits_read (rows_of f) c.in_ok-batches.batches c.in_ok-spans.spans c.in_ok-traces.traces c.in_ok-max_skew.max_skew c.new.result
    (number_read f (codes "batches") 4294967296 _ _ c.in_ok-batches.ensures.none c.in_ok-batches.ensures.value)
    (number_read f (codes "spans") 4294967296 _ _ c.in_ok-spans.ensures.none c.in_ok-spans.ensures.value)
    (number_read f (codes "traces") 4294967296 _ _ c.in_ok-traces.ensures.none c.in_ok-traces.ensures.value)
    (number_read f (codes "max-skew") 18446744073709551616 _ _ c.in_ok-max_skew.ensures.none c.in_ok-max_skew.ensures.value)
    c.new.ensures.same

pub returns-in_err-batches-clause-found : goal.returns-in_err-batches-clause-found
returns-in_err-batches-clause-found c limits has =
    let below : limits.batches < 4294967296 = omega (arith, limits.within) in
    absurd (number_there (found_of c.args.matches.now) (codes "batches") 4294967296 limits.batches
    (λ t e. (c.in_err-batches.ensures.value t e).1.0) has.batches below)

pub returns-in_err-spans-clause-found : goal.returns-in_err-spans-clause-found
returns-in_err-spans-clause-found c limits has =
    let below : limits.spans < 4294967296 = omega (arith, limits.within) in
    absurd (number_there (found_of c.args.matches.now) (codes "spans") 4294967296 limits.spans (λ t e. (c.in_err-spans.ensures.value t e).1.0) has.spans below)

pub returns-in_err-traces-clause-found : goal.returns-in_err-traces-clause-found
returns-in_err-traces-clause-found c limits has =
    let below : limits.traces < 4294967296 = omega (arith, limits.within) in
    absurd (number_there (found_of c.args.matches.now) (codes "traces") 4294967296 limits.traces
    (λ t e. (c.in_err-traces.ensures.value t e).1.0) has.traces below)

pub returns-in_err-max_skew-clause-found : goal.returns-in_err-max_skew-clause-found
returns-in_err-max_skew-clause-found c limits has =
    let below : limits.max_skew < 18446744073709551616 = omega (arith, limits.within) in
    absurd (number_there (found_of c.args.matches.now) (codes "max-skew") 18446744073709551616 limits.max_skew
    (λ t e. (c.in_err-max_skew.ensures.value t e).1.0) has.max_skew below)

pub returns-clause-found : goal.returns-clause-found
returns-clause-found c limits has =
    let f = found_of c.args.matches.now in
    let batches = one_number (rows_of f) (codes "batches") _ _
    (number_read f (codes "batches") 4294967296 _ _ c.in_ok-batches.ensures.none c.in_ok-batches.ensures.value) has.batches in
    let spans = one_number (rows_of f) (codes "spans") _ _ (number_read f (codes "spans") 4294967296 _ _ c.in_ok-spans.ensures.none c.in_ok-spans.ensures.value)
    has.spans in
    let traces = one_number (rows_of f) (codes "traces") _ _
    (number_read f (codes "traces") 4294967296 _ _ c.in_ok-traces.ensures.none c.in_ok-traces.ensures.value) has.traces in
    let skew = one_number (rows_of f) (codes "max-skew") _ _
    (number_read f (codes "max-skew") 18446744073709551616 _ _ c.in_ok-max_skew.ensures.none c.in_ok-max_skew.ensures.value) has.max_skew in
    c.new.ensures.within.1 (rw (batches, spans, traces, skew) limits.within)
