use Rattle.std.proofs.Common.{◌∙◌, subst, sym}
use Rattle.clap.specs.Words.{found_of, rows_of}
use Rattle.commands.specs.Arguments.{HasLimits, HasTrace, get_app}
use Rattle.text_lines.specs.declared.exit_status.ExitStatus.TheVariants.{Usage}
use Rattle.commands.proofs.SubcommandArguments.{ok_is_some, some_is_ok}
use Rattle.commands.proofs.Options.{trace_read, trace_there}
use Rattle.commands.proofs.arguments.read_get.Goals as goal

pub returns-in_err-limits-clause-accepted : goal.returns-in_err-limits-clause-accepted
returns-in_err-limits-clause-accepted g c limits id takes =
    let rows = c.in_ok-matches.ensures.rows get_app c.get_command.ensures in
    let found = c.limits_of.ensures.found limits (subst (λ rs. HasLimits rs limits) (sym rows) takes.1.0) in
    absurd (some_is_ok c.limits_of.result Usage _ found (sym c.ok_or.ensures.value ∙ c.in_err-limits.was))

pub returns-in_err-limits-clause-bad_trace : goal.returns-in_err-limits-clause-bad_trace
returns-in_err-limits-clause-bad_trace g c limits takes =
    let rows = c.in_ok-matches.ensures.rows get_app c.get_command.ensures in
    let found = c.limits_of.ensures.found limits (subst (λ rs. HasLimits rs limits) (sym rows) takes.1) in
    absurd (some_is_ok c.limits_of.result Usage _ found (sym c.ok_or.ensures.value ∙ c.in_err-limits.was))

pub returns-in_err-trace-clause-accepted : goal.returns-in_err-trace-clause-accepted
returns-in_err-trace-clause-accepted g c limits id takes =
    let rows = c.in_ok-matches.ensures.rows get_app c.get_command.ensures in
    let there = trace_there (found_of c.in_ok-matches.matches) id (subst (λ rs. HasTrace rs id) (sym rows) takes.1.1) in
    let none = c.in_err-trace.ensures.none in
    absurd cc

pub returns-clause-asked : goal.returns-clause-asked
returns-clause-asked g c =
    let rows = c.in_ok-matches.ensures.rows get_app c.get_command.ensures in
    let f = found_of c.in_ok-matches.matches in
    let has = ok_is_some c.limits_of.result Usage c.in_ok-limits.limits (HasLimits (rows_of f)) (sym c.ok_or.ensures.value ∙ c.in_ok-limits.was)
    c.limits_of.ensures.given in
    let trace = trace_read f c.in_ok-trace.trace c.in_ok-trace.ensures.trace in
    (subst (λ rs. HasLimits rs c.in_ok-limits.limits) rows has, subst (λ rs. HasTrace rs c.in_ok-trace.trace) rows trace)
