use Rattle.std.proofs.lemmas.Result.{err_from_is_err_and}
use Rattle.std.proofs.Common.{rules, ◌≡◌, ◌∙◌, codes, map}
use Rattle.commands.specs.Arguments.{TakesLimits, get_app, pipe_app, play_app, serve_app}
use Rattle.commands.specs.CommandArguments.{ReadsArguments, TakesArguments, subcommand_of}
use Rattle.commands.specs.declared.arguments.Command.TheVariants.{Get, Pipe, Play, Serve}
use Rattle.text_lines.specs.declared.exit_status.ExitStatus.TheVariants.{OutOfMemory}
use Rattle.commands.proofs.SubcommandArguments.{of_get, of_pipe, of_play, of_serve}
use Rattle.commands.proofs.FirstArguments.{asked_for, asks_for}
use Rattle.commands.proofs.arguments.judge_arguments.Goals as goal

pub returns-in_err-limits-clause-bad_trace : goal.returns-in_err-limits-clause-bad_trace
returns-in_err-limits-clause-bad_trace g c limits asks =
    let behind = asked_for g.S.AsStr.text c.args.arguments.now c.in-Some.rest.now c.in-Some.field-0-0.now c.in-Some-first.name.now c.in-Some.ensures.cases.0
    c.in-Some-first.ensures.value get_app (TakesLimits limits) asks in
    let said = c.in_err-limits.ensures.bad_trace limits behind.1 in
    search rules

pub returns-in_err-limits-clause-accepted : goal.returns-in_err-limits-clause-accepted
returns-in_err-limits-clause-accepted g c command asks =
    let get : g.S.AsStr.text c.in-Some-first.name.now ≡ codes "get" = search rules in
    let behind = asked_for g.S.AsStr.text c.args.arguments.now c.in-Some.rest.now c.in-Some.field-0-0.now c.in-Some-first.name.now c.in-Some.ensures.cases.0
    c.in-Some-first.ensures.value (subcommand_of command) (TakesArguments command) asks in
    let want : c.in_err-limits.field-0.0 ≡ OutOfMemory =
    of_get (map g.S.AsStr.text c.in-Some.rest.now) _ c.in_err-limits.ensures.accepted command (behind.0 ∙ get) behind.1 in
    search rules

pub returns-then-eq-clause-asked : goal.returns-then-eq-clause-asked
returns-then-eq-clause-asked g c =
    let get : g.S.AsStr.text c.in-Some-first.name.now ≡ codes "get" = search rules in
    asks_for g.S.AsStr.text c.args.arguments.now c.in-Some.rest.now c.in-Some.field-0-0.now c.in-Some-first.name.now c.in-Some.ensures.cases.0
    c.in-Some-first.ensures.value get_app (ReadsArguments (Get c.in_ok-limits.limits c.in_ok-limits.trace)) get c.in_ok-limits.ensures.asked

pub returns-in_err-limits-2-clause-accepted : goal.returns-in_err-limits-2-clause-accepted
returns-in_err-limits-2-clause-accepted g c command asks =
    let pipe : g.S.AsStr.text c.in-Some-first.name.now ≡ codes "pipe" = search rules in
    let behind = asked_for g.S.AsStr.text c.args.arguments.now c.in-Some.rest.now c.in-Some.field-0-0.now c.in-Some-first.name.now c.in-Some.ensures.cases.0
    c.in-Some-first.ensures.value (subcommand_of command) (TakesArguments command) asks in
    let p = err_from_is_err_and c.from_residual-in_err-limits-2.result c.from_residual-in_err-limits-2.ensures.1 in
    let want : c.in_err-limits-2.field-0.0 ≡ OutOfMemory =
    of_pipe (map g.S.AsStr.text c.in-Some.rest.now) _
    (λ limits takes. c.in_err-limits-2.ensures.accepted pipe_app limits c.pipe_command.ensures takes.0 takes.1) command (behind.0 ∙ pipe) behind.1 in
    rw (p.1, p.2) want

pub returns-then-eq-2-clause-asked : goal.returns-then-eq-2-clause-asked
returns-then-eq-2-clause-asked g c =
    let pipe : g.S.AsStr.text c.in-Some-first.name.now ≡ codes "pipe" = search rules in
    asks_for g.S.AsStr.text c.args.arguments.now c.in-Some.rest.now c.in-Some.field-0-0.now c.in-Some-first.name.now c.in-Some.ensures.cases.0
    c.in-Some-first.ensures.value pipe_app (ReadsArguments (Pipe c.in_ok-limits-2.limits)) pipe (c.in_ok-limits-2.ensures.asked pipe_app c.pipe_command.ensures)

pub returns-in_err-limits-3-clause-accepted : goal.returns-in_err-limits-3-clause-accepted
returns-in_err-limits-3-clause-accepted g c command asks =
    let play : g.S.AsStr.text c.in-Some-first.name.now ≡ codes "play" = search rules in
    let behind = asked_for g.S.AsStr.text c.args.arguments.now c.in-Some.rest.now c.in-Some.field-0-0.now c.in-Some-first.name.now c.in-Some.ensures.cases.0
    c.in-Some-first.ensures.value (subcommand_of command) (TakesArguments command) asks in
    let p = err_from_is_err_and c.from_residual-in_err-limits-3.result c.from_residual-in_err-limits-3.ensures.1 in
    let want : c.in_err-limits-3.field-0.0 ≡ OutOfMemory =
    of_play (map g.S.AsStr.text c.in-Some.rest.now) _
    (λ limits takes. c.in_err-limits-3.ensures.accepted play_app limits c.play_command.ensures takes.0 takes.1) command (behind.0 ∙ play) behind.1 in
    rw (p.1, p.2) want

pub returns-then-eq-3-clause-asked : goal.returns-then-eq-3-clause-asked
returns-then-eq-3-clause-asked g c =
    let play : g.S.AsStr.text c.in-Some-first.name.now ≡ codes "play" = search rules in
    asks_for g.S.AsStr.text c.args.arguments.now c.in-Some.rest.now c.in-Some.field-0-0.now c.in-Some-first.name.now c.in-Some.ensures.cases.0
    c.in-Some-first.ensures.value play_app (ReadsArguments (Play c.in_ok-limits-3.limits)) play (c.in_ok-limits-3.ensures.asked play_app c.play_command.ensures)

pub returns-in_err-options-clause-accepted : goal.returns-in_err-options-clause-accepted
returns-in_err-options-clause-accepted g c command asks =
    let serve : g.S.AsStr.text c.in-Some-first.name.now ≡ codes "serve" = search rules in
    let behind = asked_for g.S.AsStr.text c.args.arguments.now c.in-Some.rest.now c.in-Some.field-0-0.now c.in-Some-first.name.now c.in-Some.ensures.cases.0
    c.in-Some-first.ensures.value (subcommand_of command) (TakesArguments command) asks in
    let want : c.in_err-options.field-0.0 ≡ OutOfMemory =
    of_serve (map g.S.AsStr.text c.in-Some.rest.now) _ c.in_err-options.ensures.accepted command (behind.0 ∙ serve) behind.1 in
    search rules

pub returns-then-eq-4-clause-asked : goal.returns-then-eq-4-clause-asked
returns-then-eq-4-clause-asked g c =
    let serve : g.S.AsStr.text c.in-Some-first.name.now ≡ codes "serve" = search rules in
    asks_for g.S.AsStr.text c.args.arguments.now c.in-Some.rest.now c.in-Some.field-0-0.now c.in-Some-first.name.now c.in-Some.ensures.cases.0
    c.in-Some-first.ensures.value serve_app (ReadsArguments (Serve c.in_ok-options.options)) serve c.in_ok-options.ensures.asked
