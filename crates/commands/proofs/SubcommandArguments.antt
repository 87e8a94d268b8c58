-- That clap's definitions read the arguments of each subcommand, and which command has a subcommand's name.
use Rattle.std.proofs.Common.{◌≡◌, List, Option, Some, None, Result, Ok, Err, IfOk, IfErr, IfSome, IsSome, true, refl, sym, codes, arith, ap, get_or, subst}
use Rattle.std.specs.Option.{ok_or}
use Rattle.clap.specs.Words.{App, Text, app_of, is_simple, takes}
use Rattle.clap.specs.declared.builder.command.Command.{Command as ClapCommand}
use Rattle.clap.proofs.OnLiterals.{clap_on_literals}
use Rattle.jaeger_model.specs.declared.ids.TraceId.{TraceId}
use Rattle.trace_model.specs.declared.limits.Limits.{Limits}
use Rattle.commands.specs.Arguments.{Makes, are_taken, get_app, pipe_app, play_app, serve_app}
use Rattle.commands.specs.CommandArguments.{TakesArguments, subcommand_of}
use Rattle.serve_options.specs.declared.options.ServeOptions.{ServeOptions}
use Rattle.commands.specs.declared.arguments.Command.{Command}
use Rattle.commands.specs.declared.arguments.Command.TheVariants.{Get, Pipe, Play, Serve}

pub get_is_simple : is_simple get_app ≡ true
unfolding clap_on_literals
get_is_simple = refl

pub pipe_is_simple : is_simple pipe_app ≡ true
unfolding clap_on_literals
pipe_is_simple = refl

pub play_is_simple : is_simple play_app ≡ true
unfolding clap_on_literals
play_is_simple = refl

pub serve_is_simple : is_simple serve_app ≡ true
unfolding clap_on_literals
serve_is_simple = refl

-- clap takes the arguments by the command that was made
pub takes_as : {E : Type 0} (made : Result ClapCommand E) (command : ClapCommand) (app : App) (arguments : List Text) → made ≡ Ok command → Makes made app
    → are_taken app arguments ≡ true → takes (app_of command) arguments ≡ true
unfolding are_taken
takes_as made command app arguments is makes taken =
    let same : app_of command ≡ app = subst (λ r. IfOk r (λ c. app_of c ≡ app)) is makes.0 in
    subst (λ a. takes a arguments ≡ true) (sym same) taken

pub some_is_no_fault : {T E : Type 0} (o : Option T) (e : E) (P : E → Type 0) → IsSome o → IfErr (ok_or o e) P
some_is_no_fault (Some x) e P some = tt
some_is_no_fault None e P some = absurd cc

pub some_is_ok : {T E : Type 0} (o : Option T) (e f : E) → IsSome o → ok_or o e ≡ Err f → ⊥
some_is_ok (Some x) e f some same = cc
some_is_ok None e f some same = cc

pub ok_is_some : {T E : Type 0} (o : Option T) (e : E) (x : T) (P : T → Type 0) → ok_or o e ≡ Ok x → IfSome o P → P x
ok_is_some (Some y) e x P same holds = let is : y ≡ x = cc in subst P is holds
ok_is_some None e x P same holds = absurd cc

-- the two names begin alike, so they are told apart by their second letters
pipe_is_not_play : codes "pipe" ≡ codes "play" → ⊥
pipe_is_not_play same = let second : get_or (codes "pipe") 1 0 ≡ get_or (codes "play") 1 0 = ap (λ t. get_or t 1 0) same in omega arith

module _ (arguments : List Text) (X : Type 0) where
  pub of_get : ((limits : Limits) (id : TraceId) → TakesArguments (Get limits id) arguments → X) → (command : Command)
      → (subcommand_of command).top.name ≡ codes "get" → TakesArguments command arguments → X
  of_get by (Get limits id) name takes = by limits id takes
  of_get by (Pipe limits) name takes = absurd cc
  of_get by (Play limits) name takes = absurd cc
  of_get by (Serve options) name takes = absurd cc

  pub of_pipe : ((limits : Limits) → TakesArguments (Pipe limits) arguments → X) → (command : Command) → (subcommand_of command).top.name ≡ codes "pipe"
      → TakesArguments command arguments → X
  of_pipe by (Get limits id) name takes = absurd cc
  of_pipe by (Pipe limits) name takes = by limits takes
  of_pipe by (Play limits) name takes = absurd (pipe_is_not_play (sym name))
  of_pipe by (Serve options) name takes = absurd cc

  pub of_play : ((limits : Limits) → TakesArguments (Play limits) arguments → X) → (command : Command) → (subcommand_of command).top.name ≡ codes "play"
      → TakesArguments command arguments → X
  of_play by (Get limits id) name takes = absurd cc
  of_play by (Pipe limits) name takes = absurd (pipe_is_not_play name)
  of_play by (Play limits) name takes = by limits takes
  of_play by (Serve options) name takes = absurd cc

  pub of_serve : ((options : ServeOptions) → TakesArguments (Serve options) arguments → X) → (command : Command)
      → (subcommand_of command).top.name ≡ codes "serve" → TakesArguments command arguments → X
  of_serve by (Get limits id) name takes = absurd cc
  of_serve by (Pipe limits) name takes = absurd cc
  of_serve by (Play limits) name takes = absurd cc
  of_serve by (Serve options) name takes = by options takes
