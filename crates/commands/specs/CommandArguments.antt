-- The command of some arguments.
use Rattle.std.specs.Prelude.{◌≡◌, List, true}
use Rattle.clap.specs.Words.{App, Row, Text, matches_of}
use Rattle.commands.specs.Arguments.{AsksFor, HasLimits, HasServeOptions, HasTrace, are_taken, get_app, pipe_app, play_app, serve_app}
use Rattle.commands.specs.declared.arguments.Command.{Command}
use Rattle.commands.specs.declared.arguments.Command.TheVariants.{Get, Pipe, Play, Serve}

-- the subcommand, with the options that it has
abbrev pub subcommand_of : Command → App
subcommand_of (Get limits id) = get_app
subcommand_of (Pipe limits) = pipe_app
subcommand_of (Play limits) = play_app
subcommand_of (Serve options) = serve_app

-- the values of its options, by the rows that clap found
abbrev pub HasOptions : List Row → Command → Type 0
HasOptions rows (Get limits id) = HasLimits rows limits × HasTrace rows id
HasOptions rows (Pipe limits) = HasLimits rows limits
HasOptions rows (Play limits) = HasLimits rows limits
HasOptions rows (Serve options) = HasServeOptions rows options

-- what clap reads in the arguments of the subcommand, of which the first is its name
abbrev pub ReadsArguments : Command → List Text → Type 0
ReadsArguments command arguments = HasOptions (matches_of (subcommand_of command) arguments) command

-- and clap accepts them
abbrev pub TakesArguments : Command → List Text → Type 0
TakesArguments command arguments = (are_taken (subcommand_of command) arguments ≡ true) × ReadsArguments command arguments

abbrev pub AsksCommand : List Text → Command → Type 0
AsksCommand arguments command = AsksFor (subcommand_of command) (ReadsArguments command) arguments

-- the arguments ask for the command, and clap accepts them
abbrev pub Accepts : List Text → Command → Type 0
Accepts arguments command = AsksFor (subcommand_of command) (TakesArguments command) arguments
