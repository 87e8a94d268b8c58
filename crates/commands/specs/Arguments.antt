-- The commands of the program's arguments. Ranges and defaults are written out on purpose: a number of the code that
-- changes by itself is refused.
use Rattle.std.specs.Prelude.{◌≡◌, ℕ, pos, Bool, List, [], ◌∷◌, Option, Some, None, Result, IfOk, true, false, codes, ◌⊎◌}
use Rattle.std.specs.Str.Parse.{IsNumeral, digits_value, without_leading_plus}
use Rattle.clap.specs.Words.{App, Row, Rule, Text, app_of, is_simple, new_app, new_rule, with_rule, matches_of, one_of, first_of, takes}
use Rattle.clap.specs.declared.builder.command.Command.{Command}
use Rattle.clap.specs.declared.builder.value_parser.ValueParser.{ValueParser}
use Rattle.clap.specs.declared.builder.value_parser.ValueParser.TheVariants as parser
use Rattle.jaeger_model.specs.declared.ids.TraceId.{TraceId}
use Rattle.jaeger_model.specs.Ids.{read_trace}
use Rattle.trace_model.specs.declared.limits.Limits.{Limits}
use Rattle.serve_options.specs.declared.host.Host.{Host}
use Rattle.serve_options.specs.declared.options.ServeOptions.{ServeOptions}
use Rattle.serve_options.specs.Hosts.{host_text}
use Rattle.serve_options.specs.Ranges.{max_workers, max_queue, max_connections, max_seconds}
use Rattle.text_lines.specs.declared.exit_status.ExitStatus.{ExitStatus}
use Rattle.text_lines.specs.declared.exit_status.ExitStatus.TheVariants.{Usage, DeviceFailed, OutOfMemory}

-- an option whose value is a number, with its default
abbrev pub number_rule : Text → ValueParser → Text → Rule
number_rule name numbers default = record (new_rule name) {
  long = Some name;
  value_names = 1;
  defaults = default ∷ [];
  parser = Some numbers;
}

abbrev pub required_rule : Text → Rule
required_rule name = record (new_rule name) { required = true }

abbrev pub batches_rule : Rule
batches_rule = number_rule (codes "batches") (parser.Signed (pos 1) (pos 1000000)) (codes "1000")

abbrev pub spans_rule : Rule
spans_rule = number_rule (codes "spans") (parser.Signed (pos 1) (pos 10000000)) (codes "100000")

abbrev pub traces_rule : Rule
traces_rule = number_rule (codes "traces") (parser.Signed (pos 0) (pos 1000000)) (codes "0")

abbrev pub skew_rule : Rule
skew_rule = number_rule (codes "max-skew") (parser.Unsigned 0 9223372036854775807) (codes "0")

abbrev pub host_rule : Rule
host_rule = record (new_rule (codes "host")) {
  long = Some (codes "host");
  value_names = 1;
  defaults = codes "127.0.0.1" ∷ [];
}

-- any value of its type
abbrev pub port_rule : Rule
port_rule = number_rule (codes "port") (parser.Signed (pos 0) (pos 65535)) (codes "0")

abbrev pub workers_rule : Rule
workers_rule = number_rule (codes "workers") (parser.Signed (pos 1) (pos max_workers)) (codes "4")

abbrev pub queue_rule : Rule
queue_rule = number_rule (codes "queue") (parser.Signed (pos 1) (pos max_queue)) (codes "256")

-- any value of its type
abbrev pub sessions_rule : Rule
sessions_rule = number_rule (codes "sessions") (parser.Signed (pos 0) (pos 4294967295)) (codes "0")

abbrev pub connections_rule : Rule
connections_rule = number_rule (codes "connections") (parser.Signed (pos 1) (pos max_connections)) (codes "1024")

abbrev pub idle_rule : Rule
idle_rule = number_rule (codes "idle") (parser.Signed (pos 0) (pos max_seconds)) (codes "300")

abbrev pub report_rule : Rule
report_rule = number_rule (codes "report") (parser.Signed (pos 0) (pos max_seconds)) (codes "0")

-- the options that every subcommand has
abbrev pub with_limits : App → App
with_limits app = with_rule (with_rule (with_rule (with_rule app batches_rule) spans_rule) traces_rule) skew_rule

abbrev pub get_app : App
get_app = with_limits (with_rule (new_app (codes "get")) (required_rule (codes "TRACE")))

abbrev pub pipe_app : App
pipe_app = with_limits (new_app (codes "pipe"))

abbrev pub play_app : App
play_app = with_limits (new_app (codes "play"))

-- the options that only `serve` has
abbrev pub with_serving : App → App
with_serving app =
    with_rule (with_rule (with_rule (with_rule (with_rule (with_rule (with_rule (with_rule app host_rule) port_rule) workers_rule) queue_rule)
    sessions_rule) connections_rule) idle_rule) report_rule

abbrev pub serve_app : App
serve_app = with_limits (with_serving (new_app (codes "serve")))

-- the option's text is decimal digits, which may follow a plus, and they are those of the number
abbrev pub HasNumber : Text → List Row → ℕ → Type 0
HasNumber name rows n =
    (text : Text) × (one_of name rows ≡ Some text) × IsNumeral 10 (without_leading_plus text) × (n ≡ digits_value 10 (without_leading_plus text))

pub record HasLimits (rows : List Row) (limits : Limits) : Type 0 where
  pub batches : HasNumber (codes "batches") rows limits.batches
  pub spans : HasNumber (codes "spans") rows limits.spans
  pub traces : HasNumber (codes "traces") rows limits.traces
  pub max_skew : HasNumber (codes "max-skew") rows limits.max_skew

-- the option's text, or the default if it isn't given, is the host's
abbrev pub HasHost : List Row → Host → Type 0
HasHost rows host = first_of (codes "host") rows ≡ Some (host_text host)

pub record HasServeOptions (rows : List Row) (options : ServeOptions) : Type 0 where
  pub limits : HasLimits rows options.limits
  pub host : HasHost rows options.host
  pub port : HasNumber (codes "port") rows options.port
  pub workers : HasNumber (codes "workers") rows options.workers
  pub queue : HasNumber (codes "queue") rows options.queue
  pub sessions : HasNumber (codes "sessions") rows options.sessions
  pub connections : HasNumber (codes "connections") rows options.connections
  pub idle : HasNumber (codes "idle") rows options.idle
  pub report : HasNumber (codes "report") rows options.report

abbrev pub HasTrace : List Row → TraceId → Type 0
HasTrace rows id = (text : Text) × (first_of (codes "TRACE") rows ≡ Some text) × (read_trace text ≡ Some id)

-- the id that a text spells, if there is a text
abbrev pub trace_in : Option Text → Option TraceId
trace_in None = None
trace_in (Some text) = read_trace text

-- the clap command, if one was made, is the subcommand as the definitions of clap read it
abbrev pub Makes : {E : Type 0} → Result Command E → App → Type 0
Makes made app = IfOk made (λ c. app_of c ≡ app) × (is_simple app ≡ true)

-- The arguments are the program's name, the subcommand's name, and others. This holds for the arguments after the
-- program's name.
pub record AsksFor (app : App) (Holds : List Text → Type 0) (arguments : List Text) : Type 0 where
  pub program : Text
  pub others : List Text
  pub arguments_are : arguments ≡ program ∷ app.top.name ∷ others
  pub holds : Holds (app.top.name ∷ others)

-- clap accepts the arguments of the subcommand, of which the first is its name
unfoldable pub are_taken : App → List Text → Bool
are_taken app arguments = takes app arguments

-- clap accepts the arguments of `get`, and its options can be read; the trace's id may be anything
abbrev pub TakesLimits : Limits → List Text → Type 0
TakesLimits limits arguments = (are_taken get_app arguments ≡ true) × HasLimits (matches_of get_app arguments) limits

abbrev pub TakesGet : List Text → Limits → Type 0
TakesGet arguments limits = AsksFor get_app (TakesLimits limits) arguments

-- the status of arguments that name no command: a fault of the arguments or a request for help, the writer failed, or
-- memory ran out
abbrev pub IsFaultOf : ExitStatus → Bool → Type 0
IsFaultOf status failed =
    ((status ≡ Usage) × (failed ≡ false)) ⊎ ((status ≡ DeviceFailed) × (failed ≡ true)) ⊎ ((status ≡ OutOfMemory) × (failed ≡ false))
