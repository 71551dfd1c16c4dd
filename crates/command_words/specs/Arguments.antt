-- The commands, their operands and their options, as clap is told them.
use Rattle.std.specs.Prelude.{true, [], ◌∷◌, Some, codes}
use Rattle.clap.specs.Simple.{App, on_top}
use Rattle.clap.specs.Words.{Rule, Text, new_app, new_rule, with_rule, with_subcommand}
use Rattle.clap.specs.declared.builder.action.ArgAction.TheVariants.{SetTrue}

-- a word that has to stand behind the command
abbrev pub operand : Text → Rule
operand name = record (new_rule name) { required = true }

-- an option with a value
abbrev pub option : Text → Rule
option name = record (new_rule name) { long = Some name }

-- an option with a value, and the value where it isn't given
abbrev pub option_with_default : Text → Text → Rule
option_with_default name value = record (new_rule name) { long = Some name; defaults = value ∷ [] }

-- an option without a value
abbrev pub flag : Text → Rule
flag name = record (new_rule name) { long = Some name; action = Some SetTrue }

abbrev pub file_rule : Rule
file_rule = operand (codes "FILE")

abbrev pub trace_file_rule : Rule
trace_file_rule = operand (codes "TRACE")

abbrev pub seed_rule : Rule
seed_rule = operand (codes "SEED")

abbrev pub goals_rule : Rule
goals_rule = option (codes "goals")

abbrev pub skip_rule : Rule
skip_rule = flag (codes "skip-hard-goal-check")

abbrev pub excluded_rule : Rule
excluded_rule = option (codes "excluded-topics")

abbrev pub trace_flag_rule : Rule
trace_flag_rule = flag (codes "trace")

abbrev pub file_flag_rule : Rule
file_flag_rule = flag (codes "file")

abbrev pub brokers_rule : Rule
brokers_rule = option_with_default (codes "brokers") (codes "40")

abbrev pub partitions_rule : Rule
partitions_rule = option_with_default (codes "partitions") (codes "2000")

abbrev pub movers_rule : Rule
movers_rule = option_with_default (codes "movers") (codes "0")

abbrev pub planners_rule : Rule
planners_rule = option_with_default (codes "planners") (codes "0")

abbrev pub listen_rule : Rule
listen_rule = option_with_default (codes "listen") (codes "127.0.0.1:9090")

abbrev pub links_rule : Rule
links_rule = option (codes "links")

abbrev pub review_rule : Rule
review_rule = flag (codes "review")

abbrev pub forever_rule : Rule
forever_rule = flag (codes "forever")

abbrev pub page_rule : Rule
page_rule = flag (codes "page")

abbrev pub plan_app : App
plan_app = with_rule (with_rule (with_rule (with_rule (with_rule (new_app (codes "plan")) file_rule) goals_rule) skip_rule) excluded_rule) trace_flag_rule

abbrev pub check_app : App
check_app = with_rule (with_rule (with_rule (with_rule (with_rule (new_app (codes "check")) file_rule) trace_file_rule) goals_rule) skip_rule) excluded_rule

abbrev pub apply_app : App
apply_app = with_rule (with_rule (with_rule (with_rule (new_app (codes "apply")) file_rule) goals_rule) skip_rule) excluded_rule

abbrev pub gen_app : App
gen_app = with_rule (with_rule (with_rule (with_rule (with_rule (with_rule (new_app (codes "gen")) seed_rule) goals_rule) skip_rule) file_flag_rule) brokers_rule) partitions_rule

abbrev pub session_app : App
session_app = with_rule (with_rule (with_rule (with_rule (new_app (codes "session")) file_rule) movers_rule) planners_rule) review_rule

abbrev pub serve_app : App
serve_app = with_rule (with_rule (with_rule (with_rule (with_rule (with_rule (with_rule (with_rule (new_app (codes "serve")) file_rule) movers_rule) planners_rule) listen_rule) links_rule) review_rule) forever_rule) page_rule

-- the program: no name of its own stands before the command, and a command has to stand there
abbrev pub program : App
program = on_top (λ s. record s { no_binary_name = true; subcommand_required = true }) (new_app (codes "sumpharu"))

-- the program with its six commands
abbrev pub the_app : App
the_app = with_subcommand (with_subcommand (with_subcommand (with_subcommand (with_subcommand (with_subcommand program plan_app.top) check_app.top) apply_app.top) gen_app.top) session_app.top) serve_app.top
