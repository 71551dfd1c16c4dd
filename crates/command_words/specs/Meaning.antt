-- The command that the words of a command line mean.
use Rattle.std.specs.Prelude.{ℕ, Bool, false, ◌&&◌, nat_le, List, [], ◌∷◌, Option, Some, None, bytes_eq, codes, option_map, option_and_then, if◌then◌else◌, string_bytes}
use Rattle.std.specs.Option.{option_map_or}
use Rattle.clap.specs.Words.{Kinds, Row, Text, fault_of, first_of, subcommand_of}
use Rattle.plan_terms.specs.Digits.{whole_of}
use Rattle.command_words.specs.Arguments.{the_app}
use Rattle.command_words.specs.Names.{names_of}
use Rattle.command_words.specs.declared.commands.Command.{Command}
use Rattle.command_words.specs.declared.commands.Command.TheVariants as command
use Rattle.command_words.specs.declared.commands.Goals.{Goals}
use Rattle.command_words.specs.declared.commands.Workers.{Workers}

-- which goals to plan for: their names, none for the default list; and whether hard goals may be absent
pub record GoalsAsked : Type 0 where
  pub names : List Text
  pub skip_hard_goal_check : Bool

pub record PlanAsked : Type 0 where
  pub file : Text
  pub goals : GoalsAsked
  pub excluded_topics : List Text
  pub trace : Bool

pub record CheckAsked : Type 0 where
  pub file : Text
  pub trace : Text
  pub goals : GoalsAsked
  pub excluded_topics : List Text

pub record ApplyAsked : Type 0 where
  pub file : Text
  pub goals : GoalsAsked
  pub excluded_topics : List Text

pub record GenAsked : Type 0 where
  pub seed : ℕ
  pub goals : GoalsAsked
  pub file : Bool
  pub brokers : ℕ
  pub partitions : ℕ

-- how many movers and planners work beside those who ask
pub record WorkersAsked : Type 0 where
  pub movers : ℕ
  pub planners : ℕ

pub record SessionAsked : Type 0 where
  pub file : Text
  pub workers : WorkersAsked
  pub review : Bool

pub record ServeAsked : Type 0 where
  pub file : Text
  pub workers : WorkersAsked
  pub listen : Text
  pub links : ℕ
  pub review : Bool
  pub forever : Bool
  pub page : Bool

-- what is asked
pub data Asked : Type 0 where
  plan : PlanAsked → Asked
  check : CheckAsked → Asked
  apply : ApplyAsked → Asked
  gen : GenAsked → Asked
  session : SessionAsked → Asked
  serve : ServeAsked → Asked

-- ---- what stands in the rows that clap makes of a command's words

-- the number, where it lies in the range; both ends are in it
abbrev pub within : ℕ → ℕ → Option ℕ → Option ℕ
within least most None = None
within least most (Some n) = if nat_le least n && nat_le n most then Some n else None

-- a whole number in decimal digits, without a sign and without a leading zero, in the range
abbrev pub number_in : ℕ → ℕ → Option Text → Option ℕ
number_in least most text = within least most (option_and_then whole_of text)

-- the flag is given
abbrev pub is_given : Option Text → Bool
is_given value = option_map_or (λ text. bytes_eq text (codes "true")) value false

abbrev pub goals_of : List Row → GoalsAsked
goals_of rows = record {
  names = names_of (first_of (codes "goals") rows);
  skip_hard_goal_check = is_given (first_of (codes "skip-hard-goal-check") rows);
}

abbrev pub excluded_of : List Row → List Text
excluded_of rows = names_of (first_of (codes "excluded-topics") rows)

abbrev pub plan_with : List Row → Text → PlanAsked
plan_with rows file = record {
  file = file;
  goals = goals_of rows;
  excluded_topics = excluded_of rows;
  trace = is_given (first_of (codes "trace") rows);
}

abbrev pub plan_of : List Row → Option PlanAsked
plan_of rows = option_map (plan_with rows) (first_of (codes "FILE") rows)

abbrev pub check_with : List Row → Text → Text → CheckAsked
check_with rows file trace = record { file = file; trace = trace; goals = goals_of rows; excluded_topics = excluded_of rows }

abbrev pub check_of : List Row → Option CheckAsked
check_of rows = option_and_then (λ file. option_map (check_with rows file) (first_of (codes "TRACE") rows)) (first_of (codes "FILE") rows)

abbrev pub apply_with : List Row → Text → ApplyAsked
apply_with rows file = record { file = file; goals = goals_of rows; excluded_topics = excluded_of rows }

abbrev pub apply_of : List Row → Option ApplyAsked
apply_of rows = option_map (apply_with rows) (first_of (codes "FILE") rows)

-- a seed is below 2^31
abbrev pub seed_of : List Row → Option ℕ
seed_of rows = number_in 0 2147483647 (first_of (codes "SEED") rows)

abbrev pub brokers_of : List Row → Option ℕ
brokers_of rows = number_in 1 200 (first_of (codes "brokers") rows)

abbrev pub partitions_of : List Row → Option ℕ
partitions_of rows = number_in 0 10000 (first_of (codes "partitions") rows)

abbrev pub gen_with : List Row → ℕ → ℕ → ℕ → GenAsked
gen_with rows seed brokers partitions = record {
  seed = seed;
  goals = goals_of rows;
  file = is_given (first_of (codes "file") rows);
  brokers = brokers;
  partitions = partitions;
}

abbrev pub gen_of : List Row → Option GenAsked
gen_of rows = option_and_then (λ seed. option_and_then (λ brokers. option_map (gen_with rows seed brokers) (partitions_of rows)) (brokers_of rows)) (seed_of rows)

abbrev pub workers_with : ℕ → ℕ → WorkersAsked
workers_with movers planners = record { movers = movers; planners = planners }

abbrev pub workers_of : List Row → Option WorkersAsked
workers_of rows = option_and_then (λ movers. option_map (workers_with movers) (number_in 0 4 (first_of (codes "planners") rows))) (number_in 0 64 (first_of (codes "movers") rows))

-- what starts something is reviewed first
abbrev pub review_of : List Row → Bool
review_of rows = is_given (first_of (codes "review") rows)

abbrev pub session_with : List Row → Text → WorkersAsked → SessionAsked
session_with rows file workers = record { file = file; workers = workers; review = review_of rows }

abbrev pub session_of : List Row → Option SessionAsked
session_of rows = option_and_then (λ file. option_map (session_with rows file) (workers_of rows)) (first_of (codes "FILE") rows)

-- links are accepted without end
abbrev pub forever_of : List Row → Bool
forever_of rows = is_given (first_of (codes "forever") rows)

-- there is a page
abbrev pub page_of : List Row → Bool
page_of rows = is_given (first_of (codes "page") rows)

-- 1 to 64 links; where no number is given, 16 where they are accepted without end, and else 1
abbrev pub links_asked : Bool → Option Text → Option ℕ
links_asked forever None = Some (if forever then 16 else 1)
links_asked forever (Some text) = number_in 1 64 (Some text)

abbrev pub links_of : List Row → Option ℕ
links_of rows = links_asked (forever_of rows) (first_of (codes "links") rows)

abbrev pub serve_with : List Row → Text → WorkersAsked → Text → ℕ → ServeAsked
serve_with rows file workers listen links = record {
  file = file;
  workers = workers;
  listen = listen;
  links = links;
  review = review_of rows;
  forever = forever_of rows;
  page = page_of rows;
}

abbrev pub serve_of : List Row → Option ServeAsked
serve_of rows = option_and_then (λ file. option_and_then (λ workers. option_and_then (λ listen. option_map (serve_with rows file workers listen) (links_of rows)) (first_of (codes "listen") rows)) (workers_of rows)) (first_of (codes "FILE") rows)

-- ---- what the words mean

-- what the rows of a command of this name ask
abbrev pub asked_of : Text × List Row → Option Asked
asked_of p =
    if bytes_eq p.0 (codes "plan") then option_map plan (plan_of p.1)
    else (if bytes_eq p.0 (codes "check") then option_map check (check_of p.1)
    else (if bytes_eq p.0 (codes "apply") then option_map apply (apply_of p.1)
    else (if bytes_eq p.0 (codes "gen") then option_map gen (gen_of p.1)
    else (if bytes_eq p.0 (codes "session") then option_map session (session_of p.1)
    else (if bytes_eq p.0 (codes "serve") then option_map serve (serve_of p.1) else None)))))

abbrev pub unless_refused : Kinds → Option Asked → Option Asked
unless_refused [] asked = asked
unless_refused (k ∷ ks) asked = None

-- what the words ask: nothing where clap refuses them, as it does words that ask for help, or where a number is out of its form or range
abbrev pub meaning : List Text → Option Asked
meaning words = unless_refused (fault_of the_app words) (option_and_then asked_of (subcommand_of the_app words))

-- ---- the same as a value of the program

abbrev pub goals_view : Goals → GoalsAsked
goals_view g = record { names = g.names.items; skip_hard_goal_check = g.skip_hard_goal_check }

abbrev pub workers_view : Workers → WorkersAsked
workers_view w = record { movers = w.movers; planners = w.planners }

abbrev pub told : Command → Asked
told (command.Plan file goals excluded trace) = plan (record { file = string_bytes file; goals = goals_view goals; excluded_topics = excluded.items; trace = trace })
told (command.Check file trace goals excluded) = check (record { file = string_bytes file; trace = string_bytes trace; goals = goals_view goals; excluded_topics = excluded.items })
told (command.Apply file goals excluded) = apply (record { file = string_bytes file; goals = goals_view goals; excluded_topics = excluded.items })
told (command.Gen seed brokers partitions goals whole) = gen (record { seed = seed; goals = goals_view goals; file = whole; brokers = brokers; partitions = partitions })
told (command.Session file workers review) = session (record { file = string_bytes file; workers = workers_view workers; review = review })
told (command.Serve file workers listen links review forever page) =
    serve (record { file = string_bytes file; workers = workers_view workers; listen = string_bytes listen; links = links; review = review; forever = forever; page = page })
