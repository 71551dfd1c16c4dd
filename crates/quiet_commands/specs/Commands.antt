-- What the words ask of a run that waits for nobody.
use Rattle.std.specs.Prelude.{◌≡◌, ℕ, Bool, false, List, [], Option, Some, None, ◌==◌, ◌&&◌, is_some, option_and_then, if◌then◌else◌, string_bytes}
use Rattle.cc_base.specs.Outside.{with_name}
use Rattle.cluster_gen.specs.Clusters.{cluster_text}
use Rattle.command_words.specs.Meaning as words
use Rattle.core_terms.specs.Asked.{goals_fault}
use Rattle.user_tasks.specs.Asks.{AskView}
use Rattle.user_tasks.specs.declared.ask.Op.TheVariants as op
use Rattle.quiet_commands.specs.declared.commands.Request.{Request}
use Rattle.quiet_commands.specs.declared.commands.Request.TheVariants as request

-- what is asked
pub data Asked : Type 0 where
  plan : List ℕ → Bool → AskView → Asked
  check : List ℕ → List ℕ → AskView → Asked
  apply : List ℕ → AskView → Asked
  gen : ℕ → ℕ → ℕ → Bool → AskView → Asked
  session : List ℕ → Bool → Asked

-- the plan that the words ask for: a rebalance
abbrev pub rebalance : words.GoalsAsked → List (List ℕ) → AskView
rebalance goals excluded = record {
  op = op.Rebalance;
  brokers = [];
  goals = goals.names;
  skip = goals.skip_hard_goal_check;
  excluded = excluded;
  dryrun = false;
  topics = [];
  factor = 0;
}

-- nothing is asked where the names of the goals are refused
abbrev pub unless_refused : AskView → Asked → Option Asked
unless_refused ask asked = if is_some (goals_fault ask) then None else Some asked

abbrev plan_of : AskView → words.PlanAsked → Option Asked
plan_of ask o = unless_refused ask (plan o.file o.trace ask)

abbrev check_of : AskView → words.CheckAsked → Option Asked
check_of ask o = unless_refused ask (check o.file o.trace ask)

abbrev apply_of : AskView → words.ApplyAsked → Option Asked
apply_of ask o = unless_refused ask (apply o.file ask)

abbrev gen_of : AskView → words.GenAsked → Option Asked
gen_of ask o = unless_refused ask (gen o.seed o.brokers o.partitions o.file ask)

-- a session with movers or planners of its own is another call's
abbrev session_of : words.SessionAsked → Option Asked
session_of o = if (o.workers.movers == 0) && (o.workers.planners == 0) then Some (session o.file o.review) else None

-- the same of what all words may ask; a service is another call's too
abbrev pub quiet_of : words.Asked → Option Asked
quiet_of (words.plan o) = plan_of (rebalance o.goals o.excluded_topics) o
quiet_of (words.check o) = check_of (rebalance o.goals o.excluded_topics) o
quiet_of (words.apply o) = apply_of (rebalance o.goals o.excluded_topics) o
quiet_of (words.gen o) = gen_of (rebalance o.goals []) o
quiet_of (words.session o) = session_of o
quiet_of (words.serve o) = None

-- what the words ask
abbrev pub command : List (List ℕ) → Option Asked
command given = option_and_then quiet_of (words.meaning given)

-- the bytes that a command's cluster is read from, where the contents of files are told: those of its file, or the text that is made from its
-- seed
abbrev pub source_of : (List ℕ → Option (List ℕ)) → Asked → Option (List ℕ)
source_of told (plan file trace ask) = told file
source_of told (check file trace ask) = told file
source_of told (apply file ask) = told file
source_of told (gen seed brokers partitions file ask) = Some (cluster_text seed brokers partitions)
source_of told (session file review) = told file

-- the names of the files that were loaded, with that of a command's cluster file at their end; a cluster that is made is in none
abbrev pub with_source : Option (List (List ℕ)) → Asked → Option (List (List ℕ))
with_source log (plan file trace ask) = with_name log file
with_source log (check file trace ask) = with_name log file
with_source log (apply file ask) = with_name log file
with_source log (gen seed brokers partitions file ask) = log
with_source log (session file review) = with_name log file

-- the command reads its cluster from a file
abbrev pub HasFile : Asked → Type 0
HasFile (gen seed brokers partitions file ask) = ⊥
HasFile asked = Unit {0}

-- a request of the program, without where it lies in memory
abbrev pub asked : Request → Asked
asked (request.Plan file trace planning) = plan (string_bytes file) trace planning.ask
asked (request.Check file trace planning) = check (string_bytes file) (string_bytes trace) planning.ask
asked (request.Apply file planning) = apply (string_bytes file) planning.ask
asked (request.Gen recipe whole planning) = gen recipe.seed recipe.brokers recipe.partitions whole planning.ask
asked (request.Session file review) = session (string_bytes file) review

-- the words ask a session
abbrev pub AsksSession : List (List ℕ) → Type 0
AsksSession given = (file : List ℕ) × (review : Bool) × (command given ≡ Some (session file review))

-- only a session reads the input
abbrev pub IsInputKept : Asked → Option (List ℕ) → Option (List ℕ) → ℕ → ℕ → Type 0
IsInputKept (session file review) old new before now = Unit {0}
IsInputKept asked old new before now = (new ≡ old) × (now ≡ before)
