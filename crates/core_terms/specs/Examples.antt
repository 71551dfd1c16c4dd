-- Small histories on which the definitions are computed.
use Rattle.std.specs.Prelude.{◌≡◌, ℕ, Bool, true, false, List, [], ◌∷◌, ◌++◌, Some, None, codes}
use Rattle.plan_terms.specs.Cluster.{Lists}
use Rattle.plan_terms.specs.Fraction.{Fraction}
use Rattle.plan_terms.specs.declared.cluster.Broker.{Broker}
use Rattle.plan_terms.specs.declared.cluster.BrokerState.TheVariants.{Alive}
use Rattle.plan_terms.specs.declared.cluster.Options.{Options}
use Rattle.goal_set.specs.Kept.{PlanView}
use Rattle.goal_set.specs.Read.{default_kinds}
use Rattle.goal_set.specs.declared.trace.Trace.{Trace}
use Rattle.cluster_json.specs.File.{Meaning}
use Rattle.cluster_json.specs.Loads.{no_loads}
use Rattle.exec_terms.specs.Machine.{adding, lists_now}
use Rattle.exec_terms.specs.declared.phase.Phase.TheVariants as phase
use Rattle.exec_terms.specs.declared.work.Work.{Work}
use Rattle.exec_terms.specs.declared.work.Work.TheVariants as work
use Rattle.user_tasks.specs.Asks.{AskView}
use Rattle.user_tasks.specs.declared.ask.Op.TheVariants as op
use Rattle.user_tasks.specs.declared.table.Status.TheVariants as status
use Rattle.core_terms.specs.Asked.{case_of}
use Rattle.core_terms.specs.Problem.{ProblemView}
use Rattle.core_terms.specs.State.{Core, opening_of, moment_of}
use Rattle.core_terms.specs.Jobs.{id_at}
use Rattle.core_terms.specs.Step.{reply_of, next}
use Rattle.core_terms.specs.History.{state_after}
use Rattle.core_terms.specs.declared.events.Event.{Event}
use Rattle.core_terms.specs.declared.events.Event.TheVariants as event
use Rattle.core_terms.specs.declared.replies.Named.{Named}
use Rattle.core_terms.specs.declared.replies.Outcome.TheVariants as outcome
use Rattle.core_terms.specs.declared.replies.Reason.TheVariants as reason
use Rattle.core_terms.specs.declared.replies.Reply.{Reply}
use Rattle.core_terms.specs.declared.replies.Reply.TheVariants as reply

abbrev ratio : ℕ → ℕ → Fraction
ratio n d = record { num = n; den = d }

abbrev options : Options
options = record {
  limit = ratio 80 100 ∷ ratio 80 100 ∷ ratio 80 100 ∷ ratio 80 100 ∷ [];
  balance = ratio 110 100 ∷ ratio 110 100 ∷ ratio 110 100 ∷ ratio 110 100 ∷ [];
  replica_balance = ratio 110 100;
  leader_balance = ratio 110 100;
  topic_balance = ratio 300 100;
  max_replicas = 10000;
  leads_only = false;
  min_leaders = [];
}

abbrev broker : ℕ → Broker
broker b = record { id = b; rack = None; cap = 9 ∷ 9 ∷ 9 ∷ 9 ∷ []; state = Alive }

-- one partition, on broker 0, of some brokers; coverage asks for nothing
abbrev file_of : List Broker → Meaning
file_of brokers = record {
  cluster = record { brokers = brokers; parts = record { topic = codes "t"; number = 0; loads = no_loads; excluded = false; chunks = 1 } ∷ []; options = options };
  lists = (0 ∷ []) ∷ [];
  caps = record { broker = 10; cluster = 1250; leader = 1000 };
  rules = record { width = 300000; keep = 5; least = 1; need = 1 };
  ratio = ratio 0 1;
  with_load = false ∷ [];
  samples = [];
}

abbrev pub two_brokers : Meaning
two_brokers = file_of (broker 0 ∷ broker 1 ∷ [])

abbrev pub three_brokers : Meaning
three_brokers = file_of (broker 0 ∷ broker 1 ∷ broker 2 ∷ [])

-- that broker 0 is removed
abbrev removal : AskView
removal = record { op = op.RemoveBroker; brokers = 0 ∷ []; goals = []; skip = false; excluded = []; dryrun = false; topics = []; factor = 0 }

abbrev balancing : Bool → AskView
balancing dry = record { op = op.Rebalance; brokers = []; goals = []; skip = false; excluded = []; dryrun = dry; topics = []; factor = 0 }

abbrev submit : AskView → Event
submit a = event.Submit a None

-- what a planner is given for the removal in a state
abbrev pub problem : Meaning → Core → ProblemView
problem file s = record { case = case_of removal (moment_of file s).cluster; start = (0 ∷ []) ∷ []; goals = default_kinds }

-- a plan for it that moves the partition to broker 1; the core doesn't look at its trace
abbrev plan : Trace → ProblemView → PlanView
plan trace p = record { case = p.case; start = p.start; goals = p.goals; trace = trace; end = (1 ∷ []) ∷ [] }

-- the replies to events, one after another
abbrev pub replies : Meaning → Core → List Event → List Reply
replies file s [] = []
replies file s (e ∷ es) = reply_of file s e ∷ replies file (next file s e) es

-- the lists of the partitions after events
abbrev pub lists_after : Meaning → List Event → Lists
lists_after file events = lists_now (state_after file events).desk.exec

-- the work of the one task, under a lease
abbrev pub given : ℕ → Work → Bool → Reply
given lease what starts = reply.Work (record { lease = lease; task = 0; part = 0; work = what; starts = starts })

abbrev copy : ℕ → Event
copy lease = event.Copied (record { lease = lease; part = 0; to = 1; chunk = 0 })

-- the removal is planned for the state as it is
abbrev pub planned : Trace → List Event
planned trace = submit removal ∷ event.PlanTake ∷ event.Planned 1 (plan trace (problem two_brokers (opening_of two_brokers))) ∷ []

-- its copy is made, and its commit is leased
abbrev pub copied : Trace → List Event
copied trace = planned trace ++ event.Take ∷ copy 1 ∷ event.Take ∷ []

-- its copy is leased
abbrev pub leased : Trace → List Event
leased trace = planned trace ++ event.Take ∷ []

abbrev pub forced_stop : List Event
forced_stop = event.Stop true ∷ event.Commit 2 ∷ event.Take ∷ event.Cancel 3 ∷ event.Submit removal (Some (id_at 0)) ∷ []

abbrev pub soft_stop : List Event
soft_stop = event.Stop false ∷ event.Commit 2 ∷ event.Submit removal (Some (id_at 0)) ∷ []

abbrev pub death : List Event
death = event.Kill 1 ∷ event.Stop true ∷ event.Take ∷ copy 1 ∷ event.Take ∷ []

-- a broker dies while the plan is made
abbrev pub overtaken : List Event
overtaken = submit removal ∷ event.PlanTake ∷ event.Kill 2 ∷ []

abbrev pub plan_for_then : Trace → Event
plan_for_then trace = event.Planned 1 (plan trace (problem three_brokers (opening_of three_brokers)))

abbrev pub plan_for_now : Trace → Event
plan_for_now trace = event.Planned 2 (plan trace (problem three_brokers (state_after three_brokers overtaken)))

abbrev pub requests : List Event
requests = submit removal ∷ submit (balancing true) ∷ submit (balancing false) ∷ event.PlanBack 1 ∷ event.Close ∷ submit removal ∷ []

abbrev pub settings : List Event
settings = event.Caps (record { broker = Some 1; cluster = None; leader = None }) ∷ event.Close ∷ event.Caps (record { broker = Some 2; cluster = None; leader = None }) ∷ []

-- the one change of the removal's plan, by the name of its partition
abbrev pub change : Named
change = record { topic = codes "t"; number = 0; before = 0 ∷ []; after = 1 ∷ [] }

-- the replies and the lists of these histories, whatever the trace of a plan
pub record AreExamples (trace : Trace) : Type 0 where
  -- the request is taken, planned and carried out: one copy, then the commit
  pub runs : replies two_brokers (opening_of two_brokers) (copied trace)
      ≡ reply.Accepted (id_at 0) ∷ reply.Job 1 (problem two_brokers (opening_of two_brokers)) ∷ reply.PlanDone
      ∷ given 1 (work.Copy 1 0) true ∷ reply.Left 0 ∷ given 2 work.Commit false ∷ []
  -- a forced stop undoes the task: its commit finds that, its list is the old one again, and the request ends with an error
  pub stop_forced : replies two_brokers (state_after two_brokers (copied trace)) forced_stop
      ≡ reply.Stopped (record { aborted = 0; aborting = 1 }) ∷ reply.AbortAsked ∷ given 3 work.Cancel false ∷ reply.Cancelled phase.Aborted
      ∷ reply.Task (id_at 0) status.CompletedWithError (outcome.Ended 1 0 (change ∷ [])) ∷ []
  pub list_forced : lists_after two_brokers (copied trace ++ forced_stop) ≡ (0 ∷ []) ∷ []
  -- a soft stop lets it be finished
  pub stop_soft : replies two_brokers (state_after two_brokers (copied trace)) soft_stop
      ≡ reply.Stopped (record { aborted = 0; aborting = 0 }) ∷ reply.Committed ∷ reply.Task (id_at 0) status.Completed (outcome.Done (change ∷ [])) ∷ []
  pub list_soft : lists_after two_brokers (copied trace ++ soft_stop) ≡ (1 ∷ []) ∷ []
  -- the death of the broker that is added dooms the task, which a stop doesn't change any more
  pub killed : replies two_brokers (state_after two_brokers (leased trace)) death
      ≡ reply.Killed (record { dead = 0; aborting = 1 }) ∷ reply.Stopped (record { aborted = 0; aborting = 0 }) ∷ reply.Idle reason.AllLeased false
      ∷ reply.AbortAsked ∷ given 2 work.Cancel false ∷ []
  pub list_killed : lists_after two_brokers (leased trace ++ event.Kill 1 ∷ []) ≡ (0 ∷ 1 ∷ []) ∷ []
  pub added_until_then : adding (state_after two_brokers (leased trace ++ death)).desk.exec.tasks 1 ≡ 1
  pub cancelled : reply_of two_brokers (state_after two_brokers (leased trace ++ death)) (event.Cancel 2) ≡ reply.Cancelled phase.Dead
  pub list_cancelled : lists_after two_brokers (leased trace ++ death ++ event.Cancel 2 ∷ []) ≡ (0 ∷ []) ∷ []
  pub added_no_more : adding (state_after two_brokers (leased trace ++ death ++ event.Cancel 2 ∷ [])).desk.exec.tasks 1 ≡ 0
  -- a plan for a cluster in which a broker has died meanwhile is sent back, and one for the cluster as it is now is launched
  pub sent_back : replies three_brokers (opening_of three_brokers) (overtaken ++ plan_for_then trace ∷ event.PlanTake ∷ plan_for_now trace ∷ event.Take ∷ [])
      ≡ reply.Accepted (id_at 0) ∷ reply.Job 1 (problem three_brokers (opening_of three_brokers)) ∷ reply.Killed (record { dead = 0; aborting = 0 }) ∷ reply.SentBack
      ∷ reply.Job 2 (problem three_brokers (state_after three_brokers overtaken)) ∷ reply.PlanDone ∷ given 1 (work.Copy 1 0) true ∷ []
  -- one request at a time is to be carried out, a dry run meets none, and Close ends all requests
  pub requested : replies two_brokers (opening_of two_brokers) requests
      ≡ reply.Accepted (id_at 0) ∷ reply.Accepted (id_at 1) ∷ reply.Executing (id_at 0) ∷ reply.StaleJob 0 ∷ reply.Closed ∷ reply.Closing ∷ []
  -- a cap that is set is in force, and the others keep their values; not after Close
  pub caps_set : replies two_brokers (opening_of two_brokers) settings
      ≡ reply.CapsSet (record { broker = 1; cluster = 1250; leader = 1000 }) ∷ reply.Closed ∷ reply.Closing ∷ []
  pub caps_kept : (state_after two_brokers settings).desk.exec.caps ≡ record { broker = 1; cluster = 1250; leader = 1000 }
