-- A look at the brokers that are lost.
use Rattle.std.specs.Prelude.{ℕ, Bool, ◌==◌, ◌&&◌, List, map, find, option_map, unwrap_or, if◌then◌else◌}
use Rattle.std.specs.List.{filter, list_any}
use Rattle.plan_terms.specs.Cluster.{Cluster, Lists, has}
use Rattle.plan_terms.specs.States.{is_dead}
use Rattle.plan_terms.specs.declared.cluster.Broker.{Broker}
use Rattle.exec_terms.specs.Settled.{settled_lists}
use Rattle.cluster_json.specs.File.{Meaning}
use Rattle.core_terms.specs.State.{Core, moment_of}
use Rattle.core_terms.specs.declared.replies.Reply.{Reply}
use Rattle.core_terms.specs.declared.replies.Reply.TheVariants as reply

-- the moment beside a broker, else now
abbrev pub moment_since : List (ℕ × ℕ) → ℕ → ℕ → ℕ
moment_since since now b = unwrap_or (option_map (λ x. x.1) (find (λ x. x.0 == b) since)) now

-- the broker is lost, and a list names it
abbrev pub is_missed : Lists → Broker → Bool
is_missed lists b = is_dead b.state && list_any (λ list. has list b.id) lists

-- the lost brokers that a list names, in the order of the cluster, each with the moment that it had, else with now
unfoldable pub lost_since : Cluster → Lists → List (ℕ × ℕ) → ℕ → List (ℕ × ℕ)
lost_since c lists since now = map (λ b. (b.id, moment_since since now b.id)) (filter (is_missed lists) c.brokers)

-- a look at the present cluster and the settled lists
abbrev pub looked : Meaning → Core → ℕ → List (ℕ × ℕ)
looked file s now = lost_since (moment_of file s).cluster (settled_lists s.desk.exec) s.since now

abbrev pub reply_look : Meaning → Core → ℕ → Reply
reply_look file s now =
    if s.desk.closing then reply.Closing
    else reply.Looked (record { since = looked file s now; case = (moment_of file s).cluster; lists = settled_lists s.desk.exec })

-- the moments after it; after Close nothing is looked at
abbrev pub since_after : Meaning → Core → ℕ → List (ℕ × ℕ)
since_after file s now = if s.desk.closing then s.since else looked file s now
