-- Bodies are plain: their numbers are whole, and they nest no deeper than a reader of JSON goes.
use Rattle.std.proofs.Common.{◌≡◌, ℕ, Bool, List, [], map, false, refl, ◌≤◌, arith}
use Rattle.serde_json.specs.Data.{depth, items_depth}
use Rattle.serde_json.specs.View.{items_of}
use Rattle.serde_json.specs.Written.{has_float, items_have_float}
use Rattle.plain_json.proofs.Items.{whole_items, flat_items, whole_numbers, flat_numbers}
use Rattle.plan_terms.specs.declared.settings.Caps.{Caps}
use Rattle.goal_set.specs.declared.kinds.GoalKind.{GoalKind}
use Rattle.goal_set.specs.declared.cause.Cause.{Cause}
use Rattle.goal_set.specs.declared.cause.Cause.TheVariants as cause
use Rattle.anomaly_detector.specs.declared.decision.Decision.{Decision}
use Rattle.anomaly_detector.specs.declared.decision.Decision.TheVariants as decision
use Rattle.exec_terms.specs.declared.replies.Stopped.{Stopped}
use Rattle.exec_terms.specs.declared.replies.Killed.{Killed}
use Rattle.user_tasks.specs.declared.table.Status.{Status}
use Rattle.core_terms.specs.declared.replies.Named.{Named}
use Rattle.core_terms.specs.declared.shows.PartShown.{PartShown}
use Rattle.core_terms.specs.declared.shows.Shown.{Shown}
use Rattle.core_terms.specs.declared.shows.Shown.TheVariants as shown
use Rattle.review_board.specs.declared.events.Row.{Row}
use Rattle.rest_replies.specs.Answers.{shown_data}
use Rattle.rest_replies.specs.Bodies.{anomaly_data, broker_data, caps_data, cause_data, decided_data, done_data, ended_data, ending_data, error_data, failed_data, killed_data, open_data, part_data, proposal_data, pumped_data, row_data, rows_data, sampled_data, stopped_data, task_data}
use Rattle.rest_replies.specs.Plain.{IsPlain}

whole_proposal : (p : Named) → has_float (proposal_data p) ≡ false
whole_proposal p = rw (whole_numbers p.after, whole_numbers p.before) refl

flat_proposal : (p : Named) → depth (proposal_data p) ≤ 2
flat_proposal p = omega (arith, flat_numbers p.after, flat_numbers p.before)

whole_proposals : (ps : List Named) → items_have_float (items_of (map proposal_data ps)) ≡ false
whole_proposals = whole_items proposal_data whole_proposal

flat_proposals : (ps : List Named) → items_depth (items_of (map proposal_data ps)) ≤ 2
flat_proposals = flat_items proposal_data 2 flat_proposal

whole_part : (p : PartShown) → has_float (part_data p) ≡ false
whole_part p = rw (whole_numbers p.adding, whole_numbers p.removing, whole_numbers p.replicas) refl

flat_part : (p : PartShown) → depth (part_data p) ≤ 2
flat_part p = omega (arith, flat_numbers p.adding, flat_numbers p.removing, flat_numbers p.replicas)

pub error_plain : (text : List ℕ) → IsPlain (error_data text)
error_plain text = record { whole = refl; shallow = omega arith }

pub open_plain : (id : List ℕ) (s : Status) → IsPlain (open_data id s)
open_plain id s = record { whole = refl; shallow = omega arith }

pub done_plain : (id : List ℕ) (s : Status) (ps : List Named) → IsPlain (done_data id s ps)
done_plain id s ps = record { whole = rw (whole_proposals ps) refl; shallow = omega (arith, flat_proposals ps) }

pub failed_plain : (id : List ℕ) (s : Status) (goal : GoalKind) (left : ℕ) → IsPlain (failed_data id s goal left)
failed_plain id s goal left = record { whole = refl; shallow = omega arith }

pub ended_plain : (id : List ℕ) (s : Status) (aborted dead : ℕ) (ps : List Named) → IsPlain (ended_data id s aborted dead ps)
ended_plain id s aborted dead ps = record { whole = rw (whole_proposals ps) refl; shallow = omega (arith, flat_proposals ps) }

pub stopped_plain : (s : Stopped) → IsPlain (stopped_data s)
stopped_plain s = record { whole = refl; shallow = omega arith }

pub killed_plain : (k : Killed) → IsPlain (killed_data k)
killed_plain k = record { whole = refl; shallow = omega arith }

pub sampled_plain : IsPlain sampled_data
sampled_plain = record { whole = refl; shallow = omega arith }

pub ending_plain : IsPlain ending_data
ending_plain = record { whole = refl; shallow = omega arith }

pub caps_plain : (c : Caps) → IsPlain (caps_data c)
caps_plain c = record { whole = refl; shallow = omega arith }

anomaly_plain : (name brokers : List ℕ) → IsPlain (anomaly_data name brokers)
anomaly_plain name brokers = record { whole = rw (whole_numbers brokers) refl; shallow = omega (arith, flat_numbers brokers) }

cause_plain : (why : Cause) → IsPlain (cause_data why)
cause_plain (cause.BrokerFailure brokers) = anomaly_plain _ brokers
cause_plain (cause.GoalViolation goal) = anomaly_plain _ []

pub decided_plain : (d : Decision) → IsPlain (decided_data d)
decided_plain (decision.Fix why ask) = cause_plain why
decided_plain (decision.Alert brokers) = anomaly_plain _ brokers
decided_plain (decision.Waiting brokers) = anomaly_plain _ brokers
decided_plain decision.Fine = anomaly_plain _ []

pub pumped_plain : (done : ℕ) (idle : Bool) → IsPlain (pumped_data done idle)
pumped_plain done idle = record { whole = refl; shallow = omega arith }

pub shown_plain : (s : Shown) → IsPlain (shown_data s)
shown_plain (shown.State s) = record { whole = refl; shallow = omega arith }
shown_plain (shown.Load brokers) = record {
  whole = rw (whole_items broker_data (λ b. refl) brokers) refl;
  shallow = omega (arith, flat_items broker_data 1 (λ b. omega arith) brokers);
}
shown_plain (shown.ClusterState lost parts) = record {
  whole = rw (whole_numbers lost, whole_items part_data whole_part parts) refl;
  shallow = omega (arith, flat_numbers lost, flat_items part_data 2 flat_part parts);
}
shown_plain (shown.UserTasks tasks) = record {
  whole = rw (whole_items task_data (λ t. refl) tasks) refl;
  shallow = omega (arith, flat_items task_data 1 (λ t. omega arith) tasks);
}

pub rows_plain : (rows : List Row) → IsPlain (rows_data rows)
rows_plain rows = record {
  whole = rw (whole_items row_data (λ r. refl) rows) refl;
  shallow = omega (arith, flat_items row_data 1 (λ r. omega arith) rows);
}
