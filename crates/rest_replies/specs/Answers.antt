-- The reply to what is told: its code, the user task that it carries, and its body; and its bytes.
use Rattle.std.specs.Prelude.{◌≡◌, ℕ, List, [], ◌++◌, length, Option, Some, None, option_map, codes}
use Rattle.std.specs.Option.{option_or}
use Rattle.serde_json.specs.Data.{Data}
use Rattle.serde_json.specs.Read.{read}
use Rattle.serde_json.specs.View.{view}
use Rattle.serde_json.specs.Written.{compact_text}
use Rattle.user_tasks.specs.declared.table.Status.{Status}
use Rattle.user_tasks.specs.declared.table.Status.TheVariants as status
use Rattle.core_terms.specs.declared.replies.Outcome.{Outcome}
use Rattle.core_terms.specs.declared.replies.Outcome.TheVariants as outcome
use Rattle.core_terms.specs.declared.replies.Reply.{Reply}
use Rattle.core_terms.specs.declared.replies.Reply.TheVariants as reply
use Rattle.core_terms.specs.declared.shows.Shown.{Shown}
use Rattle.core_terms.specs.declared.shows.Shown.TheVariants as shown
use Rattle.review_board.specs.declared.events.BoardReply.{BoardReply}
use Rattle.review_board.specs.declared.events.BoardReply.TheVariants as board
use Rattle.rest_replies.specs.Bodies.{caps_data, cluster_data, decided_data, done_data, ended_data, ending_data, error_data, failed_data, filed_data, killed_data, loads_data, open_data, pumped_data, rows_data, sampled_data, state_data, stopped_data, tasks_data}
use Rattle.rest_replies.specs.Refusals.{Refused, board_refusal, core_refusal, http_refusal, no_memory, step_refusal, stop_refusal, with_number}
use Rattle.rest_replies.specs.Texts.{head_text, page_text, reply_text}
use Rattle.rest_replies.specs.declared.answer.Answer.{Answer}
use Rattle.rest_replies.specs.declared.texts.Code.{Code}
use Rattle.rest_replies.specs.declared.texts.Code.TheVariants as code
use Rattle.core_terms.specs.declared.pumps.PumpEnd.{PumpEnd}
use Rattle.core_terms.specs.declared.pumps.PumpEnd.TheVariants as pump
use Rattle.rest_replies.specs.declared.told.Told.{Told}
use Rattle.rest_replies.specs.declared.told.Told.TheVariants as told

-- a reply before it is written
pub record AnswerView : Type 0 where
  pub code : Code
  pub task : Option (List ℕ)
  pub body : Data

-- what a reply of the code is
abbrev pub answer_seen : Answer → AnswerView
answer_seen a = record { code = a.code; task = a.task; body = view a.body }

-- 200 with this body, and no user task
abbrev pub ok_answer : Data → AnswerView
ok_answer body = record { code = code.Ok; task = None; body = body }

-- of a user task, by what came of it
abbrev pub task_answer : List ℕ → Status → Outcome → AnswerView
task_answer id s outcome.Open = record { code = code.Accepted; task = Some id; body = open_data id s }
task_answer id s (outcome.Done proposals) = record { code = code.Ok; task = Some id; body = done_data id s proposals }
task_answer id s (outcome.Failed goal left) = record { code = code.Ok; task = Some id; body = failed_data id s goal left }
task_answer id s (outcome.Ended aborted dead proposals) = record { code = code.Ok; task = Some id; body = ended_data id s aborted dead proposals }

-- of what is shown
abbrev pub shown_data : Shown → Data
shown_data (shown.State s) = state_data s
shown_data (shown.Load brokers) = loads_data brokers
shown_data (shown.ClusterState lost parts) = cluster_data lost parts
shown_data (shown.UserTasks tasks) = tasks_data tasks

-- of a refusal, which carries no user task
abbrev pub refused : Refused → AnswerView
refused r = record { code = r.0; task = None; body = error_data r.1 }

-- of the core's answer to an event, where that is no refusal
abbrev pub core_result : Reply → Option AnswerView
core_result (reply.Task id s outcome) = Some (task_answer id s outcome)
core_result (reply.Accepted id) = Some (task_answer id status.Active outcome.Open)
core_result (reply.Stopped s) = Some (ok_answer (stopped_data s))
core_result (reply.Killed k) = Some (ok_answer (killed_data k))
core_result reply.Sampled = Some (ok_answer sampled_data)
core_result (reply.CapsSet caps) = Some (ok_answer (caps_data caps))
core_result (reply.Shown s) = Some (ok_answer (shown_data s))
core_result r = None

-- of the core's answer to an event. What no client is told has none: what planners and movers are answered, and that of Close.
abbrev pub core_answer : Reply → Option AnswerView
core_answer r = option_or (core_result r) (option_map refused (core_refusal r))

-- of the end of a pump
abbrev pub pump_answer : PumpEnd → Option AnswerView
pump_answer (pump.Done done idle) = Some (ok_answer (pumped_data done idle))
pump_answer (pump.AdminFault n) = option_map refused (with_number code.InternalError (codes "admin fault: ") n)
pump_answer pump.Memory = option_map refused no_memory

-- 202 with this body, and no user task
abbrev pub accepted_answer : Data → AnswerView
accepted_answer body = record { code = code.Accepted; task = None; body = body }

-- of a board's answer to an event, where that is no refusal
abbrev pub board_result : BoardReply → Option AnswerView
board_result (board.Filed id) = Some (accepted_answer (filed_data id))
board_result (board.Reviewed rows) = Some (ok_answer (rows_data rows))
board_result (board.Listed rows) = Some (ok_answer (rows_data rows))
board_result r = None

-- of a board's answer to an event. A request that was given out has none here: it is answered as what it asks.
abbrev pub board_answer : BoardReply → Option AnswerView
board_answer r = option_or (board_result r) (option_map refused (board_refusal r))

-- of what is told; the page has none
abbrev pub answer_of : Told → Option AnswerView
answer_of (told.Core r) = core_answer r
answer_of (told.Step fault) = option_map refused (step_refusal fault)
answer_of (told.Pump end) = pump_answer end
answer_of (told.Decided d) = Some (ok_answer (decided_data d))
answer_of (told.Http fault) = option_map refused (http_refusal fault)
answer_of (told.Stopped why) = option_map refused (stop_refusal why)
answer_of (told.Board r) = board_answer r
answer_of told.Ending = Some (ok_answer ending_data)
answer_of told.Page = None

-- the bytes of a reply; none where there is no reply
abbrev pub bytes_of : Option AnswerView → List ℕ
bytes_of None = []
bytes_of (Some a) = reply_text a.code a.task (compact_text a.body)

-- the bytes of the reply that tells so
abbrev pub reply_of : Told → List ℕ
reply_of told.Page = page_text
reply_of t = bytes_of (answer_of t)

-- what a client reads: behind the head, which says how many bytes it has, stands a text that is JSON of the body
pub record ReadsAs (bytes : List ℕ) (a : AnswerView) : Type 0 where
  pub text : List ℕ
  pub framed : bytes ≡ head_text a.code a.task (length text) ++ text
  pub body : read text ≡ Some a.body
