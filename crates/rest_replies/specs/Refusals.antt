-- The refusals: which of what is told is one, with its code and its text.
use Rattle.std.specs.Prelude.{ℕ, List, ◌++◌, Option, Some, None, codes, decimal, string_bytes}
use Rattle.uuid.specs.Text.{hyphenated_text, lower}
use Rattle.goal_set.specs.declared.list.GoalFault.{GoalFault}
use Rattle.goal_set.specs.declared.list.GoalFault.TheVariants as goals
use Rattle.core_terms.specs.declared.faults.StepFault.{StepFault}
use Rattle.core_terms.specs.declared.faults.StepFault.TheVariants as step
use Rattle.core_terms.specs.declared.replies.Reply.{Reply}
use Rattle.core_terms.specs.declared.replies.Reply.TheVariants as reply
use Rattle.rest_parse.specs.declared.calls.HttpFault.{HttpFault}
use Rattle.rest_parse.specs.declared.calls.HttpFault.TheVariants as http
use Rattle.rest_stream.specs.declared.raw.Stop.{Stop}
use Rattle.rest_stream.specs.declared.raw.Stop.TheVariants as stop
use Rattle.review_board.specs.declared.events.BoardReply.{BoardReply}
use Rattle.review_board.specs.declared.events.BoardReply.TheVariants as board
use Rattle.review_board.specs.declared.events.ReviewState.{ReviewState}
use Rattle.rest_replies.specs.Texts.{review_state_text}
use Rattle.rest_replies.specs.declared.refusals.Refusal.{Refusal}
use Rattle.rest_replies.specs.declared.texts.Code.{Code}
use Rattle.rest_replies.specs.declared.texts.Code.TheVariants as code

-- a code and a text
abbrev pub Refused : Type 0
Refused = Code × List ℕ

abbrev pub refusal_seen : Refusal → Refused
refusal_seen r = (r.code, string_bytes r.text)

abbrev pub plain : Code → List ℕ → Option Refused
plain c text = Some (c, text)

-- with an id at the end
abbrev pub with_id : Code → List ℕ → List ℕ → Option Refused
with_id c text id = plain c (text ++ hyphenated_text lower id)

-- with a number at the end
abbrev pub with_number : Code → List ℕ → ℕ → Option Refused
with_number c text n = plain c (text ++ decimal n)

-- want of memory, wherever it comes from
abbrev pub no_memory : Option Refused
no_memory = plain code.Unavailable (codes "want of memory")

-- why a request means nothing
abbrev pub http_refusal : HttpFault → Option Refused
http_refusal http.NotFound = plain code.NotFound (codes "not found")
http_refusal http.WrongMethod = plain code.MethodNotAllowed (codes "method not allowed")
http_refusal (http.BadParameter name) = plain code.BadRequest (codes "bad parameter: " ++ name)
http_refusal http.BadBody = plain code.BadRequest (codes "bad body")
http_refusal http.Memory = no_memory

-- why a stream has no further request. Nothing is written where it ended, where a read failed, and where the reader had no memory.
abbrev pub stop_refusal : Stop → Option Refused
stop_refusal stop.End = None
stop_refusal stop.Truncated = None
stop_refusal stop.BadHead = plain code.BadRequest (codes "bad head")
stop_refusal stop.BadLength = plain code.BadRequest (codes "bad length")
stop_refusal stop.HeadTooLong = plain code.FieldsTooLarge (codes "head too long")
stop_refusal stop.BodyTooLong = plain code.ContentTooLarge (codes "body too long")
stop_refusal stop.NoChunked = plain code.NotImplemented (codes "transfer encoding is not taken")
stop_refusal stop.ReadFault = None
stop_refusal stop.Memory = None

-- why the names of goals make no list
abbrev pub goals_refusal : GoalFault → Option Refused
goals_refusal (goals.UnknownGoal name) = plain code.BadRequest (codes "unknown goal: " ++ name)
goals_refusal (goals.RepeatedGoal name) = plain code.BadRequest (codes "repeated goal: " ++ name)
goals_refusal (goals.MissingHardGoal name) = plain code.BadRequest (codes "missing hard goal: " ++ name)
goals_refusal goals.Memory = no_memory

-- why the book took no event
abbrev pub step_refusal : StepFault → Option Refused
step_refusal (step.AdminFault n) = with_number code.InternalError (codes "admin fault: ") n
step_refusal step.Memory = no_memory

-- which of the core's answers are refusals
abbrev pub core_refusal : Reply → Option Refused
core_refusal (reply.NoSuchTask id) = with_id code.NotFound (codes "no such task: ") id
core_refusal (reply.OtherRequest id) = with_id code.BadRequest (codes "other request: ") id
core_refusal reply.Closing = plain code.Unavailable (codes "closing")
core_refusal (reply.NoSuchBroker id) = with_number code.BadRequest (codes "no such broker: ") id
core_refusal (reply.BadGoals fault) = goals_refusal fault
core_refusal (reply.Executing id) = with_id code.Conflict (codes "execution unfinished: ") id
core_refusal reply.TooManyActive = plain code.TooManyRequests (codes "16 tasks are active")
core_refusal (reply.NotEnoughWindows valid all) = plain code.Conflict (codes "valid partitions: " ++ (decimal valid ++ (codes " of " ++ decimal all)))
core_refusal (reply.NoSuchTopic topic) = plain code.BadRequest (codes "no such topic: " ++ topic)
core_refusal (reply.TooFewBrokers n) = with_number code.Conflict (codes "too few brokers: ") n
core_refusal reply.NothingToStop = plain code.Conflict (codes "nothing to stop")
core_refusal (reply.AlreadyDead id) = with_number code.Conflict (codes "already dead: ") id
core_refusal reply.NoSuchPartition = plain code.BadRequest (codes "no such partition")
core_refusal (reply.TooOld window) = with_number code.Conflict (codes "too old, oldest window: ") window
core_refusal reply.WindowFull = plain code.Conflict (codes "window full")
core_refusal r = None

-- a request is too far for what is asked, or not far enough
abbrev pub state_refusal : ℕ → ReviewState → Option Refused
state_refusal id s = plain code.Conflict (codes "review " ++ (decimal id ++ (codes " is " ++ review_state_text s)))

-- which of a board's answers are refusals
abbrev pub board_refusal : BoardReply → Option Refused
board_refusal (board.NoSuchReview id) = with_number code.BadRequest (codes "no such review: ") id
board_refusal (board.OtherEndpoint id) = with_number code.BadRequest (codes "other endpoint: ") id
board_refusal (board.NotPending id s) = state_refusal id s
board_refusal (board.NotApproved id s) = state_refusal id s
board_refusal r = None
