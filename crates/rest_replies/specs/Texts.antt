-- Texts of replies.
use Rattle.std.specs.Prelude.{ℕ, ◌==◌, List, [], ◌∷◌, ◌++◌, length, Option, Some, None, codes, decimal}
use Rattle.std.specs.List.{after_last}
use Rattle.std.specs.Str.Lossy.{utf8_lossy}
use Rattle.uuid.specs.Text.{hyphenated_text, lower}
use Rattle.plan_terms.specs.declared.cluster.BrokerState.{BrokerState}
use Rattle.plan_terms.specs.declared.cluster.BrokerState.TheVariants as broker
use Rattle.user_tasks.specs.declared.ask.Op.{Op}
use Rattle.user_tasks.specs.declared.ask.Op.TheVariants as op
use Rattle.user_tasks.specs.declared.table.Status.{Status}
use Rattle.user_tasks.specs.declared.table.Status.TheVariants as status
use Rattle.core_terms.specs.declared.shows.ExecutorState.{ExecutorState}
use Rattle.core_terms.specs.declared.shows.ExecutorState.TheVariants as executor
use Rattle.review_board.specs.declared.events.ReviewState.{ReviewState}
use Rattle.review_board.specs.declared.events.ReviewState.TheVariants as review
use Rattle.plan_terms.specs.Bytes.{line_feed, carriage_return, slash}
use Rattle.rest_replies.specs.declared.page.TheConstants.{PAGE}
use Rattle.rest_replies.specs.declared.texts.Code.{Code}
use Rattle.rest_replies.specs.declared.texts.Code.TheVariants as code

-- a code of HTTP and its phrase
abbrev pub status_text : Code → List ℕ
status_text code.Ok = codes "200 OK"
status_text code.Accepted = codes "202 Accepted"
status_text code.BadRequest = codes "400 Bad Request"
status_text code.NotFound = codes "404 Not Found"
status_text code.MethodNotAllowed = codes "405 Method Not Allowed"
status_text code.Conflict = codes "409 Conflict"
status_text code.ContentTooLarge = codes "413 Content Too Large"
status_text code.TooManyRequests = codes "429 Too Many Requests"
status_text code.FieldsTooLarge = codes "431 Request Header Fields Too Large"
status_text code.InternalError = codes "500 Internal Server Error"
status_text code.NotImplemented = codes "501 Not Implemented"
status_text code.Unavailable = codes "503 Service Unavailable"

-- how far a user task is
abbrev pub task_status_text : Status → List ℕ
task_status_text status.Active = codes "Active"
task_status_text status.InExecution = codes "InExecution"
task_status_text status.Completed = codes "Completed"
task_status_text status.CompletedWithError = codes "CompletedWithError"

-- the last part of the path at which an operation is asked for
abbrev pub endpoint_text : Op → List ℕ
endpoint_text op.Proposals = codes "proposals"
endpoint_text op.Rebalance = codes "rebalance"
endpoint_text op.AddBroker = codes "add_broker"
endpoint_text op.RemoveBroker = codes "remove_broker"
endpoint_text op.DemoteBroker = codes "demote_broker"
endpoint_text op.TopicConfiguration = codes "topic_configuration"

-- the state of a broker, as a cluster file has it
abbrev pub broker_state_text : BrokerState → List ℕ
broker_state_text broker.Alive = codes "ALIVE"
broker_state_text broker.Dead = codes "DEAD"
broker_state_text broker.New = codes "NEW"
broker_state_text broker.Demoted = codes "DEMOTED"

-- what the executor does
abbrev pub executor_state_text : ExecutorState → List ℕ
executor_state_text executor.NoTask = codes "NO_TASK_IN_PROGRESS"
executor_state_text executor.Stopping = codes "STOPPING_EXECUTION"
executor_state_text executor.MovingReplicas = codes "INTER_BROKER_REPLICA_MOVEMENT_TASK_IN_PROGRESS"
executor_state_text executor.MovingLeaders = codes "LEADER_MOVEMENT_TASK_IN_PROGRESS"

-- how far a request is that waits for its review, or did
abbrev pub review_state_text : ReviewState → List ℕ
review_state_text review.PendingReview = codes "PENDING_REVIEW"
review_state_text review.Approved = codes "APPROVED"
review_state_text review.Submitted = codes "SUBMITTED"
review_state_text review.Discarded = codes "DISCARDED"

-- the last part of a path: what stands behind its last `/`
abbrev pub last_part : List ℕ → List ℕ
last_part path = after_last (λ b. b == slash) path

-- the same as a text; what is no UTF-8 is replaced
abbrev pub last_part_text : List ℕ → List ℕ
last_part_text path = utf8_lossy (last_part path)

-- the end of a line of a head
abbrev pub line_end : List ℕ
line_end = carriage_return ∷ line_feed ∷ []

-- the line of a user task, where the reply carries one
abbrev pub task_line : Option (List ℕ) → List ℕ
task_line None = []
task_line (Some id) = codes "User-Task-ID: " ++ (hyphenated_text lower id ++ line_end)

-- the head of a reply with this status, a body of this kind and of so many bytes, and these further lines; an empty line ends it
abbrev pub head_with : List ℕ → List ℕ → ℕ → List ℕ → List ℕ
head_with status kind len lines =
    codes "HTTP/1.1 " ++ (status ++ (line_end
    ++ (codes "Content-Type: " ++ (kind ++ (line_end
    ++ (codes "Content-Length: " ++ (decimal len ++ (line_end
    ++ (lines ++ line_end)))))))))

-- the head of a reply with a body of so many bytes
unfoldable pub head_text : Code → Option (List ℕ) → ℕ → List ℕ
head_text code task len = head_with (status_text code) (codes "application/json") len (task_line task)

-- the head of a page of so many bytes, which no other page may frame
unfoldable pub page_head : ℕ → List ℕ
page_head len = head_with (status_text code.Ok) (codes "text/html; charset=utf-8") len (codes "X-Frame-Options: DENY" ++ line_end)

-- the page: its head and its text
unfoldable pub page_text : List ℕ
page_text = page_head (length PAGE.now) ++ PAGE.now

-- a reply: its head and its body
abbrev pub reply_text : Code → Option (List ℕ) → List ℕ → List ℕ
reply_text code task body = head_text code task (length body) ++ body
