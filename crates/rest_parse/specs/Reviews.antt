-- What requests mean where those that start something are reviewed first.
use Rattle.std.specs.Prelude.{ℕ, Bool, true, false, ◌&&◌, List, [], bytes_eq, if◌then◌else◌, Option, Some, None, Result, Ok, Err, All, codes}
use Rattle.rest_parse.specs.Calls.{IsInRange, meaning, unless_bad}
use Rattle.rest_parse.specs.Query.{Pair, has_name, pairs_of, path_in, query_in}
use Rattle.rest_parse.specs.ReviewPairs.{IsReviewId, approve_name, discard_name, id_name, missing_list, repeating_list, review_id_in, review_ids_at, unfit_name}
use Rattle.rest_parse.specs.Routes.{endpoint_at}
use Rattle.rest_parse.specs.declared.calls.Call.{Call}
use Rattle.rest_parse.specs.declared.calls.Call.TheVariants as call
use Rattle.rest_parse.specs.declared.calls.HttpFault.{HttpFault}
use Rattle.rest_parse.specs.declared.calls.HttpFault.TheVariants as fault
use Rattle.rest_parse.specs.declared.review_pairs.Form.TheVariants as form
use Rattle.rest_parse.specs.declared.reviews.ReviewCall.{ReviewCall}
use Rattle.rest_parse.specs.declared.reviews.ReviewCall.TheVariants as review
use Rattle.rest_parse.specs.declared.routes.Endpoint.{Endpoint}
use Rattle.rest_parse.specs.declared.routes.Endpoint.TheVariants as endpoint
use Rattle.rest_stream.specs.declared.raw.RawRequest.{RawRequest}

-- requests to it are reviewed
abbrev pub is_reviewed : Endpoint → Bool
is_reviewed endpoint.Rebalance = true
is_reviewed endpoint.AddBroker = true
is_reviewed endpoint.RemoveBroker = true
is_reviewed endpoint.DemoteBroker = true
is_reviewed endpoint.StopExecution = true
is_reviewed endpoint.Admin = true
is_reviewed endpoint.TopicConfiguration = true
is_reviewed e = false

-- it asks by a key how far a plan is, and starts nothing
abbrev pub is_keyed : Call → Bool
is_keyed (call.Submit ask (Some id)) = true
is_keyed c = false

-- a request that means a call is kept for its review, unless a key makes it start nothing
abbrev pub filed : List ℕ → List ℕ → Result Call HttpFault → Result ReviewCall HttpFault
filed path target (Ok c) = if is_keyed c then Ok (review.Plain c) else Ok (review.File path target)
filed path target (Err f) = Err f

-- a request that was kept is asked for by the id of its review
abbrev pub take_meaning : List ℕ → List Pair → Result ReviewCall HttpFault
take_meaning path pairs = unless_bad (unfit_name form.Take [] pairs) (Ok (review.Take (review_id_in pairs) path))

-- a review
abbrev pub review_of : List ℕ → List ℕ → Result ReviewCall HttpFault
review_of approve discard = unless_bad (repeating_list approve discard) (Ok (review.Review approve discard))

abbrev pub review_meaning : List Pair → Result ReviewCall HttpFault
review_meaning pairs =
    unless_bad (unfit_name form.Review [] pairs)
    (unless_bad (missing_list pairs) (review_of (review_ids_at approve_name pairs) (review_ids_at discard_name pairs)))

-- a look at the board
abbrev pub list_meaning : List Pair → Result ReviewCall HttpFault
list_meaning pairs = unless_bad (unfit_name form.Bare [] pairs) (Ok review.List)

-- what isn't reviewed
abbrev pub plain : Result Call HttpFault → Result ReviewCall HttpFault
plain (Ok c) = Ok (review.Plain c)
plain (Err f) = Err f

-- the request is asked by this method
abbrev pub by_method : List ℕ → RawRequest → Result ReviewCall HttpFault → Result ReviewCall HttpFault
by_method method raw meant = if bytes_eq raw.method method then meant else Err fault.WrongMethod

-- a `POST` to a reviewed endpoint names a review, or is kept for one
abbrev pub kept : List ℕ → List Pair → RawRequest → Result ReviewCall HttpFault
kept path pairs raw = if has_name id_name pairs then take_meaning path pairs else filed path raw.target (meaning raw)

abbrev pub reviewed_at : Option Endpoint → List ℕ → List Pair → RawRequest → Result ReviewCall HttpFault
reviewed_at None path pairs raw = plain (meaning raw)
reviewed_at (Some e) path pairs raw = if is_reviewed e && bytes_eq raw.method (codes "POST") then kept path pairs raw else plain (meaning raw)

-- the paths of reviews and of the board
abbrev pub review_path : List ℕ
review_path = codes "/kafkacruisecontrol/review"

abbrev pub board_path : List ℕ
board_path = codes "/kafkacruisecontrol/review_board"

-- what a path is asked by pairs
abbrev pub reviewed_on : List ℕ → List Pair → RawRequest → Result ReviewCall HttpFault
reviewed_on path pairs raw =
    if bytes_eq path review_path then by_method (codes "POST") raw (review_meaning pairs)
    else (if bytes_eq path board_path then by_method (codes "GET") raw (list_meaning pairs) else reviewed_at (endpoint_at path) path pairs raw)

-- what a request means, or its first fault: the path, the method, the pairs in their order, a list that is missing, and an id that stands twice
unfoldable pub reviewed_meaning : RawRequest → Result ReviewCall HttpFault
reviewed_meaning raw = reviewed_on (path_in raw.target) (pairs_of (query_in raw.target)) raw

-- its numbers are in their ranges
abbrev pub IsReviewInRange : ReviewCall → Type 0
IsReviewInRange (review.File path target) = Unit {0}
IsReviewInRange (review.Take id path) = IsReviewId id
IsReviewInRange (review.Review approve discard) = All IsReviewId approve × All IsReviewId discard
IsReviewInRange review.List = Unit {0}
IsReviewInRange (review.Plain c) = IsInRange c
