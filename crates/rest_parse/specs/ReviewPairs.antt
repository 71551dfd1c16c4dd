-- The parameters of requests to a review board, and the forms of their values.
use Rattle.std.specs.Prelude.{ℕ, ◌<◌, ◌^◌, Bool, false, not, ◌||◌, List, [], ◌∷◌, ◌++◌, bytes_eq, if◌then◌else◌, is_some, Option, Some, None, unwrap_or, option_and_then, codes}
use Rattle.std.specs.List.{list_any}
use Rattle.plan_terms.specs.Cluster.{has}
use Rattle.plan_terms.specs.Commas.{pieces}
use Rattle.plan_terms.specs.Digits.{whole_of}
use Rattle.rest_parse.specs.Parameters.{both, is_unused, parameter_of, within}
use Rattle.rest_parse.specs.Query.{Pair, has_name, value_at}
use Rattle.rest_parse.specs.declared.parameters.Parameter.{Parameter}
use Rattle.rest_parse.specs.declared.review_pairs.Form.{Form}
use Rattle.rest_parse.specs.declared.review_pairs.Form.TheVariants as form

-- the names of its parameters: the review whose request is taken; those that are approved; those that are discarded
abbrev pub id_name : List ℕ
id_name = codes "review_id"

abbrev pub approve_name : List ℕ
approve_name = codes "approve"

abbrev pub discard_name : List ℕ
discard_name = codes "discard"

-- the id of a review is below 2^53
abbrev pub IsReviewId : ℕ → Type 0
IsReviewId n = n < 2 ^ 53

-- the id of a review: a whole number in that range
abbrev pub review_id_of : List ℕ → Option ℕ
review_id_of text = within 0 (2 ^ 53) (whole_of text)

-- the ids that these texts are, where each is one
abbrev pub review_ids_of : List (List ℕ) → Option (List ℕ)
review_ids_of [] = Some []
review_ids_of (text ∷ texts) = both (review_id_of text) (review_ids_of texts)

-- ids parted by commas, at least one
unfoldable pub review_list_of : List ℕ → Option (List ℕ)
review_list_of text = review_ids_of (pieces text)

-- accepted everywhere
abbrev pub is_free : Option Parameter → Bool
is_free None = false
is_free (Some p) = is_unused p

-- the request takes the pair: a take its id, a review its two lists, one without a parameter of its own nothing; and each what is accepted
-- everywhere
abbrev pub fits : Form → Pair → Bool
fits form.Take p = if bytes_eq p.0 id_name then is_some (review_id_of p.1) else is_free (parameter_of p.0)
fits form.Review p = if bytes_eq p.0 approve_name || bytes_eq p.0 discard_name then is_some (review_list_of p.1) else is_free (parameter_of p.0)
fits form.Bare p = is_free (parameter_of p.0)

-- the name of the first pair, behind those before, that the request doesn't take or whose name stands again
abbrev pub unfit_name : Form → List Pair → List Pair → Option (List ℕ)
unfit_name f before [] = None
unfit_name f before (p ∷ rest) = if has_name p.0 before || not (fits f p) then Some p.0 else unfit_name f (before ++ p ∷ []) rest

-- the id of a take
abbrev pub review_id_in : List Pair → ℕ
review_id_in pairs = unwrap_or (option_and_then review_id_of (value_at id_name pairs)) 0

-- the ids of a list, none where it isn't there
abbrev pub review_ids_at : List ℕ → List Pair → List ℕ
review_ids_at name pairs = unwrap_or (option_and_then review_list_of (value_at name pairs)) []

-- of the two lists one has to be there
abbrev pub missing_list : List Pair → Option (List ℕ)
missing_list pairs = if has_name approve_name pairs || has_name discard_name pairs then None else Some approve_name

-- an id stands in the list twice
abbrev pub repeats : List ℕ → Bool
repeats [] = false
repeats (id ∷ ids) = has ids id || repeats ids

-- an id stands in both lists
abbrev pub overlap : List ℕ → List ℕ → Bool
overlap xs ys = list_any (has ys) xs

-- the list in which an id stands that was named before; those that are approved are named before those that are discarded
abbrev pub repeating_list : List ℕ → List ℕ → Option (List ℕ)
repeating_list approve discard =
    if repeats approve then Some approve_name
    else (if repeats discard || overlap approve discard then Some discard_name else None)
