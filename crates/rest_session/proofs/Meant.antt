-- Which calls start something: of requests with a board, only those that were given out.
use Rattle.std.proofs.Common.{◌≡◌, ℕ, Bool, true, false, List, [], Ok, Err, refl, ap, sym, ◌∙◌, inl, inr}
use Rattle.std.specs.Prelude.{◌⊎◌, ◌&&◌, not, unwrap_or, option_and_then, bytes_eq, codes, nat_lt, if◌then◌else◌, Option, Some, None, Result}
use Rattle.std.proofs.lemmas.Bool.{cases_Bool}
use Rattle.uuid.specs.Text.{parsed}
use Rattle.core_terms.specs.declared.events.Event.{Event}
use Rattle.core_terms.specs.declared.events.Event.TheVariants as event
use Rattle.user_tasks.specs.Asks.{AskView}
use Rattle.user_tasks.specs.declared.ask.Op.TheVariants as op
use Rattle.cluster_json.specs.Faults.{Fault}
use Rattle.cluster_json.specs.Named.{named_of}
use Rattle.cluster_json.specs.declared.named.NamedSample.{NamedSample}
use Rattle.rest_parse.specs.Calls.{ask_of, called, cap_at, change_of, detect_call, flag_in, meaning, meaning_at, method_of, missing_name, moment_in, routed, sample_call, submitted, unless_bad}
use Rattle.rest_parse.specs.Parameters.{bad_name, broker_cap, cluster_cap, id_of, leader_cap, steps_of}
use Rattle.rest_parse.specs.Query.{Pair, has_name, pairs_of, path_in, query_in, value_at}
use Rattle.rest_parse.specs.Routes.{endpoint_at}
use Rattle.rest_parse.specs.ReviewPairs.{approve_name, discard_name, id_name, missing_list, repeating_list, review_id_in, review_ids_at, unfit_name}
use Rattle.rest_parse.specs.Reviews.{board_path, by_method, filed, is_keyed, is_reviewed, kept, list_meaning, plain, review_meaning, review_of, review_path, reviewed_at, reviewed_meaning, take_meaning}
use Rattle.rest_parse.specs.declared.calls.Call.{Call}
use Rattle.rest_parse.specs.declared.calls.Call.TheVariants as call
use Rattle.rest_parse.specs.declared.calls.HttpFault.{HttpFault}
use Rattle.rest_parse.specs.declared.calls.HttpFault.TheVariants as fault
use Rattle.rest_parse.specs.declared.review_pairs.Form.TheVariants as form
use Rattle.rest_parse.specs.declared.reviews.ReviewCall.{ReviewCall}
use Rattle.rest_parse.specs.declared.reviews.ReviewCall.TheVariants as review
use Rattle.rest_parse.specs.declared.routes.Endpoint.{Endpoint}
use Rattle.rest_parse.specs.declared.routes.Endpoint.TheVariants as endpoint
use Rattle.user_tasks.specs.declared.ask.Query.TheVariants as query
use Rattle.rest_stream.specs.declared.raw.RawRequest.{RawRequest}
use Rattle.rest_session.specs.Calls.{asked_by}
use Rattle.rest_session.specs.Reviewed.{given_request, starts}
use Rattle.rest_session.specs.Starts.{is_proposals, is_started}
use Rattle.rest_session.specs.declared.calls.Asked.TheVariants as asked
use Rattle.rest_session.proofs.Calling.{once_is}

-- a call that starts something
abbrev pub call_starts : Call → Bool
call_starts (call.Submit ask id) = is_started (event.Submit ask id)
call_starts (call.Stop force) = true
call_starts (call.Kill broker) = false
call_starts (call.Sample topic number time loads) = false
call_starts (call.Show query) = false
call_starts (call.Pump steps) = false
call_starts (call.Caps a b c) = true
call_starts (call.Detect now alert heal) = false

pub asked_starts : (c : Call) (e : Event) → asked_by c ≡ asked.Once e → is_started e ≡ call_starts c
asked_starts (call.Submit ask id) e h = ap is_started (sym (once_is _ e h))
asked_starts (call.Stop force) e h = ap is_started (sym (once_is _ e h))
asked_starts (call.Kill broker) e h = ap is_started (sym (once_is _ e h))
asked_starts (call.Sample topic number time loads) e h = ap is_started (sym (once_is _ e h))
asked_starts (call.Show query) e h = ap is_started (sym (once_is _ e h))
asked_starts (call.Caps a b c) e h = ap is_started (sym (once_is _ e h))
asked_starts (call.Pump steps) e h = absurd cc
asked_starts (call.Detect now alert heal) e h = absurd cc

if_cases : {A : Type 0} (b : Bool) (x y z : A) → (if b then x else y) ≡ z → ((b ≡ true) × (x ≡ z)) ⊎ ((b ≡ false) × (y ≡ z))
if_cases true x y z h = inl (refl, h)
if_cases false x y z h = inr (refl, h)

unless_ok : {T : Type 0} (o : Option (List ℕ)) (m : Result T HttpFault) (c : T) → unless_bad o m ≡ Ok c → m ≡ Ok c
unless_ok None m c h = h
unless_ok (Some name) m c h = absurd (cc)

called_of : (e : Endpoint) (pairs : List Pair) (raw : RawRequest) (c : Call) → meaning_at e pairs raw ≡ Ok c → called e pairs raw ≡ Ok c
called_of e pairs raw c h =
    unless_ok (missing_name e pairs) (called e pairs raw) c (unless_ok (bad_name e [] pairs) (unless_bad (missing_name e pairs) (called e pairs raw)) c h)

record IsRouted (e : Endpoint) (raw : RawRequest) (c : Call) : Type 0 where
  method_is : bytes_eq raw.method (method_of e) ≡ true
  called_is : called e (pairs_of (query_in raw.target)) raw ≡ Ok c

routed_of : (e : Endpoint) (raw : RawRequest) (c : Call) → routed (Some e) raw ≡ Ok c → IsRouted e raw c
routed_of e raw c h = elim (if_cases (bytes_eq raw.method (method_of e)) (meaning_at e (pairs_of (query_in raw.target)) raw) (Err fault.WrongMethod) (Ok c) h) [
  | inl p ↦ record { method_is = p.0; called_is = called_of e (pairs_of (query_in raw.target)) raw c p.1 }
  | inr p ↦ absurd (cc)
]

-- with a key nothing starts
keyed : (ask : AskView) (key : List ℕ) (c : Call) → submitted ask (Some key) ≡ Ok c → call_starts c ≡ false
keyed ask key c h = at (parsed key) refl where
  at : (o : Option (List ℕ)) → parsed key ≡ o → call_starts c ≡ false
  at None e = let no : Err (fault.BadParameter (codes "User-Task-ID")) ≡ Ok c = rw e at h in absurd (cc)
  at (Some id) e = let is : Ok (call.Submit ask (Some id)) ≡ Ok c = rw e at h in let it : call.Submit ask (Some id) ≡ c = cc in ap call_starts (sym it)

proposed : (ask : AskView) (key : Option (List ℕ)) (c : Call) → is_proposals ask.op ≡ true → submitted ask key ≡ Ok c → call_starts c ≡ false
proposed ask None c p h = let it : call.Submit ask None ≡ c = cc in ap call_starts (sym it) ∙ ap not p
proposed ask (Some key) c p h = keyed ask key c h

by_is : (d c : Call) → call_starts d ≡ false → ◌≡◌ {A = Result Call HttpFault} (Ok d) (Ok c) → call_starts c ≡ false
by_is d c q h = let it : d ≡ c = cc in ap call_starts (sym it) ∙ q

of_sample : (body : List ℕ) (c : Call) → sample_call body ≡ Ok c → call_starts c ≡ false
of_sample body c h = go (named_of body) refl where
  go : (o : Result NamedSample Fault) → named_of body ≡ o → call_starts c ≡ false
  go (Ok s) e = by_is (call.Sample s.topic s.number s.time s.loads) c refl (rw e at h)
  go (Err f) e = let no : Err fault.BadBody ≡ Ok c = rw e at h in absurd (cc)

of_detect : (pairs : List Pair) (c : Call) → detect_call pairs ≡ Ok c → call_starts c ≡ false
of_detect pairs c h =
    let now = moment_in (codes "now") 0 pairs in
    let alert = moment_in (codes "alert_ms") 900000 pairs in
    let heal = moment_in (codes "heal_ms") 1800000 pairs in
    elim (if_cases (nat_lt heal alert) (Err (fault.BadParameter (codes "heal_ms"))) (Ok (call.Detect now alert heal)) (Ok c) h) [
      | inl p ↦ absurd (cc)
      | inr p ↦ by_is (call.Detect now alert heal) c refl p.1
    ]

quiet_called : (e : Endpoint) (pairs : List Pair) (raw : RawRequest) (c : Call) → is_reviewed e ≡ false → called e pairs raw ≡ Ok c → call_starts c ≡ false
quiet_called endpoint.Proposals pairs raw c q h = proposed (ask_of op.Proposals pairs) raw.key c refl h
quiet_called endpoint.Sample pairs raw c q h = of_sample raw.body c h
quiet_called endpoint.Detect pairs raw c q h = of_detect pairs c h
quiet_called endpoint.TopicConfiguration pairs raw c q h = absurd (cc)
quiet_called endpoint.Rebalance pairs raw c q h = absurd (cc)
quiet_called endpoint.AddBroker pairs raw c q h = absurd (cc)
quiet_called endpoint.RemoveBroker pairs raw c q h = absurd (cc)
quiet_called endpoint.DemoteBroker pairs raw c q h = absurd (cc)
quiet_called endpoint.StopExecution pairs raw c q h = absurd (cc)
quiet_called endpoint.Admin pairs raw c q h = absurd (cc)
quiet_called endpoint.State pairs raw c q h = by_is (call.Show query.State) c refl h
quiet_called endpoint.Load pairs raw c q h = by_is (call.Show query.Load) c refl h
quiet_called endpoint.ClusterState pairs raw c q h = by_is (call.Show query.ClusterState) c refl h
quiet_called endpoint.UserTasks pairs raw c q h = by_is (call.Show query.UserTasks) c refl h
quiet_called endpoint.Pump pairs raw c q h = by_is (call.Pump (unwrap_or (option_and_then steps_of (value_at (codes "steps") pairs)) 1)) c refl h
quiet_called endpoint.Kill pairs raw c q h = by_is (call.Kill (unwrap_or (option_and_then id_of (value_at (codes "broker") pairs)) 0)) c refl h

-- with a key none is
keyed_starts : (c : Call) → is_keyed c ≡ true → call_starts c ≡ false
keyed_starts (call.Submit ask None) k = absurd (cc)
keyed_starts (call.Submit ask (Some id)) k = refl
keyed_starts (call.Stop force) k = absurd (cc)
keyed_starts (call.Kill broker) k = absurd (cc)
keyed_starts (call.Sample topic number time loads) k = absurd (cc)
keyed_starts (call.Show query) k = absurd (cc)
keyed_starts (call.Pump steps) k = absurd (cc)
keyed_starts (call.Caps a b c) k = absurd (cc)
keyed_starts (call.Detect now alert heal) k = absurd (cc)

is_post : (e : Endpoint) → is_reviewed e ≡ true → method_of e ≡ codes "POST"
is_post endpoint.Rebalance r = refl
is_post endpoint.AddBroker r = refl
is_post endpoint.RemoveBroker r = refl
is_post endpoint.DemoteBroker r = refl
is_post endpoint.StopExecution r = refl
is_post endpoint.Admin r = refl
is_post endpoint.TopicConfiguration r = refl
is_post _ r = absurd (cc)

plain_ok : (m : Result Call HttpFault) (c : Call) → plain m ≡ Ok (review.Plain c) → m ≡ Ok c
plain_ok (Ok d) c h = let it : review.Plain d ≡ review.Plain c = cc in let is : d ≡ c = cc in ap Ok is
plain_ok (Err f) c h = absurd (cc)

plain_is : (d c : Call) → ◌≡◌ {A = Result ReviewCall HttpFault} (Ok (review.Plain d)) (Ok (review.Plain c)) → d ≡ c
plain_is d c h = let it : review.Plain d ≡ review.Plain c = cc in cc

filed_ok : (path target : List ℕ) (m : Result Call HttpFault) (c : Call) → filed path target m ≡ Ok (review.Plain c) → call_starts c ≡ false
filed_ok path target (Err f) c h = absurd (cc)
filed_ok path target (Ok d) c h = elim (if_cases (is_keyed d) (Ok (review.Plain d)) (Ok (review.File path target)) (Ok (review.Plain c)) h) [
  | inl p ↦ ap call_starts (sym (plain_is d c p.1)) ∙ keyed_starts d p.0
  | inr p ↦ absurd (cc)
]

-- what is asked of the board is no plain call
no_take : (path : List ℕ) (pairs : List Pair) (c : Call) → take_meaning path pairs ≡ Ok (review.Plain c) → ⊥
no_take path pairs c h =
    let is = unless_ok {T = ReviewCall} (unfit_name form.Take [] pairs) (Ok (review.Take (review_id_in pairs) path)) (review.Plain c) h in
    cc

no_review : (pairs : List Pair) (c : Call) → review_meaning pairs ≡ Ok (review.Plain c) → ⊥
no_review pairs c h =
    let a = review_ids_at approve_name pairs in
    let d = review_ids_at discard_name pairs in
    let both = unless_ok {T = ReviewCall} (unfit_name form.Review [] pairs) (unless_bad (missing_list pairs) (review_of a d)) (review.Plain c) h in
    let one = unless_ok {T = ReviewCall} (missing_list pairs) (review_of a d) (review.Plain c) both in
    let is = unless_ok {T = ReviewCall} (repeating_list a d) (Ok (review.Review a d)) (review.Plain c) one in
    cc

no_list : (pairs : List Pair) (c : Call) → list_meaning pairs ≡ Ok (review.Plain c) → ⊥
no_list pairs c h = let is = unless_ok {T = ReviewCall} (unfit_name form.Bare [] pairs) (Ok review.List) (review.Plain c) h in cc

no_method : (method : List ℕ) (raw : RawRequest) (m : Result ReviewCall HttpFault) (c : Call) → by_method method raw m ≡ Ok (review.Plain c) → m ≡ Ok (review.Plain c)
no_method method raw m c h = elim (if_cases (bytes_eq raw.method method) m (Err fault.WrongMethod) (Ok (review.Plain c)) h) [ inl p ↦ p.1 | inr p ↦ absurd (cc) ]

module _ (raw : RawRequest) (c : Call) where
  meant : (o : Option Endpoint) → endpoint_at (path_in raw.target) ≡ o → meaning raw ≡ Ok c → routed o raw ≡ Ok c
  unfolding meaning
  meant o e h = rw e at h

  by_endpoint : (e : Endpoint) → endpoint_at (path_in raw.target) ≡ Some e → reviewed_at (Some e) (path_in raw.target) (pairs_of (query_in raw.target)) raw ≡ Ok (review.Plain c) → call_starts c ≡ false
  by_endpoint e at h =
      let path = path_in raw.target in
      let pairs = pairs_of (query_in raw.target) in
      elim (if_cases (is_reviewed e && bytes_eq raw.method (codes "POST")) (kept path pairs raw) (plain (meaning raw)) (Ok (review.Plain c)) h) [
        | inl p ↦ elim (if_cases (has_name id_name pairs) (take_meaning path pairs) (filed path raw.target (meaning raw)) (Ok (review.Plain c)) p.1) [
          | inl q ↦ absurd (no_take path pairs c q.1)
          | inr q ↦ filed_ok path raw.target (meaning raw) c q.1
        ]
        | inr p ↦
            let r : IsRouted e raw c = routed_of e raw c (meant (Some e) at (plain_ok (meaning raw) c p.1)) in
            elim (cases_Bool (is_reviewed e)) [
              | inl is_one ↦
                  let m : bytes_eq raw.method (codes "POST") ≡ true = ap (λ (x : List ℕ). bytes_eq raw.method x) (sym (is_post e is_one)) ∙ r.method_is in
                  let no : (is_reviewed e && bytes_eq raw.method (codes "POST")) ≡ true = rw (is_one, m) refl in
                  absurd (cc)
              | inr is_none ↦ quiet_called e pairs raw c is_none r.called_is
            ]
      ]

  by_any : (o : Option Endpoint) → endpoint_at (path_in raw.target) ≡ o → reviewed_at o (path_in raw.target) (pairs_of (query_in raw.target)) raw ≡ Ok (review.Plain c) → call_starts c ≡ false
  by_any None e h = let no : routed None raw ≡ Ok c = meant None e (plain_ok (meaning raw) c h) in absurd (cc)
  by_any (Some x) e h = by_endpoint x e h

  -- a plain call starts nothing
  pub plain_is_quiet : reviewed_meaning raw ≡ Ok (review.Plain c) → call_starts c ≡ false
  unfolding reviewed_meaning
  plain_is_quiet h =
      let path = path_in raw.target in
      let pairs = pairs_of (query_in raw.target) in
      elim (if_cases (bytes_eq path review_path) (by_method (codes "POST") raw (review_meaning pairs))
      (if bytes_eq path board_path then by_method (codes "GET") raw (list_meaning pairs) else reviewed_at (endpoint_at path) path pairs raw) (Ok (review.Plain c)) h) [
        | inl p ↦ absurd (no_review pairs c (no_method (codes "POST") raw (review_meaning pairs) c p.1))
        | inr p ↦ elim (if_cases (bytes_eq path board_path) (by_method (codes "GET") raw (list_meaning pairs)) (reviewed_at (endpoint_at path) path pairs raw) (Ok (review.Plain c)) p.1) [
          | inl q ↦ absurd (no_list pairs c (no_method (codes "GET") raw (list_meaning pairs) c q.1))
          | inr q ↦ by_any (endpoint_at path) refl q.1
        ]
      ]

-- ---- a target that was given out means what starts something

starts_by : (d c : Call) → call_starts d ≡ true → ◌≡◌ {A = Result Call HttpFault} (Ok d) (Ok c) → call_starts c ≡ true
starts_by d c q h = let it : d ≡ c = cc in ap call_starts (sym it) ∙ q

none_given : (d c : Call) → starts d ≡ false → starts c ≡ true → ◌≡◌ {A = Result Call HttpFault} (Ok d) (Ok c) → ⊥
none_given d c q g h = let it : d ≡ c = cc in let same : starts c ≡ false = ap starts (sym it) ∙ q in cc

detect_given : (pairs : List Pair) (c : Call) → starts c ≡ true → detect_call pairs ≡ Ok c → ⊥
detect_given pairs c g h =
    let now = moment_in (codes "now") 0 pairs in
    let alert = moment_in (codes "alert_ms") 900000 pairs in
    let heal = moment_in (codes "heal_ms") 1800000 pairs in
    elim (if_cases (nat_lt heal alert) (Err (fault.BadParameter (codes "heal_ms"))) (Ok (call.Detect now alert heal)) (Ok c) h) [
      | inl p ↦ cc
      | inr p ↦ none_given (call.Detect now alert heal) c refl g p.1
    ]

sample_given : (body : List ℕ) (c : Call) → starts c ≡ true → sample_call body ≡ Ok c → ⊥
sample_given body c g h = go (named_of body) refl where
  go : (o : Result NamedSample Fault) → named_of body ≡ o → ⊥
  go (Ok s) e = none_given (call.Sample s.topic s.number s.time s.loads) c refl g (rw e at h)
  go (Err f) e = let no : Err fault.BadBody ≡ Ok c = rw e at h in cc

posted_called : (e : Endpoint) (pairs : List Pair) (raw : RawRequest) (c : Call) → raw.key ≡ None → bytes_eq (codes "POST") (method_of e) ≡ true → starts c ≡ true → called e pairs raw ≡ Ok c → call_starts c ≡ true
posted_called endpoint.Rebalance pairs raw c k m g h = starts_by (call.Submit (ask_of op.Rebalance pairs) None) c refl (rw k at h)
posted_called endpoint.AddBroker pairs raw c k m g h = starts_by (call.Submit (ask_of op.AddBroker pairs) None) c refl (rw k at h)
posted_called endpoint.RemoveBroker pairs raw c k m g h = starts_by (call.Submit (ask_of op.RemoveBroker pairs) None) c refl (rw k at h)
posted_called endpoint.DemoteBroker pairs raw c k m g h = starts_by (call.Submit (ask_of op.DemoteBroker pairs) None) c refl (rw k at h)
posted_called endpoint.TopicConfiguration pairs raw c k m g h = starts_by (call.Submit (change_of pairs) None) c refl (rw k at h)
posted_called endpoint.Detect pairs raw c k m g h = absurd (detect_given pairs c g h)
posted_called endpoint.StopExecution pairs raw c k m g h = starts_by (call.Stop (flag_in (codes "force_stop") false pairs)) c refl h
posted_called endpoint.Admin pairs raw c k m g h = starts_by (call.Caps (cap_at broker_cap pairs) (cap_at cluster_cap pairs) (cap_at leader_cap pairs)) c refl h
posted_called endpoint.Pump pairs raw c k m g h = absurd (none_given (call.Pump (unwrap_or (option_and_then steps_of (value_at (codes "steps") pairs)) 1)) c refl g h)
posted_called endpoint.Kill pairs raw c k m g h = absurd (none_given (call.Kill (unwrap_or (option_and_then id_of (value_at (codes "broker") pairs)) 0)) c refl g h)
posted_called endpoint.Sample pairs raw c k m g h = absurd (sample_given raw.body c g h)
posted_called endpoint.State pairs raw c k m g h = absurd (cc)
posted_called endpoint.Load pairs raw c k m g h = absurd (cc)
posted_called endpoint.ClusterState pairs raw c k m g h = absurd (cc)
posted_called endpoint.UserTasks pairs raw c k m g h = absurd (cc)
posted_called endpoint.Proposals pairs raw c k m g h = absurd (cc)

pub given_starts : (target : List ℕ) (c : Call) → starts c ≡ true → meaning (given_request target) ≡ Ok c → call_starts c ≡ true
given_starts target c g h = at (endpoint_at (path_in target)) refl where
  at : (o : Option Endpoint) → endpoint_at (path_in target) ≡ o → call_starts c ≡ true
  at None e = let no : routed None (given_request target) ≡ Ok c = meant (given_request target) c None e h in absurd (cc)
  at (Some x) e =
      let r : IsRouted x (given_request target) c = routed_of x (given_request target) c (meant (given_request target) c (Some x) e h) in
      posted_called x (pairs_of (query_in target)) (given_request target) c refl r.method_is g r.called_is
