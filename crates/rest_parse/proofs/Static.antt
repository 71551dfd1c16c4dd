-- A router of routes with no parameter finds a path's route by its text.
use Rattle.std.proofs.Common.{◌≡◌, ◌≤◌, ℕ, zero, suc, ◌-◌, List, [], ◌∷◌, length, Option, Some, None, option_map, Bool, true, false, ◌&&◌, cond, refl, ap, ◌∙◌, subst, arith, nat_lt, ◌==◌}
use Rattle.std.proofs.lemmas.Bool.Decides.{nat_tests}
use Rattle.std.specs.Str.{IsUtf8, bytes_eq}
use Rattle.rest_parse.proofs.Ascii.{all_ascii, and_split}
use Rattle.std.proofs.lemmas.Slice.Eq.{bytes_eq-Decides}
use Rattle.matchit.specs.Rows.{RowsOf, param_token, catch_all_token}
use Rattle.matchit.specs.Seek.{own, step, or_else, seek, first, param_step, has_slash, same_text}
use Rattle.matchit.specs.Order.{lookup}
use Rattle.matchit.specs.Router.{RouteOf}
use Rattle.rest_parse.specs.declared.routes.Endpoint.{Endpoint}
use Rattle.rest_parse.specs.declared.routes.Endpoint.TheVariants.{State, Load, ClusterState, UserTasks, Proposals, Rebalance, AddBroker, RemoveBroker, DemoteBroker, StopExecution, Admin, TopicConfiguration, Pump, Kill, Sample, Detect}
use Rattle.rest_parse.specs.Routes.{all_endpoints, among, endpoint_at, path_of, rows, rows_of, static_row}

-- each token is a byte
abbrev pub is_text : List ℕ → Bool
is_text [] = true
is_text (b ∷ rest) = nat_lt b 256 && is_text rest

module _ {K : Type 0} where
  abbrev pub text_rows : RowsOf K → Bool
  text_rows [] = true
  text_rows ((t, k) ∷ rest) = is_text t && text_rows rest

  own-lookup : (rs : RowsOf K) → own rs ≡ lookup [] rs
  own-lookup [] = refl
  own-lookup (([], k) ∷ rest) = refl
  own-lookup ((x ∷ t, k) ∷ rest) = own-lookup rest

  step-wild : (w : ℕ) (rs : RowsOf K) → 256 ≤ w → text_rows rs ≡ true → step w rs ≡ []
  step-wild w [] le h = refl
  step-wild w (([], k) ∷ rest) le h = step-wild w rest le h
  step-wild w ((x ∷ t, k) ∷ rest) le h =
      let parts = and_split (is_text (x ∷ t)) (text_rows rest) h in
      let small : nat_lt x 256 ≡ true = (and_split (nat_lt x 256) (is_text t) parts.0).0 in
      let other : (x == w) ≡ false = grind (arith, nat_tests) in
      rw other (step-wild w rest le parts.1)

  step-lookup : (b : ℕ) (p : List ℕ) (rs : RowsOf K) → lookup p (step b rs) ≡ lookup (b ∷ p) rs
  step-lookup b p [] = refl
  step-lookup b p (([], k) ∷ rest) = step-lookup b p rest
  step-lookup b p ((x ∷ t, k) ∷ rest) = by (x == b) ∙ ap (λ l. cond ((x == b) && same_text t p) (Some k) l) (step-lookup b p rest)
    where
      by : (v : Bool) → lookup p (cond v ((t, k) ∷ step b rest) (step b rest)) ≡ cond (v && same_text t p) (Some k) (lookup p (step b rest))
      by true = refl
      by false = refl

  step-text : (b : ℕ) (rs : RowsOf K) → text_rows rs ≡ true → text_rows (step b rs) ≡ true
  step-text b [] h = refl
  step-text b (([], k) ∷ rest) h = step-text b rest h
  step-text b ((x ∷ t, k) ∷ rest) h =
      let parts = and_split (is_text (x ∷ t)) (text_rows rest) h in
      let tail = (and_split (nat_lt x 256) (is_text t) parts.0).1 in
      let later = step-text b rest parts.1 in
      elim (x == b) as (λ v. text_rows (cond v ((t, k) ∷ step b rest) (step b rest)) ≡ true) [
        | true ↦ rw tail later
        | false ↦ later
      ]

  or_else-none : (a : Option K) → or_else a None ≡ a
  or_else-none None = refl
  or_else-none (Some k) = refl

  param-none : (p : List ℕ) → (param_step {K = K} [] p).1 ≡ []
  unfolding param_step
  param-none p =
      elim (has_slash p) as (λ v. (cond {A = ℕ × RowsOf K} v (0, []) (length p, [])).1 ≡ []) [
        | true ↦ refl
        | false ↦ refl
      ]

  seek-none : (k : ℕ) (p : List ℕ) → seek {K = K} k [] p ≡ None
  unfolding seek
  seek-none k [] = refl
  seek-none (suc k) (b ∷ p) = seek-none k p
  seek-none zero (b ∷ p) = simp (seek-none 0 p, param-none (b ∷ p), seek-none (((param_step {K = K} [] (b ∷ p)).0) - 1) p)

  -- the route is found by its text
  pub first-lookup : (path : List ℕ) (rs : RowsOf K) → text_rows rs ≡ true → first rs path ≡ lookup path rs
  unfolding seek
  first-lookup [] rs h = own-lookup rs
  first-lookup (b ∷ p) rs h =
      simp (step-wild param_token rs (omega arith) h, step-wild catch_all_token rs (omega arith) h, param-none (b ∷ p), seek-none ((param_step {K = K} [] (b ∷ p)).0 - 1) p, or_else-none)
      (first-lookup p (step b rs) (step-text b rs h) ∙ step-lookup b p rs)

-- the endpoint of a path
pub lookup-among : (es : List Endpoint) (path : List ℕ) → option_map (λ (r : RouteOf Endpoint). r.value) (lookup path (rows_of es)) ≡ among es path
lookup-among [] path = refl
lookup-among (e ∷ es) path =
    let later = lookup-among es path in
    elim (same_text (path_of e) path) as (λ v. option_map (λ (r : RouteOf Endpoint). r.value) (cond v (Some (static_row e).1) (lookup path (rows_of es))) ≡ cond v (Some e) (among es path)) [
      | true ↦ refl
      | false ↦ later
    ]

pub first-endpoint : (path : List ℕ) → option_map (λ (r : RouteOf Endpoint). r.value) (first rows path) ≡ endpoint_at path
unfolding endpoint_at
first-endpoint path = ap (option_map (λ (r : RouteOf Endpoint). r.value)) (first-lookup path rows refl) ∙ lookup-among all_endpoints path

utf8_path : (e : Endpoint) → IsUtf8 (path_of e)
utf8_path State = all_ascii _ refl
utf8_path Load = all_ascii _ refl
utf8_path ClusterState = all_ascii _ refl
utf8_path UserTasks = all_ascii _ refl
utf8_path Proposals = all_ascii _ refl
utf8_path Rebalance = all_ascii _ refl
utf8_path AddBroker = all_ascii _ refl
utf8_path RemoveBroker = all_ascii _ refl
utf8_path DemoteBroker = all_ascii _ refl
utf8_path StopExecution = all_ascii _ refl
utf8_path Admin = all_ascii _ refl
utf8_path TopicConfiguration = all_ascii _ refl
utf8_path Pump = all_ascii _ refl
utf8_path Kill = all_ascii _ refl
utf8_path Sample = all_ascii _ refl
utf8_path Detect = all_ascii _ refl

none_among : (es : List Endpoint) (path : List ℕ) → (IsUtf8 path → ⊥) → None ≡ among es path
none_among [] path h = refl
none_among (e ∷ es) path h = by (bytes_eq (path_of e) path) refl (none_among es path h)
  where
    by : (b : Bool) → bytes_eq (path_of e) path ≡ b → None ≡ among es path → None ≡ among (e ∷ es) path
    by true is later = absurd (h (subst IsUtf8 ((bytes_eq-Decides (path_of e) path).0 is) (utf8_path e)))
    by false is later = rw is later

-- what is no text is no path
pub no_endpoint : (path : List ℕ) → (IsUtf8 path → ⊥) → None ≡ endpoint_at path
unfolding endpoint_at
no_endpoint path h = none_among all_endpoints path h
