-- Laws of what an action does to the lists.
use Rattle.std.specs.Prelude.{None, Some, is_some, not}
use Rattle.std.specs.Option.{option_map_or}
use Rattle.plan_terms.specs.States.{is_dead}
use Rattle.std.proofs.Common.{◌≡◌, ℕ, ◌<◌, ◌≤◌, true, false, List, [], ◌∷◌, length, get_or, set, zero, suc, refl, ap, arith, eq-eqb, inl, inr}
use Rattle.std.proofs.lemmas.Bool.{ne_eqb, and_parts, and_from, false≢true, eqb-false, not-true, cases_lt}
use Rattle.std.proofs.lemmas.Bool.Decides.{nat_tests}
use Rattle.std.proofs.lemmas.List.{get_or_past, get_or-set_same, set-set, length-set}
use Rattle.std.proofs.lemmas.List.Elements.{All-set}
use Rattle.std.specs.List.{list_all}
use Rattle.plan_terms.specs.Belongs.{Belongs, IsReplicaList}
use Rattle.plan_terms.proofs.MemberLemmas.{IsReplicaList-replace, IsReplicaList-exchange_first, list_all-replace, list_all-exchange_first}
use Rattle.plan_terms.specs.Cluster.{Cluster, Lists, list_of, has, leads, is_known, broker_of}
use Rattle.plan_terms.specs.Effect.{replace, exchange_first, after}
use Rattle.plan_terms.specs.Legal.{is_legal, is_live}
use Rattle.plan_terms.specs.Fits.{fits, targets_known}
use Rattle.plan_terms.specs.declared.actions.Action.{Action}
use Rattle.plan_terms.specs.declared.actions.Action.TheVariants.{Move, Lead, Swap}

-- the first place of a takes b
pub replace-first : (a b : ℕ) (xs : List ℕ) (i : ℕ) → i < length xs → ((k : ℕ) → k < i → get_or xs k 0 ≡ a → ⊥) → get_or xs i 0 ≡ a → replace a b xs ≡ set xs i b
replace-first a b [] i l none here = absurd (omega arith)
replace-first a b (x ∷ xs) zero l none here = rw (eq-eqb x a here)
replace-first a b (x ∷ xs) (suc i) l none here =
    rw (ne_eqb x a (none 0 (omega arith))) (ap (λ ys. x ∷ ys) (replace-first a b xs i (omega arith) (λ k h. none (suc k) (omega arith)) here))

-- a member stands at some place
pub has-none : (xs : List ℕ) (a : ℕ) → ((k : ℕ) → k < length xs → get_or xs k 0 ≡ a → ⊥) → has xs a ≡ false
has-none [] a none = refl
has-none (x ∷ xs) a none = rw (ne_eqb x a (none 0 (omega arith))) (has-none xs a (λ k h. none (suc k) (omega arith)))

-- only a partition has members
pub has-in_range : (lists : Lists) (p b : ℕ) → has (list_of lists p) b ≡ true → p < length lists
has-in_range [] p b h = absurd (false≢true h)
has-in_range (l ∷ lists) zero b h = omega arith
has-in_range (l ∷ lists) (suc p) b h = let r : p < length lists = has-in_range lists p b h in omega arith

-- what a legal action needs of the lists holds
pub fits-legal : (c : Cluster) (lists : Lists) (a : Action) → is_legal c lists a ≡ true → fits lists a ≡ true
unfolding is_legal
fits-legal c lists (Move p a b) h = grind (arith, nat_tests, and_parts, and_from)
fits-legal c lists (Lead p b) h = grind (arith, nat_tests, and_parts, and_from)
fits-legal c lists (Swap p a q b) h = grind (arith, nat_tests, and_parts, and_from)

-- a broker that is not lost is one
pub known-live : (c : Cluster) (b : ℕ) → is_live c b ≡ true → is_known c b ≡ true
known-live c b h =
    elim (broker_of c.brokers b) as (λ o. option_map_or (λ x. not (is_dead x.state)) o false ≡ true → is_some o ≡ true) [ None ↦ λ e. absurd (false≢true e) | Some x ↦ λ e. refl ] h

pub targets_known-legal : (c : Cluster) (lists : Lists) (a : Action) → is_legal c lists a ≡ true → targets_known c a ≡ true
unfolding is_legal
targets_known-legal c lists (Move p a b) h = grind (arith, and_parts, and_from, known-live)
targets_known-legal c lists (Lead p b) h = refl
targets_known-legal c lists (Swap p a q b) h = grind (arith, and_parts, and_from, known-live)

-- the first member goes where b stood, and then b to the first place
pub exchange_first-is : (b d : ℕ) (xs : List ℕ) → leads xs b ≡ false → exchange_first b xs ≡ set (replace b (get_or xs 0 d) xs) 0 b
exchange_first-is b d [] h = refl
exchange_first-is b d (x ∷ xs) h = rw h

-- every list is a replica list, and its members are known
pub record IsListOf (c : Cluster) (list : List ℕ) : Type 0 where
  pub replicas : IsReplicaList list
  pub members : list_all (is_known c) list ≡ true

pub IsListOf-at : (c : Cluster) (lists : Lists) (p : ℕ) → Belongs c lists → p < length lists → IsListOf c (list_of lists p)
IsListOf-at c lists p h l = record { replicas = h.lists_are p [] l; members = h.known p [] l }

Belongs-set : (c : Cluster) (lists : Lists) (p : ℕ) (list : List ℕ) → Belongs c lists → IsListOf c list → Belongs c (set lists p list)
Belongs-set c lists p list h k = record {
  one_each = rw length-set h.one_each;
  lists_are = All-set IsReplicaList lists p list k.replicas h.lists_are;
  known = All-set (λ ys. list_all (is_known c) ys ≡ true) lists p list k.members h.known;
}

IsListOf-replace : (c : Cluster) (a b : ℕ) (list : List ℕ) → IsListOf c list → has list b ≡ false → is_known c b ≡ true → IsListOf c (replace a b list)
IsListOf-replace c a b list h n k = record {
  replicas = IsReplicaList-replace a b list h.replicas n;
  members = list_all-replace (is_known c) a b list h.members k;
}

IsListOf-exchange_first : (c : Cluster) (b : ℕ) (list : List ℕ) → IsListOf c list → has list b ≡ true → leads list b ≡ false → IsListOf c (exchange_first b list)
IsListOf-exchange_first c b list h m n = record {
  replicas = IsReplicaList-exchange_first b list h.replicas n;
  members = list_all-exchange_first (is_known c) b list h.members m;
}

-- the parts of what fits
pub record MoveFits (lists : Lists) (p a b : ℕ) : Type 0 where
  pub within : p < length lists
  pub source : has (list_of lists p) a ≡ true
  pub target : has (list_of lists p) b ≡ false

pub fits-Move : (lists : Lists) (p a b : ℕ) → fits lists (Move p a b) ≡ true → MoveFits lists p a b
fits-Move lists p a b h =
    let parts = and_parts _ _ h in
    record { within = has-in_range lists p a parts.0; source = parts.0; target = not-true _ parts.1 }

pub record LeadFits (lists : Lists) (p b : ℕ) : Type 0 where
  pub within : p < length lists
  pub member : has (list_of lists p) b ≡ true
  pub later : leads (list_of lists p) b ≡ false

pub fits-Lead : (lists : Lists) (p b : ℕ) → fits lists (Lead p b) ≡ true → LeadFits lists p b
fits-Lead lists p b h =
    let parts = and_parts _ _ h in
    record { within = has-in_range lists p b parts.0; member = parts.0; later = not-true _ parts.1 }

pub record SwapFits (lists : Lists) (p a q b : ℕ) : Type 0 where
  pub apart : p ≡ q → ⊥
  pub first : p < length lists
  pub second : q < length lists
  pub source : has (list_of lists p) a ≡ true
  pub source_comes : has (list_of lists q) a ≡ false
  pub target : has (list_of lists q) b ≡ true
  pub target_comes : has (list_of lists p) b ≡ false

pub fits-Swap : (lists : Lists) (p a q b : ℕ) → fits lists (Swap p a q b) ≡ true → SwapFits lists p a q b
fits-Swap lists p a q b h =
    let front = and_parts _ _ h in
    let middle = and_parts _ _ front.0 in
    let start = and_parts _ _ middle.0 in
    let head = and_parts _ _ start.0 in
    record {
      apart = eqb-false p q (not-true _ head.0);
      first = has-in_range lists p a head.1;
      second = has-in_range lists q b middle.1;
      source = head.1;
      source_comes = not-true _ start.1;
      target = middle.1;
      target_comes = not-true _ front.1;
    }

-- an action that fits, onto known brokers, leaves lists that belong to the cluster
pub Belongs-after : (c : Cluster) (lists : Lists) (a : Action) → Belongs c lists → fits lists a ≡ true → targets_known c a ≡ true → Belongs c (after a lists)
Belongs-after c lists (Move p a b) h f k =
    let fit = fits-Move lists p a b f in
    Belongs-set c lists p _ h (IsListOf-replace c a b _ (IsListOf-at c lists p h fit.within) fit.target k)
Belongs-after c lists (Lead p b) h f k =
    let fit = fits-Lead lists p b f in
    Belongs-set c lists p _ h (IsListOf-exchange_first c b _ (IsListOf-at c lists p h fit.within) fit.member fit.later)
Belongs-after c lists (Swap p a q b) h f k =
    let fit = fits-Swap lists p a q b f in
    let knows = and_parts (is_known c a) (is_known c b) k in
    Belongs-set c _ q _ (Belongs-set c lists p _ h (IsListOf-replace c a b _ (IsListOf-at c lists p h fit.first) fit.target_comes knows.1))
    (IsListOf-replace c b a _ (IsListOf-at c lists q h fit.second) fit.source_comes knows.0)

pub Belongs-legal : (c : Cluster) (lists : Lists) (a : Action) → Belongs c lists → is_legal c lists a ≡ true → Belongs c (after a lists)
Belongs-legal c lists a h l = Belongs-after c lists a h (fits-legal c lists a l) (targets_known-legal c lists a l)

-- every list is short, the empty one past the end too
pub short-at : (c : Cluster) (lists : Lists) (p : ℕ) → Belongs c lists → length (list_of lists p) ≤ 8
short-at c lists p h =
    elim (cases_lt p (length lists)) as (λ _. length (list_of lists p) ≤ 8) [ inl l ↦ (h.lists_are p [] l).few | inr g ↦ rw (get_or_past lists p [] g) (omega arith) ]

-- two writes that make a member the first one
pub exchange_first-puts : (lists B1 B2 : Lists) (p place to d : ℕ) → p < length lists → leads (list_of lists p) to ≡ false
    → replace to (get_or (list_of lists p) 0 d) (list_of lists p) ≡ set (list_of lists p) place (get_or (list_of lists p) 0 d)
    → B1 ≡ set lists p (set (list_of lists p) place (get_or (list_of lists p) 0 d))
    → B2 ≡ set B1 p (set (list_of B1 p) 0 to)
    → B2 ≡ set lists p (exchange_first to (list_of lists p))
exchange_first-puts lists B1 B2 p place to d l later places e1 e2 =
    let at : list_of B1 p ≡ set (list_of lists p) place (get_or (list_of lists p) 0 d) = rw e1 (get_or-set_same lists p _ [] l) in
    rw (e2, at, e1, exchange_first-is to d (list_of lists p) later, places) (set-set lists p _ _)
