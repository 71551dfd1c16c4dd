-- What is found among the open user tasks is found among all.
use Rattle.std.proofs.Common.{◌≡◌, ◌∙◌, ℕ, ◌+◌, ◌<◌, Bool, true, false, not, ◌&&◌, cond, inl, inr, List, [], ◌∷◌, ◌++◌, set, length, get_or, refl, sym, ap, arith, zero, suc, zero-add, add-zero}
use Rattle.std.specs.Prelude.{Option, Some, None, find, is_some, is_none, IfSome, ◌==◌}
use Rattle.std.specs.List.{count_by, filter, list_any, position, range_with_len, zip}
use Rattle.std.proofs.lemmas.Bool.{cases_eq, eq-eqb, ne_eqb, true≢false, false≢true}
use Rattle.std.proofs.lemmas.List.{get_or_append_left, get_or-set_same, get_or-set_other, get_or_push, length-set, length-append}
use Rattle.std.proofs.lemmas.List.Elements.{filter-append}
use Rattle.std.proofs.lemmas.List.Folds.{list_any_at}
use Rattle.std.proofs.lemmas.List.Quantifiers.{position-Some}
use Rattle.std.proofs.lemmas.List.Sums.{length-filter, sum_by-cons}
use Rattle.std.proofs.Math.Path.{fun_ext}
use Rattle.exec_terms.proofs.WorkLeft.{position-None}
use Rattle.user_tasks.specs.Tasks.{is_open, open_count}
use Rattle.user_tasks.specs.declared.table.Status.{Status}
use Rattle.user_tasks.specs.declared.table.UserTask.{UserTask}
use Rattle.user_tasks.specs.declared.table.Status.TheVariants as status
use Rattle.core_terms.specs.Asked.{is_dry}
use Rattle.core_terms.specs.State.{Desk, no_job, job_at}
use Rattle.core_terms.specs.Jobs.{is_active, is_in_execution, no_user_task, plans_execution, user_task_at}
use Rattle.core_terms.specs.Plans.{has_ticket, holder_of, is_ticket, waits}
use Rattle.core_terms.specs.Sound.{AreTasks, AreTickets}
use Rattle.core_terms.specs.declared.jobs.Job.{Job}
use Rattle.core_laws.proofs.Jobs.{absent, holder_active}
use Rattle.control_core.specs.Desks.{open_places}

-- leaving out what can't pass doesn't change the first that does
find_kept : (q o : ℕ → Bool) → ((i : ℕ) → q i ≡ true → o i ≡ true) → (xs : List ℕ) → find q (filter o xs) ≡ find q xs
find_kept q o h [] = refl
find_kept q o h (x ∷ xs) = by (o x) (q x) refl refl (find_kept q o h xs) where
  by : (b c : Bool) → o x ≡ b → q x ≡ c → find q (filter o xs) ≡ find q xs → find q (cond b (x ∷ filter o xs) (filter o xs)) ≡ cond c (Some x) (find q xs)
  by true true e f r = rw f refl
  by true false e f r = rw f r
  by false true e f r = absurd (true≢false (sym (h x f) ∙ e))
  by false false e f r = r

-- the first number that passes
find_first : (q : ℕ → Bool) (a n i : ℕ) → i < n → q (a + i) ≡ true → ((k : ℕ) → k < i → q (a + k) ≡ false) → find q (range_with_len a n) ≡ Some (a + i)
find_first q a zero i l h before = absurd (omega arith)
find_first q a (suc n) zero l h before = let e : q a ≡ true = rw (add-zero a) at h in rw (e, add-zero a) refl
find_first q a (suc n) (suc i) l h before =
    let first : q a ≡ false = rw (add-zero a) at (before 0 (omega arith)) in
    let move : (k : ℕ) → a + suc k ≡ (a + 1) + k = λ k. omega arith in
    rw first (find_first q (a + 1) n i (omega arith) (rw (move i) at h) (λ k m. rw (move k) at (before (suc k) (omega arith))) ∙ ap Some (sym (move i)))

find_none : (q : ℕ → Bool) (a n : ℕ) → ((k : ℕ) → k < n → q (a + k) ≡ false) → find q (range_with_len a n) ≡ None
find_none q a zero h = refl
find_none q a (suc n) h =
    let first : q a ≡ false = rw (add-zero a) at (h 0 (omega arith)) in
    rw first (find_none q (a + 1) n (λ k m. let move : a + suc k ≡ (a + 1) + k = omega arith in rw move at (h (suc k) (omega arith))))

-- so a first place is found by trying the places
pub place_is : {X : Type 0} (p : X → Bool) (xs : List X) (d : X) → position p xs ≡ find (λ i. p (get_or xs i d)) (range_with_len 0 (length xs))
place_is p xs d = by (position p xs) refl where
  by : (o : Option ℕ) → position p xs ≡ o → o ≡ find (λ i. p (get_or xs i d)) (range_with_len 0 (length xs))
  by None e = sym (find_none (λ i. p (get_or xs i d)) 0 (length xs) (λ k m. rw (zero-add k) (position-None p xs k d e m)))
  by (Some i) e =
      let f = position-Some p xs i d e in
      sym (find_first (λ i. p (get_or xs i d)) 0 (length xs) i f.0 (rw (zero-add i) f.1) (λ k m. rw (zero-add k) (f.2 k m)) ∙ ap Some (zero-add i))

-- the first user task that passes is found among the open ones, where only those pass
pub found_open : (p : UserTask → Bool) (tasks : List UserTask) → ((t : UserTask) → p t ≡ true → is_open t.status ≡ true)
    → find (λ i. p (user_task_at tasks i)) (open_places tasks) ≡ position p tasks
found_open p tasks h =
    find_kept (λ i. p (user_task_at tasks i)) (λ i. is_open (user_task_at tasks i).status) (λ i q. h (user_task_at tasks i) q) (range_with_len 0 (length tasks)) ∙ sym (place_is p tasks no_user_task)

executing_open : (x : Status) → is_in_execution x ≡ true → is_open x ≡ true
executing_open status.Active h = refl
executing_open status.InExecution h = refl
executing_open status.Completed h = absurd (false≢true h)
executing_open status.CompletedWithError h = absurd (false≢true h)

active_open : (x : Status) → is_active x ≡ true → is_open x ≡ true
active_open status.Active h = refl
active_open status.InExecution h = refl
active_open status.Completed h = absurd (false≢true h)
active_open status.CompletedWithError h = absurd (false≢true h)

and_left : (a b : Bool) → (a && b) ≡ true → a ≡ true
and_left true b h = refl
and_left false b h = h

pub found_executing : (tasks : List UserTask) → find (λ i. is_in_execution (user_task_at tasks i).status) (open_places tasks) ≡ position (λ t. is_in_execution t.status) tasks
found_executing tasks = found_open (λ t. is_in_execution t.status) tasks (λ t h. executing_open t.status h)

pub found_planning : (tasks : List UserTask) → find (λ i. plans_execution (user_task_at tasks i)) (open_places tasks) ≡ position plans_execution tasks
found_planning tasks = found_open plans_execution tasks (λ t h. active_open t.status (and_left (is_active t.status) (not (is_dry t.ask)) h))

-- there is one where there is a first one
pub planning_any : (tasks : List UserTask) → is_some (position plans_execution tasks) ≡ list_any plans_execution tasks
planning_any tasks = by (position plans_execution tasks) refl where
  by : (o : Option ℕ) → position plans_execution tasks ≡ o → is_some o ≡ list_any plans_execution tasks
  by None e = sym (absent plans_execution tasks (λ i d l. position-None plans_execution tasks i d e l))
  by (Some i) e = let f = position-Some plans_execution tasks i no_user_task e in sym (list_any_at plans_execution tasks i no_user_task f.0 f.1)

-- a user task that is carried out is open
pub executing_within : (tasks : List UserTask) (o : Option ℕ) → o ≡ position (λ t. is_in_execution t.status) tasks → IfSome o (λ i. (i < length tasks) × (is_open (user_task_at tasks i).status ≡ true))
executing_within tasks None e = tt
executing_within tasks (Some i) e = let f = position-Some (λ t. is_in_execution t.status) tasks i no_user_task (sym e) in (f.0, executing_open (user_task_at tasks i).status f.1)

-- the job of a ticket is that of an open user task
pub holder_open : (d : Desk) (n i : ℕ) → AreTasks d → AreTickets d → holder_of n d.jobs ≡ Some i → is_open (user_task_at d.tasks i).status ≡ true
holder_open d n i tasks tickets e = active_open (user_task_at d.tasks i).status (holder_active d n i tasks tickets e).2

-- the jobs that wait
get_or-zip : {X Y : Type 0} (xs : List X) (ys : List Y) (i : ℕ) (d : X) (e : Y) → length xs ≡ length ys → i < length (zip xs ys) → get_or (zip xs ys) i (d, e) ≡ (get_or xs i d, get_or ys i e)
get_or-zip [] ys i d e h l = absurd (omega arith)
get_or-zip (x ∷ xs) [] i d e h l = absurd (omega arith)
get_or-zip (x ∷ xs) (y ∷ ys) zero d e h l = refl
get_or-zip (x ∷ xs) (y ∷ ys) (suc i) d e h l = get_or-zip xs ys i d e (omega (arith, h)) (omega (arith, l))

length-zip_same : {X Y : Type 0} (xs : List X) (ys : List Y) → length xs ≡ length ys → length (zip xs ys) ≡ length xs
length-zip_same [] ys h = refl
length-zip_same (x ∷ xs) [] h = absurd (omega (arith, h))
length-zip_same (x ∷ xs) (y ∷ ys) h = ap suc (length-zip_same xs ys (omega (arith, h)))

find_same : (p q : ℕ → Bool) (a n : ℕ) → ((k : ℕ) → k < n → p (a + k) ≡ q (a + k)) → find p (range_with_len a n) ≡ find q (range_with_len a n)
find_same p q a zero h = refl
find_same p q a (suc n) h =
    let first : p a ≡ q a = rw (add-zero a) at (h 0 (omega arith)) in
    let rest : find p (range_with_len (a + 1) n) ≡ find q (range_with_len (a + 1) n) = find_same p q (a + 1) n (λ k m. let move : a + suc k ≡ (a + 1) + k = omega arith in rw move at (h (suc k) (omega arith))) in
    rw (first, rest) refl

pub found_waiting : (tasks : List UserTask) (jobs : List Job) → length jobs ≡ length tasks → find (λ i. waits (user_task_at tasks i, job_at jobs i)) (open_places tasks) ≡ position waits (zip tasks jobs)
found_waiting tasks jobs one =
    find_kept (λ i. waits (user_task_at tasks i, job_at jobs i)) (λ i. is_open (user_task_at tasks i).status) (λ i q. active_open (user_task_at tasks i).status (and_left (is_active (user_task_at tasks i).status) (is_none (job_at jobs i).ticket) q)) (range_with_len 0 (length tasks))
    ∙ ap (λ (n : ℕ). find (λ i. waits (user_task_at tasks i, job_at jobs i)) (range_with_len 0 n)) (sym long)
    ∙ find_same (λ i. waits (user_task_at tasks i, job_at jobs i)) (λ i. waits (get_or (zip tasks jobs) i (no_user_task, no_job))) 0 (length (zip tasks jobs)) (λ k m. rw (zero-add k, get_or-zip tasks jobs k no_user_task no_job (sym one) m) refl)
    ∙ sym (place_is waits (zip tasks jobs) (no_user_task, no_job))
  where
    long : length (zip tasks jobs) ≡ length tasks
    long = length-zip_same tasks jobs (sym one)

-- the job of a ticket, which only an active user task has
pub found_holder : (tasks : List UserTask) (jobs : List Job) (n : ℕ) → length jobs ≡ length tasks → ((i m : ℕ) → (job_at jobs i).ticket ≡ Some m → is_active (user_task_at tasks i).status ≡ true)
    → find (λ i. has_ticket n (job_at jobs i)) (open_places tasks) ≡ holder_of n jobs
found_holder tasks jobs n one active =
    find_kept (λ i. has_ticket n (job_at jobs i)) (λ i. is_open (user_task_at tasks i).status) (λ i q. held i (job_at jobs i).ticket refl q) (range_with_len 0 (length tasks))
    ∙ ap (λ (k : ℕ). find (λ i. has_ticket n (job_at jobs i)) (range_with_len 0 k)) (sym one)
    ∙ sym (place_is (has_ticket n) jobs no_job)
  where
    held : (i : ℕ) (o : Option ℕ) → (job_at jobs i).ticket ≡ o → is_ticket n o ≡ true → is_open (user_task_at tasks i).status ≡ true
    held i None q h = absurd (false≢true h)
    held i (Some m) q h = active_open (user_task_at tasks i).status (active i m q)

pub holder_within : (n : ℕ) (jobs : List Job) (o : Option ℕ) → o ≡ holder_of n jobs → IfSome o (λ i. i < length jobs)
holder_within n jobs None e = tt
holder_within n jobs (Some i) e = (position-Some (has_ticket n) jobs i no_job (sym e)).0

-- how many are open
count_places : (p : UserTask → Bool) (f : ℕ → Bool) (a : ℕ) (xs : List UserTask) → ((k : ℕ) → k < length xs → f (a + k) ≡ p (get_or xs k no_user_task)) → count_by f (range_with_len a (length xs)) ≡ count_by p xs
count_places p f a [] h = refl
count_places p f a (x ∷ xs) h =
    let first : f a ≡ p x = rw (add-zero a) at (h 0 (omega arith)) in
    let rest = count_places p f (a + 1) xs (λ k m. let move : a + suc k ≡ (a + 1) + k = omega arith in rw move at (h (suc k) (omega arith))) in
    let same : cond (f a) 1 0 ≡ cond (p x) 1 0 = ap (λ (b : Bool). cond {A = ℕ} b 1 0) first in
    omega (arith, same, rest, sum_by-cons (λ (k : ℕ). cond (f k) 1 0) a (range_with_len (a + 1) (length xs)), sum_by-cons (λ (t : UserTask). cond (p t) 1 0) x xs)

pub open_counted : (tasks : List UserTask) → length (open_places tasks) ≡ open_count tasks
open_counted tasks =
    length-filter (λ i. is_open (user_task_at tasks i).status) (range_with_len 0 (length tasks))
    ∙ count_places (λ t. is_open t.status) (λ i. is_open (user_task_at tasks i).status) 0 tasks (λ k m. rw (zero-add k) refl)

-- one more, which is open
filter_same : (f g : ℕ → Bool) (a n : ℕ) → ((k : ℕ) → k < n → f (a + k) ≡ g (a + k)) → filter f (range_with_len a n) ≡ filter g (range_with_len a n)
filter_same f g a zero h = refl
filter_same f g a (suc n) h =
    let first : f a ≡ g a = rw (add-zero a) at (h 0 (omega arith)) in
    let rest : filter f (range_with_len (a + 1) n) ≡ filter g (range_with_len (a + 1) n) = filter_same f g (a + 1) n (λ k m. let move : a + suc k ≡ (a + 1) + k = omega arith in rw move at (h (suc k) (omega arith))) in
    rw (first, rest) refl

range_more : (a n : ℕ) → range_with_len a (n + 1) ≡ range_with_len a n ++ (a + n) ∷ []
range_more a zero = ap (λ (n : ℕ). n ∷ []) (sym (add-zero a))
range_more a (suc n) =
    let e : suc n + 1 ≡ suc (n + 1) = omega arith in
    let f : a + suc n ≡ (a + 1) + n = omega arith in
    rw (e, f) (ap (λ (ns : List ℕ). a ∷ ns) (range_more (a + 1) n))

pub one_opened : (tasks : List UserTask) (t : UserTask) → is_open t.status ≡ true → open_places (tasks ++ t ∷ []) ≡ open_places tasks ++ length tasks ∷ []
one_opened tasks t h =
    ap (λ (n : ℕ). filter (λ i. is_open (user_task_at (tasks ++ t ∷ []) i).status) (range_with_len 0 n)) (length-append tasks (t ∷ []))
    ∙ ap (filter (λ i. is_open (user_task_at (tasks ++ t ∷ []) i).status)) (range_more 0 (length tasks))
    ∙ filter-append (λ i. is_open (user_task_at (tasks ++ t ∷ []) i).status) (range_with_len 0 (length tasks)) ((0 + length tasks) ∷ [])
    ∙ ap (λ (xs : List ℕ). xs ++ filter (λ i. is_open (user_task_at (tasks ++ t ∷ []) i).status) ((0 + length tasks) ∷ [])) before
    ∙ ap (λ (xs : List ℕ). open_places tasks ++ xs) last
  where
    before : filter (λ i. is_open (user_task_at (tasks ++ t ∷ []) i).status) (range_with_len 0 (length tasks)) ≡ open_places tasks
    before = filter_same (λ i. is_open (user_task_at (tasks ++ t ∷ []) i).status) (λ i. is_open (user_task_at tasks i).status) 0 (length tasks) (λ k m. rw (zero-add k, get_or_append_left tasks (t ∷ []) no_user_task k m) refl)

    last : filter (λ i. is_open (user_task_at (tasks ++ t ∷ []) i).status) ((0 + length tasks) ∷ []) ≡ length tasks ∷ []
    last = rw (zero-add (length tasks), get_or_push tasks t no_user_task (length tasks) refl, h) refl

-- another status of one that is open
same_test : (tasks : List UserTask) (i : ℕ) (u : UserTask) → i < length tasks → is_open (user_task_at tasks i).status ≡ true → is_open u.status ≡ true
    → (k : ℕ) → is_open (user_task_at (set tasks i u) k).status ≡ is_open (user_task_at tasks k).status
same_test tasks i u l old new k = elim (cases_eq k i) as (λ _. is_open (user_task_at (set tasks i u) k).status ≡ is_open (user_task_at tasks k).status) [
  | inl is ↦ rw (is, get_or-set_same tasks i u no_user_task l, old, new) refl
  | inr other ↦ rw (get_or-set_other tasks i k u no_user_task other) refl
]

pub still_open : (tasks : List UserTask) (i : ℕ) (u : UserTask) → i < length tasks → is_open (user_task_at tasks i).status ≡ true → is_open u.status ≡ true → open_places (set tasks i u) ≡ open_places tasks
still_open tasks i u l old new =
    ap (λ (n : ℕ). filter (λ k. is_open (user_task_at (set tasks i u) k).status) (range_with_len 0 n)) (length-set tasks i u)
    ∙ ap (λ (f : ℕ → Bool). filter f (range_with_len 0 (length tasks))) (fun_ext (same_test tasks i u l old new))

filter_both : (f g : ℕ → Bool) (xs : List ℕ) → filter (λ k. g k && f k) xs ≡ filter g (filter f xs)
filter_both f g [] = refl
filter_both f g (x ∷ xs) = by (f x) (g x) refl refl (filter_both f g xs) where
  by : (b c : Bool) → f x ≡ b → g x ≡ c → filter (λ k. g k && f k) xs ≡ filter g (filter f xs) → cond (c && b) (x ∷ filter (λ k. g k && f k) xs) (filter (λ k. g k && f k) xs) ≡ filter g (cond b (x ∷ filter f xs) (filter f xs))
  by true true e h r = rw h (ap (λ (ys : List ℕ). x ∷ ys) r)
  by true false e h r = rw h r
  by false true e h r = r
  by false false e h r = r

left_test : (tasks : List UserTask) (i : ℕ) (u : UserTask) → i < length tasks → is_open u.status ≡ false
    → (k : ℕ) → is_open (user_task_at (set tasks i u) k).status ≡ (not (k == i) && is_open (user_task_at tasks k).status)
left_test tasks i u l new k = elim (cases_eq k i) as (λ _. is_open (user_task_at (set tasks i u) k).status ≡ (not (k == i) && is_open (user_task_at tasks k).status)) [
  | inl is ↦ rw (eq-eqb k i is, is, get_or-set_same tasks i u no_user_task l, new) refl
  | inr other ↦ rw (ne_eqb k i other, get_or-set_other tasks i k u no_user_task other) refl
]

pub one_left : (tasks : List UserTask) (i : ℕ) (u : UserTask) → i < length tasks → is_open u.status ≡ false → open_places (set tasks i u) ≡ filter (λ k. not (k == i)) (open_places tasks)
one_left tasks i u l new =
    ap (λ (n : ℕ). filter (λ k. is_open (user_task_at (set tasks i u) k).status) (range_with_len 0 n)) (length-set tasks i u)
    ∙ ap (λ (f : ℕ → Bool). filter f (range_with_len 0 (length tasks))) (fun_ext (left_test tasks i u l new))
    ∙ filter_both (λ k. is_open (user_task_at tasks k).status) (λ k. not (k == i)) (range_with_len 0 (length tasks))
