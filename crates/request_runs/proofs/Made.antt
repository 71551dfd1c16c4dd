-- What a book was asked, from the first request to the question: a run, and what came of the request.
use Rattle.std.proofs.Common.{◌≡◌, ℕ, false, List, [], ◌∷◌, ◌++◌, arith, refl, sym, ap, ◌∙◌, subst}
use Rattle.std.specs.Prelude.{Option, Some, None}
use Rattle.cluster_gate.specs.declared.memory.MemoryCluster.{MemoryCluster}
use Rattle.cluster_json.specs.File.{Meaning}
use Rattle.control_core.specs.Books.{BookView, state_of}
use Rattle.goal_set.specs.declared.kinds.GoalKind.{GoalKind}
use Rattle.plan_terms.specs.Cluster.{Cluster, Lists}
use Rattle.exec_terms.specs.Machine.{State}
use Rattle.user_tasks.specs.Asks.{AskView, changes_factor}
use Rattle.user_tasks.specs.declared.table.Status.{Status}
use Rattle.core_terms.specs.Asked.{goals_fault, goals_of, is_dry}
use Rattle.core_terms.specs.History.{AreLegal, state_after}
use Rattle.core_terms.specs.Input.{IsInput}
use Rattle.core_terms.specs.Jobs.{id_at}
use Rattle.core_terms.specs.State.{Core, opening_of}
use Rattle.core_terms.specs.Step.{reply_of}
use Rattle.core_terms.specs.declared.events.Event.{Event}
use Rattle.core_terms.specs.declared.events.Event.TheVariants as event
use Rattle.core_terms.specs.declared.jobs.Broken.{Broken}
use Rattle.core_terms.specs.declared.replies.Named.{Named}
use Rattle.core_terms.specs.declared.replies.Outcome.TheVariants as outcome
use Rattle.core_terms.specs.declared.replies.Reply.{Reply}
use Rattle.core_terms.specs.declared.replies.Reply.TheVariants as reply
use Rattle.core_laws.specs.Alone.{IsDone, IsQuiet}
use Rattle.core_laws.proofs.Histories.{histories_are_sound}
use Rattle.mover_rounds.specs.Asked.{core_rules, entries_from}
use Rattle.mover_rounds.specs.Drained.{IsDrained}
use Rattle.mover_rounds.specs.Exact.{HasDrainedAlone}
use Rattle.mover_rounds.specs.Made.{Copies, failures_of}
use Rattle.mover_rounds.specs.Owned.{known_by_owner}
use Rattle.mover_rounds.specs.declared.drains.DrainEnd.TheVariants as drain
use Rattle.mover_rounds.proofs.Draining.{made_is}
use Rattle.mover_rounds.proofs.GivingBack.{after_all}
use Rattle.request_runs.specs.Runs.{CameOf, IsRun, cluster_asked, without_share}
use Rattle.request_runs.proofs.Rounds.{drained_calm}
use Rattle.request_runs.proofs.Whole.{Tells, first_quiet, first_reply, told, under_way}

-- the first events of legal ones are legal
front_legal : (xs ys : List Event) → AreLegal (xs ++ ys) → AreLegal xs
front_legal [] ys h = tt
front_legal (x ∷ xs) ys h = (h.0, front_legal xs ys h.1)

-- the state of a book, by its file and its journal
state_is : {A : Type 0} (b : BookView A) (file : Meaning) (journal : List Event) → b.file ≡ file → b.journal ≡ journal → state_of b ≡ state_after file journal
state_is b file journal e f = rw (e, f) refl

-- a question with an id changes no state
asked_after : (file : Meaning) (journal : List Event) (ask : AskView) (id : List ℕ) → state_after file (journal ++ event.Submit ask (Some id) ∷ []) ≡ state_after file journal
asked_after file journal ask id = after_all file journal (event.Submit ask (Some id) ∷ [])

-- what came of the request, by the broken goal that the reply gives
pub came : (c : Cluster) (lists : Lists) (goals : List GoalKind) (e : State) (r : Reply) (o : Option (Option Broken)) → Tells c lists goals e r
    → ((id : List ℕ) (st : Status) (ps : List Named) → r ≡ reply.Task id st (outcome.Done ps) → o ≡ Some None)
    → ((id : List ℕ) (st : Status) (goal : GoalKind) (left : ℕ) → r ≡ reply.Task id st (outcome.Failed goal left) → o ≡ Some (Some (record { goal = goal; left = left })))
    → (b : Option Broken) × (o ≡ Some b) × CameOf c lists goals b e
came c lists goals e (reply.Task id st (outcome.Done ps)) o h done failed = (None, done id st ps refl, h)
came c lists goals e (reply.Task id st (outcome.Failed goal left)) o h done failed = (Some (record { goal = goal; left = left }), failed id st goal left refl, h)
came c lists goals e _ o h done failed = absurd h

-- a book that was just opened accepts the request
none_after : (file : Meaning) → state_after file [] ≡ opening_of file
unfolding state_after
none_after file = refl

pub accepted : (m : Meaning) (ask : AskView) → ask.brokers ≡ [] → goals_fault ask ≡ None → is_dry ask ≡ false → changes_factor ask ≡ false → {A : Type 0} (a : BookView A) (r : Reply) → a.file ≡ without_share m → a.journal ≡ []
    → r ≡ reply_of a.file (state_of a) (event.Submit ask None) → r ≡ reply.Accepted (id_at 0)
accepted m ask brokers goals wet plans a r file journal e = e ∙ same ∙ first_reply m ask brokers goals wet plans where
  same : reply_of a.file (state_of a) (event.Submit ask None) ≡ reply_of (without_share m) (opening_of (without_share m)) (event.Submit ask None)
  same = rw (file, journal) (ap (λ (s : Core). reply_of (without_share m) s (event.Submit ask None)) (none_after (without_share m)))

-- no lease and no ticket is out behind it
pub quiet : (m : Meaning) (ask : AskView) → ask.brokers ≡ [] → goals_fault ask ≡ None → is_dry ask ≡ false → changes_factor ask ≡ false → {A : Type 0} (a : BookView A) → a.file ≡ without_share m → a.journal ≡ event.Submit ask None ∷ []
    → IsQuiet (state_of a).desk
quiet m ask brokers goals wet plans a file journal = subst (λ (x : Core). IsQuiet x.desk) (sym (state_is a (without_share m) (event.Submit ask None ∷ []) file journal)) (first_quiet m ask brokers goals wet plans)

module _ (m : Meaning) (ask : AskView) (brokers : ask.brokers ≡ []) (goals : goals_fault ask ≡ None) (wet : is_dry ask ≡ false) (plans : changes_factor ask ≡ false)
    (a z b : BookView MemoryCluster) (k l : Copies) (sure : l.faults ≡ 0)
    (file_a : a.file ≡ without_share m) (journal_a : a.journal ≡ event.Submit ask None ∷ [])
    (drained : HasDrainedAlone (known_by_owner a) (known_by_owner z) k l drain.Drained) (file_z : z.file ≡ a.file) (done : IsDone (state_of z).desk)
    (file_b : b.file ≡ z.file) (journal_b : b.journal ≡ z.journal ++ event.Submit ask (Some (id_at 0)) ∷ [])
    (legal : AreLegal b.journal) (input : IsInput b.file) where
  abbrev file : Meaning
  file = without_share m

  abbrev rest : List Event
  rest = drained.longer.0

  abbrev first : List Event
  first = event.Submit ask None ∷ []

  abbrev last : List Event
  last = event.Submit ask (Some (id_at 0)) ∷ []

  journal_z : z.journal ≡ event.Submit ask None ∷ rest
  journal_z = sym drained.longer.1 ∙ ap (λ (x : List Event). x ++ rest) journal_a

  journal : b.journal ≡ event.Submit ask None ∷ (rest ++ last)
  journal = journal_b ∙ ap (λ (x : List Event). x ++ last) journal_z

  made : drained.made ≡ entries_from first rest
  made = made_is a.journal z.journal rest drained.made drained.longer.1 drained.own ∙ ap (λ (x : List Event). entries_from x rest) journal_a

  no_failure : failures_of (entries_from first rest) ≡ 0
  no_failure = let none : failures_of drained.made ≡ 0 = omega (arith, drained.failed) in sym (ap failures_of made) ∙ none

  rounds : IsDrained (core_rules file) (event.Submit ask None ∷ rest) drain.Drained (entries_from first rest) drained.copies
  rounds = rw (← made, ← journal_z, ← file_a) drained.is.0

  state_z : state_of z ≡ state_after file (event.Submit ask None ∷ rest)
  state_z = state_is z file (event.Submit ask None ∷ rest) (file_z ∙ file_a) journal_z

  state_b : state_of b ≡ state_of z
  state_b = state_is b z.file (z.journal ++ last) file_b journal_b ∙ asked_after z.file z.journal ask (id_at 0)

  legal_z : AreLegal (event.Submit ask None ∷ rest)
  legal_z = front_legal (event.Submit ask None ∷ rest) last (subst AreLegal journal legal)

  input_is : IsInput file
  input_is = subst IsInput (file_b ∙ file_z ∙ file_a) input

  pub tells : Tells (cluster_asked ask m) m.lists (goals_of ask) (state_of b).desk.exec (reply_of z.file (state_of z) (event.Submit ask (Some (id_at 0))))
  tells = subst (λ (x : Core). Tells (cluster_asked ask m) m.lists (goals_of ask) x.desk.exec (reply_of z.file (state_of z) (event.Submit ask (Some (id_at 0))))) (sym state_b)
      (subst (λ (f : Meaning). Tells (cluster_asked ask m) m.lists (goals_of ask) (state_of z).desk.exec (reply_of f (state_of z) (event.Submit ask (Some (id_at 0))))) (sym (file_z ∙ file_a))
      (subst (λ (x : Core). Tells (cluster_asked ask m) m.lists (goals_of ask) x.desk.exec (reply_of file x (event.Submit ask (Some (id_at 0))))) (sym state_z)
      (told m ask brokers goals wet plans (state_after file (event.Submit ask None ∷ rest)) (histories_are_sound file (event.Submit ask None ∷ rest) input_is legal_z)
      (subst (λ (x : Core). IsDone x.desk) state_z done)
      (under_way m ask brokers goals wet plans rest input_is legal_z.1 (drained_calm (core_rules file) (event.Submit ask None ∷ rest) first rest drained.copies rounds no_failure)))))

  pub run : IsRun file ask b
  run = record {
    file_is = file_b ∙ file_z ∙ file_a;
    drained = rest;
    copies = drained.copies;
    journal_is = journal;
    legal = legal;
    rounds = rounds;
    no_failure = no_failure;
    done = subst (λ (x : Core). IsDone x.desk) (sym state_b) done;
  }

  -- what came of it, by the broken goal that the reply to the question gives
  pub end_of : (r : Reply) (o : Option (Option Broken)) → r ≡ reply_of z.file (state_of z) (event.Submit ask (Some (id_at 0)))
      → ((id : List ℕ) (st : Status) (ps : List Named) → r ≡ reply.Task id st (outcome.Done ps) → o ≡ Some None)
      → ((id : List ℕ) (st : Status) (goal : GoalKind) (left : ℕ) → r ≡ reply.Task id st (outcome.Failed goal left) → o ≡ Some (Some (record { goal = goal; left = left })))
      → (x : Option Broken) × (o ≡ Some x) × CameOf (cluster_asked ask m) m.lists (goals_of ask) x (state_of b).desk.exec
  end_of r o e d f = came (cluster_asked ask m) m.lists (goals_of ask) (state_of b).desk.exec r o
      (subst (Tells (cluster_asked ask m) m.lists (goals_of ask) (state_of b).desk.exec) (sym e) tells) d f

-- the same broken goal
pub came_is : (c : Cluster) (lists : Lists) (goals : List GoalKind) (e : State) (o : Option (Option Broken)) (y : Option Broken) → o ≡ Some y
    → (x : Option Broken) × (o ≡ Some x) × CameOf c lists goals x e → CameOf c lists goals y e
came_is c lists goals e o y is h = subst (λ (x : Option Broken). CameOf c lists goals x e) (same h.0 y (sym h.1 ∙ is)) h.2 where
  same : (x y : Option Broken) → Some x ≡ Some y → x ≡ y
  same x y e = cc
