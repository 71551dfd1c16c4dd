-- The whole of a request: its first step, the drain behind it, and what came of it.
use Rattle.std.proofs.Common.{◌≡◌, ℕ, ◌<◌, ◌*◌, Bool, true, false, List, [], ◌∷◌, length, arith, refl, sym, ap, ◌∙◌, subst, zero, suc}
use Rattle.std.specs.Prelude.{Option, Some, None, bytes_eq, fold}
use Rattle.std.specs.List.{AllByRecursion, range_with_len}
use Rattle.std.specs.Option.{option_or}
use Rattle.std.proofs.lemmas.Bool.{le-ltb, true≢false}
use Rattle.std.proofs.lemmas.List.Elements.{All-nil}
use Rattle.std.proofs.lemmas.List.Quantifiers.{position-Some}
use Rattle.std.proofs.lemmas.Slice.Eq.{bytes_eq-Decides}
use Rattle.plan_terms.specs.Cluster.{Cluster, Lists}
use Rattle.cluster_json.specs.File.{Meaning}
use Rattle.goal_set.specs.declared.kinds.GoalKind.{GoalKind}
use Rattle.exec_terms.specs.Machine.{State}
use Rattle.exec_terms.specs.Runs.{opening}
use Rattle.exec_terms.proofs.WorkLeft.{position-None}
use Rattle.user_tasks.specs.Asks.{AskView, changes_factor}
use Rattle.user_tasks.specs.declared.table.Status.{Status}
use Rattle.user_tasks.specs.declared.table.Status.TheVariants as status
use Rattle.core_terms.specs.Asked.{goals_fault, goals_of, is_dry}
use Rattle.core_terms.specs.History.{AreLegal, state_after}
use Rattle.core_terms.specs.Input.{IsInput, accepted}
use Rattle.core_terms.specs.Jobs.{id_at, new_job}
use Rattle.core_terms.specs.Sound.{IsSound}
use Rattle.core_terms.specs.State.{Core, moment_of, opening_desk, opening_of}
use Rattle.core_terms.specs.Same.{same_ask}
use Rattle.core_terms.specs.Step.{next, reply_of}
use Rattle.core_terms.specs.Submits.{found_at, outcome_of, place_of, refusal_of, refused_if}
use Rattle.core_terms.specs.declared.events.Event.{Event}
use Rattle.core_terms.specs.declared.events.Event.TheVariants as event
use Rattle.core_terms.specs.declared.jobs.Job.{Job}
use Rattle.core_terms.specs.declared.replies.Outcome.TheVariants as outcome
use Rattle.core_terms.specs.declared.replies.Reply.{Reply}
use Rattle.core_terms.specs.declared.replies.Reply.TheVariants as reply
use Rattle.core_terms.proofs.Sameness.{sameness_is_equality}
use Rattle.core_laws.specs.Alone.{IsDone, IsQuiet}
use Rattle.core_laws.proofs.Histories.{opening_is_sound}
use Rattle.core_laws.proofs.Sound.{each_event_keeps_sound}
use Rattle.request_runs.specs.Runs.{IsCarriedOut, IsGivenUp, cluster_asked, without_share}
use Rattle.request_runs.proofs.Brokers.{case_is, hosts_at}
use Rattle.core_laws.proofs.Calm.{IsOn, lists_carried, lists_kept}
use Rattle.request_runs.proofs.Stages.{IsStage, IsUnderWay, core_in}
use Rattle.request_runs.proofs.Steps.{is_calm, step_keeps}

-- none of four refusals
none_of_four : (w x y z : Option Reply) → w ≡ None → x ≡ None → y ≡ None → z ≡ None → option_or w (option_or x (option_or y z)) ≡ None
none_of_four w x y z e f g h = rw (e, f, g, h) refl

-- what the reply to the question tells came of the request
abbrev pub Tells : Cluster → Lists → List GoalKind → State → Reply → Type 0
Tells c lists goals e (reply.Task id st (outcome.Done proposals)) = IsCarriedOut c lists goals e
Tells c lists goals e (reply.Task id st (outcome.Failed goal left)) = IsGivenUp c lists goals (record { goal = goal; left = left }) e
Tells c lists goals e _ = ⊥

module _ (m : Meaning) (ask : AskView) (brokers : ask.brokers ≡ []) (goals : goals_fault ask ≡ None) (wet : is_dry ask ≡ false) (plans : changes_factor ask ≡ false) where
  abbrev file : Meaning
  file = without_share m

  abbrev first : Event
  first = event.Submit ask None

  abbrev question : Event
  question = event.Submit ask (Some (id_at 0))

  abbrev Is : Core → Type 0
  Is s = IsUnderWay (cluster_asked ask m) m.lists (hosts_at file) (goals_of ask) ask (accepted m.rules m.samples) s

  -- nothing stands in the way of the first request
  no_refusal : refusal_of file (moment_of file (opening_of file)) (opening_of file).desk ask ≡ None
  unfolding refusal_of opening_desk
  no_refusal = none_of_four _ _ _ _ refl (rw (brokers, goals) refl) (rw wet refl)
      (ap (λ (b : Bool). refused_if b (reply.NotEnoughWindows (moment_of file (opening_of file)).valid (length file.cluster.parts)))
      (le-ltb ((moment_of file (opening_of file)).valid * 1) (0 * length file.cluster.parts) (omega arith)))

  pub first_reply : reply_of file (opening_of file) first ≡ reply.Accepted (id_at 0)
  unfolding opening_desk
  first_reply = rw (plans, no_refusal) refl

  opened : Is (next file (opening_of file) first)
  unfolding opening_desk
  opened = rw (plans, no_refusal) (record {
    status = status.Active;
    job = new_job ask;
    exec = opening file.cluster file.lists file.caps;
    tickets = 0;
    core_is = refl;
    stage = (refl, record { base_is = refl; hosts_are = refl; tasks_are = refl; on = All-nil IsOn });
  })

  walk : (s : Core) (es : List Event) → IsInput file → AreLegal es → AllByRecursion (λ e. is_calm e ≡ true) es → IsSound file s.desk → Is s → Is (fold (next file) s es)
  walk s [] input legal calm sound is = is
  walk s (e ∷ es) input legal calm sound is = walk (next file s e) es input legal.1 calm.1 (each_event_keeps_sound file s e input legal.0 sound)
      (step_keeps file (cluster_asked ask m) m.lists (hosts_at file) ask (accepted m.rules m.samples) (case_is m ask input.case) wet s e sound calm.0 legal.0 is)

  -- so behind a drain in which no copy fails
  pub under_way : (es : List Event) → IsInput file → AreLegal es → AllByRecursion (λ e. is_calm e ≡ true) es → Is (state_after file (first ∷ es))
  unfolding state_after
  under_way es input legal calm = walk (next file (opening_of file) first) es input legal calm (each_event_keeps_sound file (opening_of file) first input tt (opening_is_sound file input)) opened

  -- the first request alone: no lease and no ticket is out
  pub first_quiet : IsQuiet (state_after file (first ∷ [])).desk
  unfolding state_after opening_desk
  first_quiet = rw (plans, no_refusal) (record { leases = refl; tickets = refl })

  module _ (st : Status) (j : Job) (e : State) (n : ℕ) where
    abbrev here : Core
    here = core_in ask (accepted m.rules m.samples) st j e n

    -- the question is answered by the user task
    answered : reply_of file here question ≡ reply.Task (id_at 0) st (outcome_of file.cluster.parts st j)
    answered = by (place_of (id_at 0) here.desk.tasks) refl where
      same : same_ask ask ask ≡ true
      same = (sameness_is_equality.asks ask ask).1 refl

      it : bytes_eq (id_at 0) (id_at 0) ≡ true
      it = (bytes_eq-Decides (id_at 0) (id_at 0)).1 refl

      by : (o : Option ℕ) → place_of (id_at 0) here.desk.tasks ≡ o → found_at file.cluster.parts here.desk (id_at 0) ask o ≡ reply.Task (id_at 0) st (outcome_of file.cluster.parts st j)
      by None q =
          let not : bytes_eq (id_at 0) (id_at 0) ≡ false = position-None (λ i. bytes_eq (id_at i) (id_at 0)) (range_with_len 0 1) 0 0 q (omega arith) in
          absurd (true≢false (sym it ∙ not))
      by (Some zero) q = rw same refl
      by (Some (suc i)) q =
          let past : suc i < 1 = (position-Some (λ i. bytes_eq (id_at i) (id_at 0)) (range_with_len 0 1) (suc i) 0 q).0 in
          absurd (omega arith)

  -- where nothing is unfinished, the plan is carried out, or a goal failed
  told_in : (st : Status) (j : Job) (e : State) (n : ℕ) → IsSound file (here st j e n).desk → IsDone (here st j e n).desk
      → IsStage (cluster_asked ask m) m.lists (hosts_at file) (goals_of ask) j e st
      → Tells (cluster_asked ask m) m.lists (goals_of ask) e (reply.Task (id_at 0) st (outcome_of file.cluster.parts st j))
  told_in status.Active j e n sound none h = absurd (let one : 1 ≡ 0 = none.jobs in omega arith)
  told_in status.InExecution j e n sound none h = absurd (let one : 1 ≡ 0 = sound.tasks.idle none.tasks in omega arith)
  told_in status.Completed j e n sound none h =
      let p = h.planned in
      let long : length m.lists ≡ length h.plan.end = ap length (sym p.start_is) ∙ p.kept.start_belongs.one_each ∙ sym p.kept.end_belongs.one_each in
      record { plan = h.plan; planned = p; carried = lists_carried m.lists h.plan.end long (hosts_at file) e h.calm none.tasks }
  told_in status.CompletedWithError j e n sound none h =
      rw h.broken_is (record { failure = h.failure; failed = h.failed; goal_is = refl; left_is = refl; kept = lists_kept m.lists (hosts_at file) e h.calm })

  pub told : (s : Core) → IsSound file s.desk → IsDone s.desk → Is s → Tells (cluster_asked ask m) m.lists (goals_of ask) s.desk.exec (reply_of file s question)
  told s sound none u = subst (λ (x : Core). Tells (cluster_asked ask m) m.lists (goals_of ask) x.desk.exec (reply_of file x question)) (sym u.core_is)
      (subst (Tells (cluster_asked ask m) m.lists (goals_of ask) u.exec) (sym (answered u.status u.job u.exec u.tickets))
      (told_in u.status u.job u.exec u.tickets (subst (λ (x : Core). IsSound file x.desk) u.core_is sound) (subst (λ (x : Core). IsDone x.desk) u.core_is none) u.stage))
