-- The lists when the execution of a change of the replication factor is over.
use Rattle.std.proofs.Common.{◌≡◌, ◌∙◌, ℕ, ◌<◌, Bool, true, false, List, [], ◌∷◌, length, refl, sym, ap, subst, inl, inr}
use Rattle.std.specs.Prelude.{◌==◌, Option, Some, None, option_map}
use Rattle.std.specs.List.{list_all}
use Rattle.std.specs.Option.{option_or}
use Rattle.std.proofs.lemmas.Bool.{and_parts, false≢true, true≢false}
use Rattle.std.proofs.lemmas.List.{ext_get_or}
use Rattle.std.proofs.lemmas.List.Elements.{All-nil}
use Rattle.std.proofs.Math.Path.{fun_ext}
use Rattle.plan_terms.specs.Belongs.{Belongs}
use Rattle.plan_terms.specs.Change.{proposals}
use Rattle.plan_terms.specs.Cluster.{Lists, list_of}
use Rattle.plan_terms.specs.Legal.{each_below}
use Rattle.plan_terms.specs.declared.lists.Proposal.{Proposal}
use Rattle.cluster_json.specs.File.{Meaning}
use Rattle.exec_terms.specs.Machine.{State, after_launch, any_unfinished, first_unfinished, launched, lists_now}
use Rattle.exec_terms.specs.Runs.{Event as Move, CapsSet, Take, Copied, CopyFailed, Committed, Cancelled, GivenBack, Stops, Killed, Launched, after_event}
use Rattle.exec_terms.specs.Settled.{settled_lists}
use Rattle.exec_terms.specs.Valid.{IsValid}
use Rattle.exec_terms.specs.Words.{is_unfinished}
use Rattle.exec_terms.specs.declared.brokers.Host.{Host}
use Rattle.exec_terms.proofs.Changes.{unchanged}
use Rattle.exec_terms.proofs.SettledLists.{list_settled, none_flies}
use Rattle.exec_terms.proofs.WorkLeft.{position-None}
use Rattle.factor_change.specs.declared.fault.ResizeFault.TheVariants as fault
use Rattle.factor_change.specs.Refused.{first_absent, first_short, refusal}
use Rattle.user_tasks.specs.Asks.{AskView, changes_factor}
use Rattle.core_terms.specs.Asked.{is_dry}
use Rattle.core_terms.specs.History.{AreLegal, IsLegal}
use Rattle.core_terms.specs.Input.{IsInput}
use Rattle.core_terms.specs.Jobs.{admitted, user_task_at}
use Rattle.core_terms.specs.Sound.{IsSound}
use Rattle.core_terms.specs.State.{Core, Desk, Moment, moment_of}
use Rattle.core_terms.specs.Step.{next}
use Rattle.core_terms.specs.Submits.{change_refusal, changed_by, changes_asked, lists_asked, resize_refusal}
use Rattle.core_terms.specs.declared.events.Event.{Event}
use Rattle.core_terms.specs.declared.events.Event.TheVariants as event
use Rattle.core_terms.specs.declared.replies.Reply.TheVariants as reply
use Rattle.core_laws.specs.Changes.{ChangedListsCome, IsBusyUntil, IsRequest, after_all, is_calm}
use Rattle.core_laws.specs.Events.{Fits, IsMove}
use Rattle.core_laws.proofs.Calm.{IsCalm, calm_begun, calm_cancel, calm_commit, calm_copied, calm_release, calm_take, lists_carried}
use Rattle.core_laws.proofs.Clusters.{belongs_same, shape_present}
use Rattle.core_laws.proofs.Events.{newest, none_in_the_way, none_unfinished}
use Rattle.core_laws.proofs.Jobs.{absent}
use Rattle.core_laws.proofs.Lifts.{events_move_executor}
use Rattle.core_laws.proofs.Plans.{no_first}
use Rattle.core_laws.proofs.Resizes.{change_is}
use Rattle.core_laws.proofs.Settled.{settled_belongs}
use Rattle.core_laws.proofs.Sound.{each_event_keeps_sound}

module _ (lists : Lists) (hosts : List Host) (ps : List Proposal) where
  -- while a task is unfinished nothing is launched
  calm_launched : (s : State) (qs : List Proposal) → any_unfinished s.tasks ≡ true → IsCalm lists hosts ps s → IsCalm lists hosts ps (after_launch s qs)
  calm_launched s qs busy c = by (first_unfinished s) refl where
    by : (o : Option ℕ) → first_unfinished s ≡ o → IsCalm lists hosts ps (launched s qs o)
    by (Some i) e = c
    by None e = absurd (false≢true (sym (absent (λ t. is_unfinished t.phase) s.tasks (λ i d l. position-None (λ t. is_unfinished t.phase) s.tasks i d e l)) ∙ busy))

  -- an event that fails, stops and kills nothing
  calm_moved : (e : Event) (s u : State) → IsValid s → IsMove e s u → is_calm e ≡ true → any_unfinished s.tasks ≡ true → IsCalm lists hosts ps s → IsCalm lists hosts ps u
  calm_moved e s u v (inl is) calm busy c = rw is c
  calm_moved e s u v (inr (m, fits, can, is)) calm busy c = rw is (by m fits) where
    by : (m : Move) → Fits e m → IsCalm lists hosts ps (after_event s m)
    by Take f = calm_take lists hosts ps s c
    by (Copied lease) f = calm_copied lists hosts ps s lease c
    by (CopyFailed lease) f = absurd (false≢true (sym (ap is_calm f) ∙ calm))
    by (Committed lease) f = calm_commit lists hosts ps s lease c
    by (Cancelled lease) f = calm_cancel lists hosts ps s lease v c
    by (GivenBack lease) f = calm_release lists hosts ps s lease c
    by (Stops force) f = absurd (false≢true (sym (ap is_calm f) ∙ calm))
    by (Killed broker) f = absurd (false≢true (sym (ap is_calm f) ∙ calm))
    by (Launched qs) f = calm_launched s qs busy c
    by (CapsSet caps) f = record { base_is = c.base_is; hosts_are = c.hosts_are; tasks_are = c.tasks_are; on = c.on }

  -- so behind all of them
  calm_behind : (file : Meaning) (s : Core) (es : List Event) → IsInput file → IsSound file s.desk → AreLegal es → list_all is_calm es ≡ true → IsBusyUntil file s es
      → IsCalm lists hosts ps s.desk.exec → IsCalm lists hosts ps (after_all file s es).desk.exec
  calm_behind file s [] input sound legal calm busy c = c
  calm_behind file s (e ∷ es) input sound legal calm busy c =
      let two = and_parts (is_calm e) (list_all is_calm es) calm in
      calm_behind file (next file s e) es input (each_event_keeps_sound file s e input legal.0 sound) legal.1 two.1 busy.1
      (calm_moved e s.desk.exec (next file s e).desk.exec sound.exec.valid (events_move_executor file s e input legal.0 sound) two.0 busy.0 c)

-- what is launched of a change that is carried out
abbrev pub started : State → List Proposal → State
started s [] = s
started s (p ∷ ps) = launched s (p ∷ ps) None

exec_changed : (d : Desk) (ask : AskView) (ps : List Proposal) → is_dry ask ≡ false → first_unfinished d.exec ≡ None → (changed_by d ask ps).exec ≡ started d.exec ps
exec_changed d ask [] wet none = refl
exec_changed d ask (p ∷ ps) wet none = by (is_dry (user_task_at (admitted d ask).tasks (length d.tasks)).ask) refl where
  by : (b : Bool) → is_dry (user_task_at (admitted d ask).tasks (length d.tasks)).ask ≡ b → (changed_by d ask (p ∷ ps)).exec ≡ launched d.exec (p ∷ ps) None
  by true e = absurd (true≢false (sym e ∙ rw (newest d ask) wet))
  by false e = rw e (rw none refl)

-- a request for another replication factor that is taken
next_is : (file : Meaning) (s : Core) (ask : AskView) (e : Event) → IsRequest ask e → changes_factor ask ≡ true → change_refusal (moment_of file s) s.desk ask ≡ None
    → (next file s e).desk ≡ changed_by s.desk ask (changes_asked (moment_of file s) s.desk ask)
next_is file s ask (event.Submit x None) is asks taken = rw is (rw (asks, taken) refl)
next_is file s ask (event.Submit x (Some id)) is asks taken = absurd is
next_is file s ask (event.Heal cause x) is asks taken = rw is (rw (asks, taken) refl)
next_is file s ask _ is asks taken = absurd is

-- a request is legal
request_legal : (ask : AskView) (e : Event) → IsRequest ask e → IsLegal e
request_legal ask (event.Submit x key) is = tt
request_legal ask (event.Heal cause x) is = tt
request_legal ask _ is = absurd is

-- the changed lists are of the file's cluster
ends : (file : Meaning) (s : Core) (ask : AskView) → changes_factor ask ≡ true → IsInput file → IsSound file s.desk → Belongs file.cluster (lists_asked (moment_of file s) s.desk ask)
ends file s ask asks input sound =
    belongs_same (moment_of file s).cluster file.cluster (lists_asked (moment_of file s) s.desk ask) (shape_present file s.desk.exec.hosts s.samples) (change_is file s ask asks input sound).belongs

-- nothing of the lists refuses it
not_refused : (now : Moment) (d : Desk) (ask : AskView) → resize_refusal now d ask ≡ None → refusal now.cluster ask.topics ask.factor (settled_lists d.exec) ≡ None
unfolding refusal
not_refused now d ask h = by (first_absent now.cluster ask.topics) (first_short now.cluster ask.topics ask.factor (settled_lists d.exec)) h where
  by : (o : Option (List ℕ)) (p : Option ℕ) → option_or (option_map reply.NoSuchTopic o) (option_map reply.TooFewBrokers p) ≡ None → option_or (option_map fault.NoSuchTopic o) (option_map fault.TooFewBrokers p) ≡ None
  by None None e = refl
  by None (Some n) e = absurd cc
  by (Some t) p e = absurd cc

-- lists between which nothing changes
same_lists : (start end : Lists) → length start ≡ length end → proposals start end ≡ [] → start ≡ end
same_lists start end same none = ext_get_or [] start end same (λ p l. unchanged start end p l (rw none (All-nil (λ q. (q.part == p) ≡ false))))

pub changed_lists_come : ChangedListsCome
changed_lists_come file s ask e es input sound legal is asks wet taken calm busy over = record {
  lists_are = come;
  long = λ p l named. ap (λ (ls : Lists). length (list_of ls p)) come
      ∙ (change_is file s ask asks input sound).asked (not_refused now s.desk ask (none_in_the_way now s.desk ask taken).2) p (subst (λ n. p < n) (ap (λ (ls : Lists). length ls) come ∙ sym same) l) named;
} where
  now : Moment
  now = moment_of file s

  start : Lists
  start = settled_lists s.desk.exec

  end : Lists
  end = lists_asked now s.desk ask

  none : first_unfinished s.desk.exec ≡ None
  none = no_first s.desk.exec (none_unfinished now s.desk ask sound.tasks taken wet)

  settled : lists_now s.desk.exec ≡ start
  settled = ap (λ (f : ℕ → List ℕ). each_below (λ p. f p ∷ []) (length s.desk.exec.base)) (fun_ext (list_settled s.desk.exec (none_flies s.desk.exec none)))

  same : length start ≡ length end
  same = (settled_belongs file.cluster s.desk.exec sound.exec).one_each ∙ sym (ends file s ask asks input sound).one_each

  exec_is : (next file s e).desk.exec ≡ started s.desk.exec (changes_asked now s.desk ask)
  exec_is = ap (λ (d : Desk). d.exec) (next_is file s ask e is asks taken) ∙ exec_changed s.desk ask (changes_asked now s.desk ask) wet none

  -- nothing was to change, so no event is behind
  unchanged_lists : changes_asked now s.desk ask ≡ [] → (es : List Event) → IsBusyUntil file (next file s e) es → lists_now (after_all file (next file s e) es).desk.exec ≡ end
  unchanged_lists nil [] busy = ap lists_now (exec_is ∙ ap (started s.desk.exec) nil) ∙ settled ∙ same_lists start end same nil
  unchanged_lists nil (x ∷ xs) busy =
      let idle : any_unfinished (next file s e).desk.exec.tasks ≡ false =
      ap (λ (u : State). any_unfinished u.tasks) (exec_is ∙ ap (started s.desk.exec) nil) ∙ none_unfinished now s.desk ask sound.tasks taken wet in
      absurd (false≢true (sym idle ∙ busy.0))

  come_by : (ps : List Proposal) → changes_asked now s.desk ask ≡ ps → lists_now (after_all file (next file s e) es).desk.exec ≡ end
  come_by [] nil = unchanged_lists nil es busy
  come_by (p ∷ ps) some =
      let before : Lists = lists_now s.desk.exec in
      let hosts : List Host = s.desk.exec.hosts in
      let made : proposals before end ≡ p ∷ ps = ap (λ (l : Lists). proposals l end) settled ∙ some in
      let begun : IsCalm before hosts (p ∷ ps) (next file s e).desk.exec = subst (IsCalm before hosts (p ∷ ps)) (sym (exec_is ∙ ap (started s.desk.exec) some)) (calm_begun s.desk.exec (p ∷ ps)) in
      let last : IsCalm before hosts (proposals before end) (after_all file (next file s e) es).desk.exec =
      subst (λ (qs : List Proposal). IsCalm before hosts qs (after_all file (next file s e) es).desk.exec) (sym made)
      (calm_behind before hosts (p ∷ ps) file (next file s e) es input (each_event_keeps_sound file s e input (request_legal ask e is) sound) legal calm busy begun) in
      lists_carried before end (ap (λ (l : Lists). length l) settled ∙ same) hosts (after_all file (next file s e) es).desk.exec last over

  come : lists_now (after_all file (next file s e) es).desk.exec ≡ end
  come = come_by (changes_asked now s.desk ask) refl
