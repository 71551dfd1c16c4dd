-- No entry of a console, of a link, of a mover or of a planner asks Close, so the Close of a front is the only one. Nor does one ask a fix
-- where requests are reviewed.
use Rattle.std.proofs.Common.{◌≡◌, ◌⊎◌, ◌<◌, ℕ, zero, suc, Bool, true, false, ◌||◌, List, [], ◌∷◌, ◌++◌, length, map, refl, ap, sym, ◌∙◌, subst, arith, inl, inr}
use Rattle.std.specs.Prelude.{Option, Some, None, Result, Ok, Err, is_some, slice_get}
use Rattle.std.specs.List.{AllByRecursion, list_any}
use Rattle.std.proofs.lemmas.Bool.{cases_lt, eq-eqb}
use Rattle.std.proofs.lemmas.Bool.Decides.{eqb_tells}
use Rattle.std.proofs.lemmas.Option.{slice_get_within}
use mathlib.Core.Option.{some}
use lib.ListN.{get_elem?}
use Rattle.cluster_json.specs.File.{Meaning}
use Rattle.cluster_gate.specs.declared.copier.ChunkCopy.{ChunkCopy}
use Rattle.control_core.specs.Books.{BookView}
use Rattle.core_laws.specs.Events.{is_close}
use Rattle.core_terms.specs.declared.events.Event.{Event}
use Rattle.core_terms.specs.declared.faults.StepFault.{StepFault}
use Rattle.core_terms.specs.declared.replies.Reason.{Reason}
use Rattle.core_terms.specs.declared.replies.Reason.TheVariants as why
use Rattle.core_terms.specs.declared.replies.Reply.{Reply}
use Rattle.core_terms.specs.declared.replies.Reply.TheVariants as reply
use Rattle.mover_rounds.specs.Asked.{Entry, Rules, core_rules, entries_from, entries_of, reply_to}
use Rattle.mover_rounds.specs.Exact.{HasDrainedAlone}
use Rattle.mover_rounds.specs.Made.{Copies, joined}
use Rattle.mover_rounds.specs.Owned.{known_by_owner}
use Rattle.mover_rounds.specs.declared.drains.DrainEnd.{DrainEnd}
use Rattle.mover_rounds.proofs.Draining.{made_is}
use Rattle.mover_rounds.specs.Rounds.{IsPlanRound, done, look, undone}
use Rattle.mover_workers.specs.Callers.{known_by_pass, turn_rules}
use Rattle.net_links.specs.Links.{AcceptedLink}
use Rattle.mover_workers.specs.Loops.{AreUnitsThen, IsMoveUnit, IsPlanUnit, last_of}
use Rattle.mover_workers.specs.Steps.{IsBehindIdle, IsIdleFor, IsIdleStep, IsLook, IsPlanStep, IsWorkStep, MoveStep}
use Rattle.mover_workers.specs.declared.steps.Step.{Step}
use Rattle.mover_workers.specs.declared.steps.Step.TheVariants.{Closed, Done, Idle}
use Rattle.rest_session.proofs.Spared.{AreFree, IsSpared, both_free, close_spared, drained_free, heal_spared, none_has, pieces_open, plan_free, reviewed_no_fix, work_free}
use Rattle.rest_session.specs.Answered.{HasServed}
use Rattle.rest_session.specs.Heals.{is_heal}
use Rattle.rest_session.specs.Heard.{Offers, SiteView, paged}
use Rattle.rest_session.specs.Pieces.{IsPiece, Piece, in_order}
use Rattle.rest_session.specs.declared.session.LinkEnd.{LinkEnd}
use Rattle.turn_book.specs.Rule.{once_below, times}
use Rattle.live_service.specs.Asked.{ServingAsked, offering}
use Rattle.live_service.specs.Closing.{HasFronted}
use Rattle.mover_workers.specs.Close.{HasClosed, IsClosed}
use Rattle.live_service.specs.Boards.{BoardCallerView, BoardPass, board_seen}
use Rattle.live_service.specs.Fronts.{HasAnswered, HasAnsweredNet, HasServedLinks, IsFront}
use Rattle.live_service.specs.Lanes.{AreRuns, HasServedLanes, IsLaneRun, LaneRun, LaneState}
use Rattle.live_service.specs.Links.{IsLinkRun, LinkRun}
use Rattle.live_service.specs.Live.{AreAllOf, IsShared}
use Rattle.live_service.specs.Views.{FrontTold, LaneView, ServedView, TeamView}
use Rattle.live_service.specs.declared.front.FrontEnd.{FrontEnd}
use Rattle.live_service.specs.declared.front.FrontEnd.TheVariants as front
use Rattle.live_service.specs.Workers.{IsMover, IsPlanner, Mover, Pass, Planner, shares_of}
use Rattle.live_service.proofs.Sharing.{is_closed}

module _ (bad : Event → Bool) (spared : IsSpared bad) (r : Rules) (s : List Event) where
  look_free : (b : Bool) (m : List Entry) → IsLook r b m → AreFree bad m
  look_free b [] h = absurd h
  look_free b (x ∷ []) h = (ap bad h.0 ∙ spared.jobs, tt)
  look_free b (x ∷ y ∷ ys) h = absurd h

  undone_free : (m : List Entry) → (m ≡ []) ⊎ IsPlanRound r s undone m → AreFree bad m
  undone_free m (inl h) = subst (AreFree bad) (sym h) tt
  undone_free m (inr h) = plan_free bad spared r s undone m h

  plan_step_free : (o : Result Step StepFault) (m : List Entry) → IsPlanStep r s o m → AreFree bad m
  plan_step_free (Ok Done) m h = plan_free bad spared r s done m h
  plan_step_free (Ok Idle) m h = look_free false m h
  plan_step_free (Ok Closed) m h = look_free true m h
  plan_step_free (Err fault) m h = undone_free m h

  behind_idle_free : (reason : Reason) (b : Bool) (o : Result Step StepFault) (m : List Entry) → IsBehindIdle r s reason b o m → AreFree bad m
  behind_idle_free why.Planning b (Ok Done) m h = plan_free bad spared r s done m h
  behind_idle_free why.Planning b (Ok Idle) m h = plan_free bad spared r s look m h
  behind_idle_free why.Planning b (Ok Closed) m h = absurd h
  behind_idle_free why.Planning b (Err fault) m h = undone_free m h
  behind_idle_free why.NoExecution true (Ok Closed) m h = subst (AreFree bad) (sym h) tt
  behind_idle_free why.NoExecution false (Ok Idle) m h = subst (AreFree bad) (sym h) tt
  behind_idle_free why.CapsFull b (Ok Idle) m h = subst (AreFree bad) (sym h) tt
  behind_idle_free why.AllLeased b (Ok Idle) m h = subst (AreFree bad) (sym h) tt
  behind_idle_free _ b _ m h = absurd h

  idle_for_free : (o : Result Step StepFault) (y : Reply) (m : List Entry) → IsIdleFor r s y o m → AreFree bad m
  idle_for_free o (reply.Idle reason b) m h = behind_idle_free reason b o m h
  idle_for_free o _ m h = absurd h

  idle_step_free : (o : Result Step StepFault) (m : List Entry) → IsIdleStep r s o m → AreFree bad m
  idle_step_free o [] h = absurd h
  idle_step_free o (x ∷ xs) h = (ap bad h.0 ∙ spared.work, idle_for_free o (reply_to r x) xs h.1)

  work_step_free : (o : Result Step StepFault) (m : List Entry) (c : List ChunkCopy) → IsWorkStep r s o m c → AreFree bad m
  work_step_free (Ok Done) m c h = work_free bad spared r s done m h.0
  work_step_free (Ok Idle) m c h = absurd h
  work_step_free (Ok Closed) m c h = absurd h
  work_step_free (Err fault) m c (inl h) = subst (AreFree bad) (sym h.0) tt
  work_step_free (Err fault) m c (inr (inl h)) = work_free bad spared r s look m h.0
  work_step_free (Err fault) m c (inr (inr h)) = work_free bad spared r s undone m h.0

  move_step_free : (o : Result Step StepFault) (m : List Entry) (c : List ChunkCopy) → MoveStep r s o m c → AreFree bad m
  move_step_free o m c (inl h) = work_step_free o m c h
  move_step_free o m c (inr h) = idle_step_free o m h.0

  plan_unit_free : (m : List Entry) → IsPlanUnit r s m → AreFree bad m
  plan_unit_free m (inl h) = plan_step_free (Ok Done) m h
  plan_unit_free m (inr h) = plan_step_free (Ok Idle) m h

  move_unit_free : (m : List Entry) → IsMoveUnit r s m → AreFree bad m
  move_unit_free m (inl h) = work_free bad spared r s done m h
  move_unit_free m (inr (inl h)) = idle_step_free (Ok Done) m h
  move_unit_free m (inr (inr h)) = idle_step_free (Ok Idle) m h

module _ (bad : Event → Bool) (U : List Entry → Type 0) (L : List Entry → List ChunkCopy → Type 0) (unit_free : (m : List Entry) → U m → AreFree bad m) (last_free : (m : List Entry) (c : List ChunkCopy) → L m c → AreFree bad m) where
  joined_free : (ms : List (List Entry)) → AllByRecursion U ms → AreFree bad (joined ms)
  joined_free [] h = tt
  joined_free (m ∷ ms) h = both_free bad m (joined ms) (unit_free m h.0) (joined_free ms h.1)

  units_free : (m : List Entry) (c : List ChunkCopy) → AreUnitsThen U L m c → AreFree bad m
  units_free m c h = subst (AreFree bad) (sym h.parts.0) (both_free bad h.front h.last (subst (AreFree bad) (sym h.did.made_is) (joined_free h.did.units h.did.did)) (last_free h.last h.last_copies h.last_is))

-- the same of entries with their places
abbrev pub IsFreeAt : (Event → Bool) → ℕ × Event → Type 0
IsFreeAt bad p = bad p.1 ≡ false

abbrev pub AreFreeAt : (Event → Bool) → List (ℕ × Event) → Type 0
AreFreeAt bad mine = AllByRecursion (IsFreeAt bad) mine

module _ (bad : Event → Bool) where
  at_places : (h : List Event) (mine : List (ℕ × Event)) → AreFree bad (entries_of h mine) → AreFreeAt bad mine
  at_places h [] a = tt
  at_places h (p ∷ mine) a = (a.0, at_places h mine a.1)

  both_at : (a b : List (ℕ × Event)) → AreFreeAt bad a → AreFreeAt bad b → AreFreeAt bad (a ++ b)
  both_at [] b h k = k
  both_at (x ∷ a) b h k = (h.0, both_at a b h.1 k)

  with_places : (h : List Event) (mine : List (ℕ × Event)) → AreFreeAt bad mine → AreFree bad (entries_of h mine)
  with_places h [] a = tt
  with_places h (p ∷ mine) a = (a.0, with_places h mine a.1)

  -- a pass that grew
  grown_free : (v w : Pass) (made : List Entry) → AreFreeAt bad v.mine → entries_of w.seen w.mine ≡ entries_of v.seen v.mine ++ made → AreFree bad made → AreFreeAt bad w.mine
  grown_free v w made before own free = at_places w.seen w.mine (subst (AreFree bad) (sym own) (both_free bad (entries_of v.seen v.mine) made (with_places v.seen v.mine before) free))

  none_free : (v : Pass) → v.mine ≡ [] → AreFreeAt bad v.mine
  none_free v fresh = subst (AreFreeAt bad) (sym fresh) tt

  -- one that began without an entry
  own_free : (v w : Pass) (made : List Entry) → v.mine ≡ [] → entries_of w.seen w.mine ≡ entries_of v.seen v.mine ++ made → AreFree bad made → AreFreeAt bad w.mine
  own_free v w made fresh own free = grown_free v w made (none_free v fresh) own free

module _ (bad : Event → Bool) (spared : IsSpared bad) (file : Meaning) where
  pub mover_free : (m : Mover) → IsMover file m → AreFreeAt bad m.back.mine
  mover_free m h =
      let k = known_by_pass file m.back in
      own_free bad m.given m.back h.moved.made h.fresh h.moved.own (units_free bad _ _ (move_unit_free bad spared k.rules k.seen) (move_step_free bad spared k.rules k.seen (last_of m.end)) h.moved.made h.moved.copies h.moved.is)

  pub planner_free : (p : Planner) → IsPlanner file p → AreFreeAt bad p.back.mine
  planner_free p h =
      let k = known_by_pass file p.back in
      own_free bad p.given p.back h.planned.made h.fresh h.planned.own (units_free bad _ _ (plan_unit_free bad spared k.rules k.seen) (λ m c i. plan_step_free bad spared k.rules k.seen (last_of p.end) m i.0) h.planned.made h.planned.copies h.planned.is)

-- a link sees a board just where requests are reviewed
seen_some : (b : Bool) (p : BoardPass) → is_some (board_seen b p) ≡ b
seen_some true p = refl
seen_some false p = refl

-- what a link offers that reviews or doesn't
abbrev offered : SiteView → Bool → Offers
offered o reviews = record { reviews = reviews; site = o }

module _ (file : Meaning) (bad : Event → Bool) (spared : IsSpared bad) (reviews : Bool) (pieces_free : (o : SiteView) (r : Rules) (s : List Event) (ps : List Piece) → AllByRecursion (IsPiece (offered o reviews) r s) ps → AreFree bad (in_order (λ p. p.made) ps)) where
  served_free : (o : SiteView) (v w : Pass) (x y : BoardPass) (k l : Copies) (left old new : Option (List ℕ)) (end : LinkEnd) → AreFreeAt bad v.mine → HasServed o (known_by_pass file v) (known_by_pass file w) (board_seen reviews x) (board_seen reviews y) k l left old new end → AreFreeAt bad w.mine
  served_free o v w x y k l left old new end before h =
      let r = turn_rules file in
      let are : AllByRecursion (IsPiece (offered o reviews) r w.seen) h.made.is.pieces = subst (λ (b : Bool). AllByRecursion (IsPiece (offered o b) r w.seen) h.made.is.pieces) (seen_some reviews x) h.made.is.are.are in
      grown_free bad v w h.made.made before h.made.own (subst (AreFree bad) (sym h.made.is.are.made_is) (pieces_free o r w.seen h.made.is.pieces are))

  pub movers_free : (ms : List Mover) → AllByRecursion (IsMover file) ms → AreFreeAt bad (shares_of (map (λ m. m.back) ms))
  movers_free [] h = tt
  movers_free (m ∷ ms) h = both_at bad (shares_of (map (λ x. x.back) ms)) m.back.mine (movers_free ms h.1) (mover_free bad spared file m h.0)

  pub planners_free : (ps : List Planner) → AllByRecursion (IsPlanner file) ps → AreFreeAt bad (shares_of (map (λ p. p.back) ps))
  planners_free [] h = tt
  planners_free (p ∷ ps) h = both_at bad (shares_of (map (λ x. x.back) ps)) p.back.mine (planners_free ps h.1) (planner_free bad spared file p h.0)

  links_free : (site : SiteView) (rs : List LinkRun) → AllByRecursion (IsLinkRun file site reviews) rs → AreFreeAt bad (shares_of (map (λ r. r.back) rs))
  links_free site [] h = tt
  links_free site (r ∷ rs) h = both_at bad (shares_of (map (λ x. x.back) rs)) r.back.mine (links_free site rs h.1) (served_free site r.given r.back r.board_given r.board_back r.old r.new r.before.left r.before.written r.after.written r.end (none_free bad r.given h.0.fresh) h.0.run.answered)

  links_of_free : (site : SiteView) (told now : Option (List AcceptedLink)) (old new : List Copies) (links : List ServedView) (v w : Pass) (x y : BoardPass) → v.mine ≡ [] → HasServedLinks file site reviews told now old new links v w x y → AreFreeAt bad w.mine
  links_of_free site told now old new links v w x y fresh h = subst (AreFreeAt bad) (sym (h.shares.mine ∙ ap (λ (m : List (ℕ × Event)). m ++ shares_of (map (λ (r : LinkRun). r.back) h.runs)) fresh)) (links_free site h.runs h.are)

  -- the links of a thread
  runs_free : (site : SiteView) (a : LaneState) (rs : List LinkRun) (b : LaneState) → AreFreeAt bad a.pass.mine → AreRuns file site reviews a rs b → AreFreeAt bad b.pass.mine
  runs_free site a [] b before h = subst (λ (x : LaneState). AreFreeAt bad x.pass.mine) (sym h) before
  runs_free site a (r ∷ rs) b before h =
      let earlier = runs_free site a rs (record { pass = r.given; board = r.board_given; copies = r.old }) before h.2 in
      let now = served_free site r.given r.back r.board_given r.board_back r.old r.new r.before.left r.before.written r.after.written r.end earlier h.0.answered in
      subst (λ (x : LaneState). AreFreeAt bad x.pass.mine) (sym h.1) now

  lanes_free : (site : SiteView) (rs : List LaneRun) → AllByRecursion (IsLaneRun file site reviews) rs → AreFreeAt bad (shares_of (map (λ r. r.back.pass) rs))
  lanes_free site [] h = tt
  lanes_free site (r ∷ rs) h = both_at bad (shares_of (map (λ x. x.back.pass) rs)) r.back.pass.mine (lanes_free site rs h.1) (runs_free site r.given h.0.served.links r.back (none_free bad r.given.pass h.0.fresh) h.0.served.runs)

  lanes_of_free : (site : SiteView) (old new : List Copies) (lanes : List LaneView) (v w : Pass) (x y : BoardPass) → v.mine ≡ [] → HasServedLanes file site reviews old new lanes v w x y → AreFreeAt bad w.mine
  lanes_of_free site old new lanes v w x y fresh h = subst (AreFreeAt bad) (sym (h.shares.mine ∙ ap (λ (m : List (ℕ × Event)). m ++ shares_of (map (λ (r : LaneRun). r.back.pass) h.runs)) fresh)) (lanes_free site h.runs h.are)

  net_free : (forever : Bool) (asked : ServingAsked) (d e : BoardCallerView) (f g : FrontTold) (end : FrontEnd) (old new : List Copies) (v w : Pass) → d.reviews ≡ reviews → v.mine ≡ [] → HasAnsweredNet forever file asked d e f g end old new v w → AreFreeAt bad w.mine
  net_free false asked d e f g front.Accepted old new v w same fresh h = links_of_free (paged asked.page) f.net.accepted g.net.accepted old new g.served v w d.pass e.pass fresh (subst (λ (b : Bool). HasServedLinks file (paged asked.page) b f.net.accepted g.net.accepted old new g.served v w d.pass e.pass) same h.0.served)
  net_free false asked d e f g front.ListenerFault old new v w same fresh h = links_of_free (paged asked.page) f.net.accepted g.net.accepted old new g.served v w d.pass e.pass fresh (subst (λ (b : Bool). HasServedLinks file (paged asked.page) b f.net.accepted g.net.accepted old new g.served v w d.pass e.pass) same h.0.served)
  net_free false asked d e f g front.ShutDown old new v w same fresh h = absurd h
  net_free false asked d e f g (front.Console end) old new v w same fresh h = absurd h
  net_free true asked d e f g end old new v w same fresh h = lanes_of_free (offering asked.page) old new g.lanes v w d.pass e.pass fresh (subst (λ (b : Bool). HasServedLanes file (offering asked.page) b old new g.lanes v w d.pass e.pass) same h.0.served)

  pub answered_free : (asked : Option ServingAsked) (d e : BoardCallerView) (f g : FrontTold) (end : FrontEnd) (old new : List Copies) (v w : Pass) → d.reviews ≡ reviews → v.mine ≡ [] → HasAnswered file asked d e f g end old new v w → AreFreeAt bad w.mine
  answered_free None d e f g (front.Console end) old new v w same fresh h =
      served_free (paged false) v w d.pass e.pass f.copier g.copier f.console.left f.console.written g.console.written end (none_free bad v fresh)
      (subst (λ (b : Bool). HasServed (paged false) (known_by_pass file v) (known_by_pass file w) (board_seen b d.pass) (board_seen b e.pass) f.copier g.copier f.console.left f.console.written g.console.written end) same h.0.answered)
  answered_free None d e f g front.Accepted old new v w same fresh h = absurd h
  answered_free None d e f g front.ShutDown old new v w same fresh h = absurd h
  answered_free None d e f g front.ListenerFault old new v w same fresh h = absurd h
  answered_free (Some asked) d e f g end old new v w same fresh h = net_free asked.forever asked d e f g end old new v w same fresh h

-- ---- a journal whose places are these

seen_once : (x n : ℕ) → x < n → 0 < once_below x n
seen_once x zero p = absurd (omega (arith, p))
seen_once x (suc n) p = elim (cases_lt x n) [
  | inl l ↦ let r = seen_once x n l in omega (arith, r)
  | inr g ↦ let e : n ≡ x = omega (arith, g, p) in rw (eq-eqb n x e) (omega arith)
]

find_at : (x : ℕ) (mine : List (ℕ × Event)) → 0 < times x mine → (k : ℕ) × (p : ℕ × Event) × (get_elem? mine k ≡ some p) × (p.0 ≡ x)
find_at x [] h = absurd (omega (arith, h))
find_at x (p ∷ ps) h = elim (eqb_tells p.0 x) [
  | inl t ↦ (0, p, refl, t.1)
  | inr f ↦ let g = rw f.0 at h in let r = find_at x ps (omega (arith, g)) in (suc r.0, r.1, r.2, r.3)
]

free_at : (bad : Event → Bool) (mine : List (ℕ × Event)) (k : ℕ) (p : ℕ × Event) → AreFreeAt bad mine → get_elem? mine k ≡ some p → IsFreeAt bad p
free_at bad [] k p a e = absurd cc
free_at bad (q ∷ mine) zero p a e = let same : q ≡ p = (let h : some q ≡ some p = e in cc) in subst (IsFreeAt bad) same a.0
free_at bad (q ∷ mine) (suc k) p a e = free_at bad mine k p a.1 e

none_at : (bad : Event → Bool) (journal : List Event) → ((x : ℕ) (e : Event) → slice_get journal x ≡ Some e → bad e ≡ false) → list_any bad journal ≡ false
none_at bad [] f = refl
none_at bad (e ∷ es) f = let first : bad e ≡ false = f 0 e refl in rw first (none_at bad es (λ x. f (suc x)))

pub journal_free : (bad : Event → Bool) (journal : List Event) (mine : List (ℕ × Event)) → AreAllOf journal mine → AreFreeAt bad mine → list_any bad journal ≡ false
journal_free bad journal mine all free = none_at bad journal (λ x e at.
    let there : 0 < times x mine = (let once = seen_once x (length journal) (slice_get_within journal x e at) in let is = all.each_once x in omega (arith, once, is)) in
    let found = find_at x mine there in
    let stands : slice_get journal x ≡ Some found.1.1 = subst (λ (n : ℕ). slice_get journal n ≡ Some found.1.1) found.3 (all.placed found.0 found.1 found.2) in
    let same : found.1.1 ≡ e = (let h : Some found.1.1 ≡ Some e = sym stands ∙ at in cc) in
    subst (λ (y : Event). bad y ≡ false) same (free_at bad mine found.0 found.1 free found.2))

-- behind them, those of a drain
none_behind : (bad : Event → Bool) (v : Bool) (a b : List Event) → (v || list_any bad a) ≡ false → (list_any bad a ≡ false → list_any bad b ≡ false) → (v || list_any bad b) ≡ false
none_behind bad true a b h f = h
none_behind bad false a b h f = f h

none_in_both : (bad : Event → Bool) (a b : List Event) → list_any bad a ≡ false → list_any bad b ≡ false → list_any bad (a ++ b) ≡ false
none_in_both bad [] b p q = q
none_in_both bad (x ∷ a) b p q = none_behind bad (bad x) a (a ++ b) p (λ h. none_in_both bad a b h q)

pub drained_none : (bad : Event → Bool) → IsSpared bad → {A : Type 0} (b c : BookView A) (k l : Copies) (end : DrainEnd) → list_any bad b.journal ≡ false → HasDrainedAlone (known_by_owner b) (known_by_owner c) k l end → list_any bad c.journal ≡ false
drained_none bad spared b c k l end none h =
    let rest = h.longer.0 in
    let made : h.made ≡ entries_from b.journal rest = made_is b.journal c.journal rest h.made h.longer.1 h.own in
    let free : AreFree bad (entries_from b.journal rest) = subst (AreFree bad) made (drained_free bad spared (core_rules b.file) c.journal end h.made h.copies h.is.0) in
    subst (λ (j : List Event). list_any bad j ≡ false) h.longer.1 (none_in_both bad b.journal rest none (none_has bad b.journal rest free))

-- so a front whose Close wasn't taken is none: it asked the only one
module _ {A : Type 0} (faults : A → ℕ) (asked : Option ServingAsked) (d e : BoardCallerView) (f g : FrontTold) (end : FrontEnd) (b c : BookView A) (s t : TeamView) (movers planners : ℕ) (h : IsShared faults (λ xs ys. HasFronted (HasAnswered b.file asked d e f g end xs ys)) b c s t movers planners) where
  -- no entry is of a kind that neither the requests nor the workers ask, nor the front itself
  none_shared : (bad : Event → Bool) (spared : IsSpared bad) (pieces_free : (o : SiteView) (r : Rules) (k : List Event) (ps : List Piece) → AllByRecursion (IsPiece (offered o d.reviews) r k) ps → AreFree bad (in_order (λ p. p.made) ps))
      → (AreFreeAt bad h.run.run.did.served.mine → AreFreeAt bad h.run.run.over.mine) → list_any bad c.journal ≡ false
  none_shared bad spared pieces_free close =
      let r = h.run.run in
      let fresh : r.begun.mine ≡ [] = r.same ∙ h.fresh in
      let served : AreFreeAt bad r.over.mine = close (answered_free b.file bad spared d.reviews pieces_free asked d e f g end r.others_old r.others_new r.begun r.did.served refl fresh r.did.answered) in
      let moved : AreFreeAt bad h.run.between.mine = subst (AreFreeAt bad) (sym r.movers.shares.mine) (both_at bad r.over.mine _ served (movers_free b.file bad spared d.reviews pieces_free r.movers.movers r.movers.are)) in
      let all : AreFreeAt bad h.back.mine = subst (AreFreeAt bad) (sym h.run.planners.shares.mine) (both_at bad h.run.between.mine _ moved (planners_free b.file bad spared d.reviews pieces_free h.run.planners.planners h.run.planners.are)) in
      journal_free bad c.journal h.back.mine h.shares all

  front_closes : IsClosed h.run.run.did.served h.run.run.over → HasClosed h.run.run.did.served h.run.run.over
  front_closes (inl closed) = closed
  front_closes (inr none) = absurd (
      let one = none_shared is_close close_spared (λ o r k ps. pieces_open r k (offered o d.reviews) ps) (λ free. subst (AreFreeAt is_close) (sym none.mine) free) in
      let other = is_closed faults (HasAnswered b.file asked d e f g end) b c s t movers planners h in
      (let x : false ≡ true = sym one ∙ other in cc))

  -- nor a fix, where requests are reviewed
  no_fix_behind : IsClosed h.run.run.did.served h.run.run.over → AreFreeAt is_heal h.run.run.did.served.mine → AreFreeAt is_heal h.run.run.over.mine
  no_fix_behind (inl closed) free = subst (AreFreeAt is_heal) (sym closed.mine) (both_at is_heal h.run.run.did.served.mine _ free (refl, tt))
  no_fix_behind (inr none) free = subst (AreFreeAt is_heal) (sym none.mine) free

  pub unhealed : d.reviews ≡ true → list_any is_heal c.journal ≡ false
  unhealed reviewed = none_shared is_heal heal_spared (λ o r k ps are. reviewed_no_fix r k o ps (subst (λ (x : Bool). AllByRecursion (IsPiece (offered o x) r k) ps) reviewed are)) (no_fix_behind h.run.run.did.closed)

  pub closes_once : IsShared faults (λ xs ys. IsFront (HasAnswered b.file asked d e f g end xs ys)) b c s t movers planners
  closes_once = record {
    given = h.given;
    fresh = h.fresh;
    back = h.back;
    run = record {
      between = h.run.between;
      run = record {
        begun = h.run.run.begun;
        same = h.run.run.same;
        over = h.run.run.over;
        others_old = h.run.run.others_old;
        others_new = h.run.run.others_new;
        did = record { served = h.run.run.did.served; placed = h.run.run.did.placed; answered = h.run.run.did.answered; closed = front_closes h.run.run.did.closed };
        movers = h.run.run.movers;
      };
      planners = h.run.planners;
    };
    since = h.since;
    shares = h.shares;
    saw = h.saw;
    told = h.told;
  }
