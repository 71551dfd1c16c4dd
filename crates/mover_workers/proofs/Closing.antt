-- A loop that ends because it is closed has seen Close.
use Rattle.std.proofs.Common.{◌≡◌, ℕ, zero, suc, Bool, true, false, ◌||◌, List, [], ◌∷◌, ◌++◌, take, refl, ap, sym, ◌∙◌, subst, append_assoc, inl, inr}
use Rattle.std.specs.Prelude.{Option, Some, None, Result, Ok, Err}
use Rattle.std.specs.List.{list_any}
use mathlib.Core.List.{IsPrefix}
use Rattle.cluster_json.specs.File.{Meaning}
use Rattle.exec_terms.specs.Machine.{next_work}
use Rattle.exec_terms.specs.declared.replies.Given.{Given}
use Rattle.exec_terms.specs.declared.replies.Idle.{Idle as NoWork}
use Rattle.core_laws.specs.Events.{ClosingWasAsked, is_close}
use Rattle.core_terms.specs.History.{reply_after, state_after}
use Rattle.core_terms.specs.Jobs.{plans_execution}
use Rattle.core_terms.specs.Plans.{first_waiting, reply_take_job}
use Rattle.core_terms.specs.State.{Desk, Moment, moment_of}
use Rattle.core_terms.specs.Works.{reason_of, take_told}
use Rattle.core_terms.specs.declared.events.Event.{Event}
use Rattle.core_terms.specs.declared.replies.Reason.{Reason}
use Rattle.core_terms.specs.declared.replies.Reason.TheVariants as why
use Rattle.core_terms.specs.declared.replies.Reply.{Reply}
use Rattle.core_terms.specs.declared.replies.Reply.TheVariants as reply
use Rattle.mover_rounds.specs.Asked.{Entry, Rules, entries_of}
use Rattle.mover_rounds.specs.Made.{Copies}
use Rattle.turn_book.specs.Known.{Known as PassView}
use Rattle.mover_workers.specs.Callers.{known_by_pass, turn_rules}
use Rattle.mover_workers.specs.Loops.{HasMoved, HasPlanned}
use Rattle.mover_workers.specs.Steps.{IsBehindIdle, IsIdleFor, IsIdleStep, IsLook, MoveStep}
use Rattle.mover_workers.specs.declared.loops.LoopEnd.{LoopEnd}
use Rattle.mover_workers.specs.declared.loops.LoopEnd.TheVariants as loop
use Rattle.mover_workers.specs.declared.steps.Step.TheVariants.{Closed}

take_begins : (n : ℕ) (h : List Event) → IsPrefix (take n h) h
take_begins zero h = (h, refl)
take_begins (suc n) [] = ([], refl)
take_begins (suc n) (x ∷ h) = let r = take_begins n h in (r.0, ap (λ ys. x ∷ ys) r.1)

abbrev rest_of : List Entry → List Entry
rest_of [] = []
rest_of (x ∷ xs) = xs

abbrev first_of : Entry → List Entry → Entry
first_of d [] = d
first_of d (x ∷ xs) = x

-- an own entry stands behind what was seen
own_begins : (h : List Event) (mine : List (ℕ × Event)) (front : List Entry) (x : Entry) (back : List Entry) → entries_of h mine ≡ front ++ x ∷ back → IsPrefix x.before h
own_begins h [] [] x back e = absurd (let h : [] ≡ x ∷ back = e in cc)
own_begins h [] (y ∷ front) x back e = absurd (let h : [] ≡ y ∷ (front ++ x ∷ back) = e in cc)
own_begins h (m ∷ mine) [] x back e = subst (λ (y : Entry). IsPrefix y.before h) (ap (first_of x) e) (take_begins m.0 h)
own_begins h (m ∷ mine) (y ∷ front) x back e = own_begins h mine front x back (ap rest_of e)

or_on : (b c d : Bool) → (c ≡ true → d ≡ true) → (b || c) ≡ true → (b || d) ≡ true
or_on true c d f e = refl
or_on false c d f e = f e

any_on : (xs ys : List Event) → list_any is_close xs ≡ true → list_any is_close (xs ++ ys) ≡ true
any_on [] ys e = absurd (let h : false ≡ true = e in cc)
any_on (x ∷ xs) ys e = or_on (is_close x) (list_any is_close xs) (list_any is_close (xs ++ ys)) (any_on xs ys) e

any_in : (xs all : List Event) → IsPrefix xs all → list_any is_close xs ≡ true → list_any is_close all ≡ true
any_in xs all p e = subst (λ ys. list_any is_close ys ≡ true) p.1 (any_on xs p.0 e)

-- the replies at which loops end tell that Close was asked
behind_closed : (r : Rules) (s : List Event) (reason : Reason) (b : Bool) (m : List Entry) → IsBehindIdle r s reason b (Ok Closed) m → b ≡ true
behind_closed r s why.Planning b m h = absurd h
behind_closed r s why.NoExecution true m h = refl
behind_closed r s why.NoExecution false m h = absurd h
behind_closed r s why.CapsFull b m h = absurd h
behind_closed r s why.AllLeased b m h = absurd h

idle_closed : (r : Rules) (s : List Event) (p b : Bool) (w : Result Given NoWork) (m : List Entry) → IsIdleFor r s (take_told p b w) (Ok Closed) m → b ≡ true
idle_closed r s p b (Ok g) m h = absurd h
idle_closed r s p b (Err none) m h = behind_closed r s (reason_of p none) b m h

abbrev told_by : Reply → Bool
told_by (reply.NoJob closing) = closing
told_by _ = false

look_closed : (now : Moment) (d : Desk) (o : Option ℕ) → reply_take_job now d o ≡ reply.NoJob true → d.closing ≡ true
look_closed now d None e = ap told_by e
look_closed now d (Some i) e = absurd (let h : false ≡ true = ap told_by e in cc)

module _ (file : Meaning) (law : ClosingWasAsked) where
  move_closing : (s : List Event) (m : List Entry) → IsIdleStep (turn_rules file) s (Ok Closed) m → (x : Entry) × (xs : List Entry) × (m ≡ x ∷ xs) × ((state_after file x.before).desk.closing ≡ true)
  move_closing s [] h = absurd h
  move_closing s (x ∷ xs) h =
      let d : Desk = (state_after file x.before).desk in
      (x, xs, refl, idle_closed (turn_rules file) s (list_any plans_execution d.tasks) d.closing (next_work d.exec) xs (subst (λ e. IsIdleFor (turn_rules file) s (reply_after file x.before e) (Ok Closed) xs) h.0 h.1))

  plan_closing : (m : List Entry) → IsLook (turn_rules file) true m → (x : Entry) × (xs : List Entry) × (m ≡ x ∷ xs) × ((state_after file x.before).desk.closing ≡ true)
  plan_closing [] h = absurd h
  plan_closing (x ∷ []) h =
      let d : Desk = (state_after file x.before).desk in
      (x, [], refl, look_closed (moment_of file (state_after file x.before)) d (first_waiting d) (subst (λ e. reply_after file x.before e ≡ reply.NoJob true) h.0 h.1))
  plan_closing (x ∷ y ∷ ys) h = absurd h

  -- an own entry behind which the requests have ended
  seen_close : (v w : PassView Meaning Event) (made front last : List Entry) (x : Entry) (xs : List Entry) → entries_of w.seen w.mine ≡ entries_of v.seen v.mine ++ made → made ≡ front ++ last → last ≡ x ∷ xs
      → (state_after file x.before).desk.closing ≡ true → list_any is_close w.seen ≡ true
  seen_close v w made front last x xs own parts is closing =
      let all : entries_of w.seen w.mine ≡ (entries_of v.seen v.mine ++ front) ++ x ∷ xs
      = own ∙ (ap (λ ys. entries_of v.seen v.mine ++ ys) (parts ∙ ap (λ ys. front ++ ys) is) ∙ sym (append_assoc (entries_of v.seen v.mine) front (x ∷ xs))) in
      any_in x.before w.seen (own_begins w.seen w.mine (entries_of v.seen v.mine ++ front) x xs all) (law file x.before closing)

  moved_closed : (v w : PassView Meaning Event) (k l : Copies) (h : HasMoved (known_by_pass file v) (known_by_pass file w) k l loop.Closed) → MoveStep (turn_rules file) w.seen (Ok Closed) h.is.last h.is.last_copies → list_any is_close w.seen ≡ true
  moved_closed v w k l h (inl q) = absurd q
  moved_closed v w k l h (inr q) =
      let c = move_closing w.seen h.is.last q.0 in
      seen_close v w h.made h.is.front h.is.last c.0 c.1 h.own h.is.parts.0 c.2 c.3

  pub moves_closed : (v w : PassView Meaning Event) (k l : Copies) (end : LoopEnd) → HasMoved (known_by_pass file v) (known_by_pass file w) k l end → end ≡ loop.Closed → list_any is_close w.seen ≡ true
  moves_closed v w k l end h e =
      let m : HasMoved (known_by_pass file v) (known_by_pass file w) k l loop.Closed = subst (HasMoved (known_by_pass file v) (known_by_pass file w) k l) e h in
      moved_closed v w k l m m.is.last_is

  pub plans_closed : (v w : PassView Meaning Event) (end : LoopEnd) → HasPlanned (known_by_pass file v) (known_by_pass file w) end → end ≡ loop.Closed → list_any is_close w.seen ≡ true
  plans_closed v w end h e =
      let m : HasPlanned (known_by_pass file v) (known_by_pass file w) loop.Closed = subst (HasPlanned (known_by_pass file v) (known_by_pass file w)) e h in
      let c = plan_closing m.is.last m.is.last_is.0 in
      seen_close v w m.made m.is.front m.is.last c.0 c.1 m.own m.is.parts.0 c.2 c.3
