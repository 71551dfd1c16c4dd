-- The entries of a drain at whose end nothing is left: each is calm, or a copy that failed.
use Rattle.std.proofs.Common.{◌≡◌, ℕ, true, List, [], ◌∷◌, ◌++◌, arith, refl, ap, sym, subst, inl, inr}
use Rattle.std.specs.List.{AllByRecursion}
use Rattle.cluster_gate.specs.declared.copier.ChunkCopy.{ChunkCopy}
use Rattle.exec_terms.specs.declared.replies.Given.{Given}
use Rattle.core_terms.specs.Ends.{Ends, Works}
use Rattle.core_terms.specs.declared.events.Event.{Event}
use Rattle.core_terms.specs.declared.events.Event.TheVariants as event
use Rattle.core_terms.specs.declared.replies.Reply.{Reply}
use Rattle.core_terms.specs.declared.replies.Reply.TheVariants as reply
use Rattle.mover_rounds.specs.Asked.{Entry, Rules, entries_from, reply_to, through}
use Rattle.mover_rounds.specs.Drained.{IsDrained}
use Rattle.mover_rounds.specs.Made.{AreDone, failed_in, failures_of, joined}
use Rattle.mover_rounds.specs.Rounds.{IsEnd, IsLookedRound, IsPlanRound, IsRound, IsWorkRound, done, idle}
use Rattle.mover_rounds.specs.declared.drains.DrainEnd.TheVariants as drain
use Rattle.request_runs.proofs.Steps.{is_calm}

-- where it tells no failure, the event is calm
abbrev pub IsDoing : Event → Type 0
IsDoing e = failed_in e ≡ 0 → is_calm e ≡ true

abbrev pub AreDoing : List Entry → Type 0
AreDoing made = AllByRecursion (λ x. IsDoing x.event) made

both_doing : (a b : List Entry) → AreDoing a → AreDoing b → AreDoing (a ++ b)
both_doing [] b h k = k
both_doing (x ∷ a) b h k = (h.0, both_doing a b h.1 k)

-- what ends work or a job
work_doing : (g : Given) (e : Event) → Works g e → IsDoing e
work_doing g (event.Copied receipt) h = λ z. refl
work_doing g (event.CopyFailed lease) h = λ z. absurd (omega (arith, z))
work_doing g (event.Commit lease) h = λ z. refl
work_doing g (event.Cancel lease) h = λ z. refl
work_doing g _ h = absurd h

end_doing : (what : Reply) (e : Event) → Ends what e → IsDoing e
end_doing (reply.Job ticket problem) (event.Planned t p) h = λ z. refl
end_doing (reply.Job ticket problem) (event.Refused t f) h = λ z. refl
end_doing (reply.Job ticket problem) _ h = absurd h
end_doing (reply.Work g) e h = work_doing g e h
end_doing _ e h = absurd h

module _ (r : Rules) (s : List Event) where
  done_doing : (what : Reply) (after : List Event) (m : List Entry) → IsEnd r s done what after m → AreDoing m
  done_doing what after [] h = absurd h
  done_doing what after (y ∷ []) h = (end_doing what y.event h, tt)
  done_doing what after (y ∷ z ∷ zs) h = absurd h

  plan_doing : (m : List Entry) → IsPlanRound r s done m → AreDoing m
  plan_doing [] h = absurd h
  plan_doing (x ∷ xs) h = ((λ z. ap is_calm h.0), done_doing (reply_to r x) (through x) xs h.2)

  work_done : (m : List Entry) → IsWorkRound r s done m → AreDoing m
  work_done [] h = absurd h
  work_done (x ∷ xs) h = ((λ z. ap is_calm h.0), done_doing (reply_to r x) (through x) xs h.2)

  work_idle : (m : List Entry) → IsWorkRound r s idle m → AreDoing m
  work_idle [] h = absurd h
  work_idle (x ∷ []) h = ((λ z. ap is_calm h.0), tt)
  work_idle (x ∷ y ∷ xs) h = absurd h.2

  looked_done : (m : List Entry) → IsLookedRound r s done m → AreDoing m
  looked_done [] h = absurd h
  looked_done (x ∷ xs) h = ((λ z. ap is_calm h.0.0), work_done xs h.1)

  looked_idle : (m : List Entry) → IsLookedRound r s idle m → AreDoing m
  looked_idle [] h = absurd h
  looked_idle (x ∷ xs) h = ((λ z. ap is_calm h.0.0), work_idle xs h.1)

  round_doing : (m : List Entry) → IsRound r s done m → AreDoing m
  round_doing m (inl h) = plan_doing m h
  round_doing m (inr h) = looked_done m h

  joined_doing : (ms : List (List Entry)) → AllByRecursion (IsRound r s done) ms → AreDoing (joined ms)
  joined_doing [] h = tt
  joined_doing (m ∷ ms) h = both_doing m (joined ms) (round_doing m h.0) (joined_doing ms h.1)

  rounds_doing : (n : ℕ) (m : List Entry) (c : List ChunkCopy) → AreDone r s n m c → AreDoing m
  rounds_doing n m c d = subst AreDoing (sym d.made_is) (joined_doing d.rounds d.did)

  drained_doing : (m : List Entry) (c : List ChunkCopy) → IsDrained r s drain.Drained m c → AreDoing m
  drained_doing m c h = subst AreDoing (sym h.1.parts.0) (both_doing h.1.front h.1.last (rounds_doing h.0 h.1.front h.1.front_copies h.1.did) (looked_idle h.1.last h.1.last_is.0))

-- where none tells a failure, all are calm
all_calm : (front es : List Event) → AreDoing (entries_from front es) → failures_of (entries_from front es) ≡ 0 → AllByRecursion (λ e. is_calm e ≡ true) es
all_calm front [] h z = tt
all_calm front (e ∷ es) h z = (
  h.0 (omega (arith, z)),
  all_calm (front ++ e ∷ []) es h.1 (omega (arith, z)),
)

pub drained_calm : (r : Rules) (s front es : List Event) (c : List ChunkCopy) → IsDrained r s drain.Drained (entries_from front es) c → failures_of (entries_from front es) ≡ 0
    → AllByRecursion (λ e. is_calm e ≡ true) es
drained_calm r s front es c h none = all_calm front es (drained_doing r s (entries_from front es) c h) none
