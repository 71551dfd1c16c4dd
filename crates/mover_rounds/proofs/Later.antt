-- What holds of rounds as far as an actor has seen holds when it has seen more.
use Rattle.std.proofs.Common.{◌≡◌, ℕ, true, false, List, [], ◌∷◌, inl, inr, ◌⊎◌}
use mathlib.Core.List.{IsPrefix}
use Rattle.cluster_gate.specs.declared.copier.ChunkCopy.{ChunkCopy}
use Rattle.core_terms.specs.declared.events.Event.{Event}
use Rattle.core_terms.specs.declared.replies.Reply.{Reply}
use Rattle.core_terms.specs.declared.replies.Reply.TheVariants as reply
use Rattle.mover_rounds.specs.Asked.{Rules, Entry, reply_to, through}
use Rattle.mover_rounds.specs.Rounds.{Standing, done, undone, idle, look, Unsure, IsEnd, IsWorkRound, IsPlanRound, IsLookedRound, IsRound}
use Rattle.mover_rounds.specs.Made.{copies_of, IsLostCopy, LostIn, IsBroken, AreRounds, IsPumped, until}
use Rattle.core_terms.specs.declared.pumps.PumpEnd.{PumpEnd}
use Rattle.core_terms.specs.declared.pumps.PumpEnd.TheVariants as pump
use Rattle.mover_rounds.proofs.Prefixes.{prefix_self, prefix_trans}
use Rattle.mover_rounds.proofs.Pumping.{done_later}

unsure_later : (r : Rules) (s t from : List Event) (e : Event) → IsPrefix s t → Unsure r from s e → Unsure r from t e
unsure_later r s t from e p u = record { history = u.history; longer = u.longer; saw = prefix_trans u.history s t u.saw p; unsure = u.unsure }

end_later : (r : Rules) (s t : List Event) → IsPrefix s t → (st : Standing) (what : Reply) (after : List Event) (m : List Entry) → IsEnd r s st what after m → IsEnd r t st what after m
end_later r s t p done what after [] h = h
end_later r s t p done what after (y ∷ []) h = h
end_later r s t p done what after (y ∷ z ∷ zs) h = h
end_later r s t p undone what after [] h = record { back = h.back; gives_back = h.gives_back; unsure = unsure_later r s t after h.back p h.unsure }
end_later r s t p undone what after (y ∷ []) h = h
end_later r s t p undone what after (y ∷ z ∷ zs) h = h
end_later r s t p idle what after m h = h
end_later r s t p look what after m h = h

plan_later : (r : Rules) (s t : List Event) → IsPrefix s t → (st : Standing) (m : List Entry) → IsPlanRound r s st m → IsPlanRound r t st m
plan_later r s t p done [] h = h
plan_later r s t p done (x ∷ xs) h = (h.0, h.1, end_later r s t p done (reply_to r x) (through x) xs h.2)
plan_later r s t p undone [] h = h
plan_later r s t p undone (x ∷ xs) h = (h.0, h.1, end_later r s t p undone (reply_to r x) (through x) xs h.2)
plan_later r s t p idle [] h = h
plan_later r s t p idle (x ∷ xs) h = (h.0, h.1, end_later r s t p idle (reply_to r x) (through x) xs h.2)
plan_later r s t p look [] h = h
plan_later r s t p look (x ∷ []) h = h
plan_later r s t p look (x ∷ y ∷ xs) h = (h.0, h.1, end_later r s t p look (reply_to r x) (through x) (y ∷ xs) h.2)

work_later : (r : Rules) (s t : List Event) → IsPrefix s t → (st : Standing) (m : List Entry) → IsWorkRound r s st m → IsWorkRound r t st m
work_later r s t p done [] h = h
work_later r s t p done (x ∷ xs) h = (h.0, h.1, end_later r s t p done (reply_to r x) (through x) xs h.2)
work_later r s t p undone [] h = h
work_later r s t p undone (x ∷ xs) h = (h.0, h.1, end_later r s t p undone (reply_to r x) (through x) xs h.2)
work_later r s t p look [] h = h
work_later r s t p look (x ∷ xs) h = (h.0, h.1, end_later r s t p look (reply_to r x) (through x) xs h.2)
work_later r s t p idle [] h = h
work_later r s t p idle (x ∷ []) h = h
work_later r s t p idle (x ∷ y ∷ xs) h = (h.0, h.1, end_later r s t p idle (reply_to r x) (through x) (y ∷ xs) h.2)

looked_later : (r : Rules) (s t : List Event) → IsPrefix s t → (st : Standing) (m : List Entry) → IsLookedRound r s st m → IsLookedRound r t st m
looked_later r s t p st [] h = h
looked_later r s t p st (x ∷ xs) h = (h.0, work_later r s t p st xs h.1)

pub round_later : (r : Rules) (s t : List Event) → IsPrefix s t → (st : Standing) (m : List Entry) → IsRound r s st m → IsRound r t st m
round_later r s t p st m (inl h) = inl (plan_later r s t p st m h)
round_later r s t p st m (inr h) = inr (looked_later r s t p st m h)

lost_copy_later : (r : Rules) (s t : List Event) → IsPrefix s t → (after : List Event) (what : Reply) (c : List ChunkCopy) → IsLostCopy r s after what c → IsLostCopy r t after what c
lost_copy_later r s t p after (reply.Work g) c h = record { receipt = h.receipt; works = h.works; copies_are = h.copies_are; unsure = unsure_later r s t after _ p h.unsure }
lost_copy_later r s t p after _ c h = absurd h

until_later : (m : List Entry) (s t : List Event) → IsPrefix s t → IsPrefix (until m s) (until m t)
until_later [] s t p = p
until_later (y ∷ ys) s t p = prefix_self y.before

lost_later : (r : Rules) (s t : List Event) → IsPrefix s t → (m : List Entry) (c : List ChunkCopy) → (c ≡ copies_of m) ⊎ LostIn r s m c → (c ≡ copies_of m) ⊎ LostIn r t m c
lost_later r s t p m c (inl h) = inl h
lost_later r s t p m c (inr h) = inr (record { entry = h.entry; front = h.front; back = h.back; among = h.among; took = h.took; lost = lost_copy_later r (until h.back s) (until h.back t) (until_later h.back s t p) (through h.entry) (reply_to r h.entry) c h.lost })

broken_later : (r : Rules) (s t : List Event) → IsPrefix s t → (m : List Entry) (c : List ChunkCopy) → IsBroken (IsRound r s) r s m c → IsBroken (IsRound r t) r t m c
broken_later r s t p m c (inl h) = inl h
broken_later r s t p m c (inr (inl h)) = inr (inl (round_later r s t p look m h.0, h.1))
broken_later r s t p m c (inr (inr h)) = inr (inr (round_later r s t p undone m h.0, lost_later r s t p m c h.1))

broken_rounds_later : (r : Rules) (s t : List Event) → IsPrefix s t → (n : ℕ) (m : List Entry) (c : List ChunkCopy) → AreRounds r s n (IsBroken (IsRound r s) r s) m c → AreRounds r t n (IsBroken (IsRound r t) r t) m c
broken_rounds_later r s t p n m c h = record { front = h.front; last = h.last; front_copies = h.front_copies; last_copies = h.last_copies; parts = h.parts; did = done_later r s t n h.front h.front_copies h.did; last_is = broken_later r s t p h.last h.last_copies h.last_is }

pub pumped_later : (r : Rules) (s t : List Event) → IsPrefix s t → (steps : ℕ) (end : PumpEnd) (m : List Entry) (c : List ChunkCopy) → IsPumped r s steps end m c → IsPumped r t steps end m c
pumped_later r s t p steps (pump.Done n true) m c (lt, h) = (lt, record { front = h.front; last = h.last; front_copies = h.front_copies; last_copies = h.last_copies; parts = h.parts; did = done_later r s t n h.front h.front_copies h.did; last_is = (looked_later r s t p idle h.last h.last_is.0, h.last_is.1) })
pumped_later r s t p steps (pump.Done n false) m c (e, h) = (e, done_later r s t n m c h)
pumped_later r s t p steps (pump.AdminFault number) m c (n, lt, h) = (n, lt, broken_rounds_later r s t p n m c h)
pumped_later r s t p steps pump.Memory m c (n, lt, h) = (n, lt, broken_rounds_later r s t p n m c h)
