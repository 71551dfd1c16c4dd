-- Why there is no further request, and how the link ends then.
use Rattle.std.proofs.Common.{◌≡◌, ℕ, List, [], Ok, Err, refl, ap, sym, ◌∙◌, append-nil, inl, inr, Bool, false}
use Rattle.std.specs.Prelude.{Option, Some, None, Result, OnErr, OnOk}
use Rattle.cc_base.specs.Outside.{IsPrefixOut, appended}
use Rattle.rest_stream.specs.declared.raw.Stop.{Stop}
use Rattle.rest_stream.specs.declared.raw.Stop.TheVariants as stop
use Rattle.rest_replies.specs.declared.told.Told.{Told}
use Rattle.rest_replies.specs.declared.told.Told.TheVariants as told
use Rattle.rest_session.specs.Answered.{IsLast, IsRefused, IsReplied, IsWritten, end_of}
use Rattle.rest_session.specs.Pieces.{IsReply}
use Rattle.rest_session.specs.declared.session.LinkEnd.{LinkEnd}
use Rattle.rest_session.specs.declared.session.LinkEnd.TheVariants as end

-- no byte more is told
pub nothing_more : (old : Option (List ℕ)) → old ≡ appended old []
nothing_more None = refl
nothing_more (Some x) = ap Some (sym (append-nil x))

-- a reply was written, whole or in part
written_by : {E : Type 0} (old new : Option (List ℕ)) (reply : List ℕ) (r : Result (Unit {0}) E) → OnOk r (new ≡ appended old reply) → OnErr r (IsPrefixOut old new reply) → IsWritten old new r reply
written_by old new reply (Ok x) p q = p
written_by old new reply (Err f) p q = q

pub replied_by : {E : Type 0} (alone : Bool) (t : Told) (old new : Option (List ℕ)) (reply : List ℕ) (r : Result (Unit {0}) E) → IsReply alone t reply → OnOk r (new ≡ appended old reply) → OnErr r (IsPrefixOut old new reply) → IsReplied alone t old new r
replied_by alone t old new reply r is p q = (reply, is, written_by old new reply r p q)

-- a reason that has no reply
pub refused_silent : (old : Option (List ℕ)) (why : Stop) (e : LinkEnd) → IsLast why [] → e ≡ end_of why → IsRefused old old why e
refused_silent old why e last is = inr (is, ([], last, nothing_more old))

-- a reason that has one
pub last_of : (why : Stop) → (why ≡ stop.End → ⊥) → (why ≡ stop.Truncated → ⊥) → (why ≡ stop.ReadFault → ⊥) → (why ≡ stop.Memory → ⊥) → (reply : List ℕ) → IsReply false (told.Stopped why) reply → IsLast why reply
last_of stop.End a b c d reply h = absurd (a refl)
last_of stop.Truncated a b c d reply h = absurd (b refl)
last_of stop.ReadFault a b c d reply h = absurd (c refl)
last_of stop.Memory a b c d reply h = absurd (d refl)
last_of stop.BadHead a b c d reply h = h
last_of stop.BadLength a b c d reply h = h
last_of stop.HeadTooLong a b c d reply h = h
last_of stop.BodyTooLong a b c d reply h = h
last_of stop.NoChunked a b c d reply h = h

pub refused_told : (old new : Option (List ℕ)) (why : Stop) (e : LinkEnd) → ((reply : List ℕ) → IsReply false (told.Stopped why) reply → IsLast why reply) → e ≡ end_of why → (reply : List ℕ) × IsReply false (told.Stopped why) reply × (new ≡ appended old reply) → IsRefused old new why e
refused_told old new why e last is h = inr (is, (h.0, last h.0 h.1, h.2))

pub refused_cut : (old new : Option (List ℕ)) (why : Stop) → ((reply : List ℕ) → IsReply false (told.Stopped why) reply → IsLast why reply) → (reply : List ℕ) × IsReply false (told.Stopped why) reply × IsPrefixOut old new reply → IsRefused old new why end.WriteFault
refused_cut old new why last h = inl (refl, (h.0, last h.0 h.1, h.2))

-- no reason ends a link by a write fault, and only a read fault by one of its own
pub never_written : (why : Stop) → end_of why ≡ end.WriteFault → ⊥
never_written stop.End h = cc
never_written stop.Truncated h = cc
never_written stop.BadHead h = cc
never_written stop.BadLength h = cc
never_written stop.HeadTooLong h = cc
never_written stop.BodyTooLong h = cc
never_written stop.NoChunked h = cc
never_written stop.ReadFault h = cc
never_written stop.Memory h = cc

read_only : (why : Stop) → end_of why ≡ end.ReadFault → why ≡ stop.ReadFault
read_only stop.End h = absurd cc
read_only stop.Truncated h = absurd cc
read_only stop.BadHead h = absurd cc
read_only stop.BadLength h = absurd cc
read_only stop.HeadTooLong h = absurd cc
read_only stop.BodyTooLong h = absurd cc
read_only stop.NoChunked h = absurd cc
read_only stop.ReadFault h = refl
read_only stop.Memory h = absurd cc

pub read_fault_is : (old new : Option (List ℕ)) (why : Stop) (e : LinkEnd) → IsRefused old new why e → e ≡ end.ReadFault → why ≡ stop.ReadFault
read_fault_is old new why e (inl h) q = absurd cc
read_fault_is old new why e (inr h) q = read_only why (sym h.0 ∙ q)

-- no reason ends a link by a shutdown
none_shuts : (why : Stop) → end_of why ≡ end.ShutDown → ⊥
none_shuts stop.End h = cc
none_shuts stop.Truncated h = cc
none_shuts stop.BadHead h = cc
none_shuts stop.BadLength h = cc
none_shuts stop.HeadTooLong h = cc
none_shuts stop.BodyTooLong h = cc
none_shuts stop.NoChunked h = cc
none_shuts stop.ReadFault h = cc
none_shuts stop.Memory h = cc

pub never_shut : (old new : Option (List ℕ)) (why : Stop) (e : LinkEnd) → IsRefused old new why e → e ≡ end.ShutDown → ⊥
never_shut old new why e (inl h) q = cc
never_shut old new why e (inr h) q = none_shuts why (sym h.0 ∙ q)
