-- How the requests of a link were answered, and how it ended.
use Rattle.std.specs.Prelude.{◌≡◌, ◌≤◌, ℕ, Bool, true, false, List, [], ◌∷◌, ◌++◌, ◌⊎◌, length, take, Option, Some, None, IfSome, Result, Ok, Err}
use Rattle.cc_base.specs.Outside.{HasRisen, IsPrefixOut, appended}
use Rattle.cluster_gate.specs.declared.copier.ChunkCopy.{ChunkCopy}
use Rattle.core_terms.specs.declared.events.Event.{Event}
use Rattle.core_terms.specs.declared.faults.StepFault.TheVariants as step
use Rattle.core_terms.specs.declared.pumps.PumpEnd.TheVariants as pump
use Rattle.mover_rounds.specs.Asked.{Entry, Known, Rules}
use Rattle.mover_rounds.specs.Made.{Copies}
use Rattle.rest_stream.specs.Stream.{Requests, closed, stopped}
use Rattle.rest_stream.specs.declared.raw.RawRequest.{RawRequest}
use Rattle.rest_stream.specs.declared.raw.Stop.{Stop}
use Rattle.rest_stream.specs.declared.raw.Stop.TheVariants as stop
use Rattle.rest_replies.specs.declared.told.Told.{Told}
use Rattle.rest_replies.specs.declared.told.Told.TheVariants as told
use Rattle.review_board.specs.Asked.{BoardEntry, BoardKnown}
use Rattle.rest_session.specs.Pieces.{ArePieces, IsReply, Piece, asks_head, raws_of, replies_of}
use Rattle.rest_session.specs.Heard.{IsHeard, Offers, SiteView, offers}
use Rattle.rest_session.specs.Reviewed.{HasMadeBoth}
use Rattle.rest_session.specs.Starts.{StartsAsGiven}
use Rattle.rest_session.specs.declared.session.LinkEnd.{LinkEnd}
use Rattle.rest_session.specs.declared.session.LinkEnd.TheVariants as end

-- the number of the admin's fault that is told, if one is
abbrev pub fault_told : Told → Option ℕ
fault_told (told.Step (step.AdminFault n)) = Some n
fault_told (told.Pump (pump.AdminFault n)) = Some n
fault_told _ = None

-- the number of the admin's last fault, before and after what tells this one: it has risen to just that; or none is told, and none came
abbrev pub IsBlamed : Option ℕ → ℕ → ℕ → Type 0
IsBlamed None before now = now ≡ before
IsBlamed (Some n) before now = (n ≡ now) × HasRisen before now

-- so over all pieces: the numbers that they tell rise, one after another
abbrev pub AreBlamed : ℕ → ℕ → List Piece → Type 0
AreBlamed before now [] = now ≡ before
AreBlamed before now (p ∷ ps) = (between : ℕ) × IsBlamed (fault_told p.told_is) before between × AreBlamed between now ps

-- these are the first requests of the stream: the last of them closes it, or others may follow
abbrev pub Begins : List ℕ → List RawRequest → Type 0
Begins stream raws = Requests 0 stream raws closed ⊎ Requests 0 stream raws (stopped stop.Memory)

-- the reply to the reason why there is no further request, if it has one
abbrev pub IsLast : Stop → List ℕ → Type 0
IsLast stop.End reply = reply ≡ []
IsLast stop.Truncated reply = reply ≡ []
IsLast stop.ReadFault reply = reply ≡ []
IsLast stop.Memory reply = reply ≡ []
IsLast why reply = IsReply false (told.Stopped why) reply

-- how a link ends for this reason
abbrev pub end_of : Stop → LinkEnd
end_of stop.End = end.Ended
end_of stop.Truncated = end.Cut
end_of stop.ReadFault = end.ReadFault
end_of stop.Memory = end.Memory
end_of stop.BadHead = end.Unframed
end_of stop.BadLength = end.Unframed
end_of stop.HeadTooLong = end.Unframed
end_of stop.BodyTooLong = end.Unframed
end_of stop.NoChunked = end.Unframed

-- the stream had no further request for this reason, and its reply is the last one
pub record IsStopped (left : Option (List ℕ)) (raws : List RawRequest) (why : Stop) (reply : List ℕ) : Type 0 where
  pub requests : IfSome left (λ stream. Requests 0 stream raws (stopped why))
  pub reply_is : IsLast why reply

-- these bytes were written whole, and of the last no more than a front
abbrev pub IsCutIn : Option (List ℕ) → Option (List ℕ) → List ℕ → List ℕ → Type 0
IsCutIn old new whole last = (n : ℕ) × (n ≤ length last) × (new ≡ appended old (whole ++ take n last))

-- the end of a link, by what was read of its stream and what was written: a request that closes; a service that shuts down behind the last
-- request; a write that failed in the reply to the last request, behind which none was carried out, or in that to the reason why there was
-- none; or this reason
abbrev pub HasEnded : Option (List ℕ) → Option (List ℕ) → Option (List ℕ) → List Piece → LinkEnd → Type 0
HasEnded left old new pieces end.Closed = IfSome left (λ stream. Requests 0 stream (raws_of pieces) closed) × (new ≡ appended old (replies_of pieces))
HasEnded left old new pieces end.ShutDown = IfSome left (λ stream. Begins stream (raws_of pieces)) × (new ≡ appended old (replies_of pieces))
HasEnded left old new pieces end.WriteFault =
    ((front : List Piece) × (p : Piece) × (pieces ≡ front ++ p ∷ []) × IfSome left (λ stream. Begins stream (raws_of pieces)) × IsCutIn old new (replies_of front) p.reply)
    ⊎ ((why : Stop) × (reply : List ℕ) × IsStopped left (raws_of pieces) why reply × IsCutIn old new (replies_of pieces) reply)
HasEnded left old new pieces e = (why : Stop) × (end_of why ≡ e) × ((reply : List ℕ) × IsStopped left (raws_of pieces) why reply × (new ≡ appended old (replies_of pieces ++ reply)))

-- the pieces of a link that ended so, with the number of the admin's last fault before and after them; where requests are reviewed, it
-- started what was given out to it; and it is shut down only where a client may ask so
pub record IsServed (o : Offers) (left old new : Option (List ℕ)) (rules : Rules) (seen : List Event) (before now : ℕ) (e : LinkEnd) (noted : List BoardEntry) (made : List Entry) (copies : List ChunkCopy) : Type 0 where
  pub pieces : List Piece
  pub are : ArePieces o rules seen pieces noted made copies
  pub blamed : AreBlamed before now pieces
  pub ended : HasEnded left old new pieces e
  pub given : o.reviews ≡ true → StartsAsGiven pieces noted made
  pub shut : e ≡ end.ShutDown → o.site.shutdown ≡ true

-- the requests of a link were answered, each by its own entries, up to its end
abbrev pub HasServed : SiteView → Known → Known → Option BoardKnown → Option BoardKnown → Copies → Copies → Option (List ℕ) → Option (List ℕ) → Option (List ℕ) → LinkEnd → Type 0
HasServed site v w x y k l left old new e = HasMadeBoth (IsServed (offers site x) left old new v.rules w.seen v.blamed w.blamed e) v w x y k l

-- a reply was written, whole or, before an error, a prefix of it
abbrev pub IsWritten : {E : Type 0} → Option (List ℕ) → Option (List ℕ) → Result (Unit {0}) E → List ℕ → Type 0
IsWritten old new (Ok done) reply = new ≡ appended old reply
IsWritten old new (Err fault) reply = IsPrefixOut old new reply

-- one request was answered
pub record IsAnswered {E : Type 0} (o : Offers) (raw : RawRequest) (old new : Option (List ℕ)) (result : Result (Unit {0}) E) (rules : Rules) (seen : List Event) (before now : ℕ) (noted : List BoardEntry) (made : List Entry) (copies : List ChunkCopy) : Type 0 where
  pub told_is : Told
  pub reply : List ℕ
  pub blamed : IsBlamed (fault_told told_is) before now
  pub called : IsHeard o rules seen raw told_is made copies noted
  pub reply_is : IsReply (asks_head raw) told_is reply
  pub written : IsWritten old new result reply

abbrev pub HasAnswered : {E : Type 0} → SiteView → Known → Known → Option BoardKnown → Option BoardKnown → Copies → Copies → RawRequest → Option (List ℕ) → Option (List ℕ) → Result (Unit {0}) E → Type 0
HasAnswered site v w x y k l raw old new result = HasMadeBoth (IsAnswered (offers site x) raw old new result v.rules w.seen v.blamed w.blamed) v w x y k l

-- a reply to what is told was written
abbrev pub IsReplied : {E : Type 0} → Bool → Told → Option (List ℕ) → Option (List ℕ) → Result (Unit {0}) E → Type 0
IsReplied alone t old new result = (reply : List ℕ) × IsReply alone t reply × IsWritten old new result reply

-- the reason why there is no further request was told, if it has a reply; or the write failed
abbrev pub IsRefused : Option (List ℕ) → Option (List ℕ) → Stop → LinkEnd → Type 0
IsRefused old new why e =
    ((e ≡ end.WriteFault) × ((reply : List ℕ) × IsLast why reply × IsPrefixOut old new reply))
    ⊎ ((e ≡ end_of why) × ((reply : List ℕ) × IsLast why reply × (new ≡ appended old reply)))
