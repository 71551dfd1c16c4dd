-- The requests of a link, their own entries and their replies.
use Rattle.std.specs.Prelude.{◌≡◌, ◌⊎◌, ◌+◌, ℕ, Bool, true, false, List, [], ◌∷◌, ◌++◌, bytes_eq, codes, map, take}
use Rattle.memchr.specs.Find.{matches}
use Rattle.std.specs.List.{AllByRecursion}
use Rattle.cluster_gate.specs.declared.copier.ChunkCopy.{ChunkCopy}
use Rattle.core_terms.specs.declared.events.Event.{Event}
use Rattle.core_terms.specs.declared.faults.StepFault.TheVariants as step
use Rattle.mover_rounds.specs.Asked.{Entry, Rules}
use Rattle.rest_stream.specs.declared.raw.RawRequest.{RawRequest}
use Rattle.rest_replies.specs.Answers.{reply_of}
use Rattle.rest_replies.specs.declared.told.Told.{Told}
use Rattle.rest_replies.specs.declared.told.Told.TheVariants as told
use Rattle.review_board.specs.Asked.{BoardEntry}
use Rattle.rest_session.specs.Heard.{IsHeard, Offers}

-- the reply that tells want of memory
abbrev pub memory_reply : List ℕ
memory_reply = reply_of (told.Step step.Memory)

-- the empty line that ends a head
abbrev pub empty_line : List ℕ
empty_line = 13 ∷ 10 ∷ 13 ∷ 10 ∷ []

-- the head of a reply: its bytes up to and with the first empty line
abbrev up_to : List ℕ → List ℕ → List ℕ
up_to reply [] = reply
up_to reply (n ∷ ns) = take (n + 4) reply

abbrev pub head_in : List ℕ → List ℕ
head_in reply = up_to reply (matches reply empty_line 0)

-- a request asks for the head of its reply alone
abbrev pub asks_head : RawRequest → Bool
asks_head raw = bytes_eq raw.method (codes "HEAD")

-- what is sent of a reply: its head alone, or all of it
abbrev pub sent : Bool → List ℕ → List ℕ
sent true reply = head_in reply
sent false reply = reply

-- what is sent of the reply to what is told; in its place the one that tells want of memory may stand
abbrev pub IsReply : Bool → Told → List ℕ → Type 0
IsReply alone t reply = (reply ≡ sent alone (reply_of t)) ⊎ (reply ≡ sent alone memory_reply)

-- a request with its own entries, the copies made in it, its own entries on the board, what it is told, and the bytes of its reply
pub record Piece : Type 0 where
  pub raw : RawRequest
  pub told_is : Told
  pub made : List Entry
  pub copies : List ChunkCopy
  pub noted : List BoardEntry
  pub reply : List ℕ

abbrev pub IsPiece : Offers → Rules → List Event → Piece → Type 0
IsPiece o rules seen p = IsHeard o rules seen p.raw p.told_is p.made p.copies p.noted × IsReply (asks_head p.raw) p.told_is p.reply

-- what the pieces have, one after another
abbrev pub in_order : {A : Type 0} → (Piece → List A) → List Piece → List A
in_order f [] = []
in_order f (p ∷ ps) = f p ++ in_order f ps

-- the requests, as they came
abbrev pub raws_of : List Piece → List RawRequest
raws_of pieces = map (λ p. p.raw) pieces

-- the replies, one after another
abbrev pub replies_of : List Piece → List ℕ
replies_of pieces = in_order (λ p. p.reply) pieces

-- the own entries, copies and own entries on the board fall into consecutive pieces, one for each request
pub record ArePieces (o : Offers) (rules : Rules) (seen : List Event) (pieces : List Piece) (noted : List BoardEntry) (made : List Entry) (copies : List ChunkCopy) : Type 0 where
  pub are : AllByRecursion (IsPiece o rules seen) pieces
  pub noted_is : noted ≡ in_order (λ p. p.noted) pieces
  pub made_is : made ≡ in_order (λ p. p.made) pieces
  pub copies_are : copies ≡ in_order (λ p. p.copies) pieces
