-- The requests of one link, as its thread answered them.
use Rattle.std.specs.Prelude.{◌≡◌, ◌≤◌, ℕ, Bool, true, false, List, [], ◌∷◌, Option}
use Rattle.cc_base.specs.Outside.{HasRisen}
use Rattle.cluster_json.specs.File.{Meaning}
use Rattle.mover_rounds.specs.Asked.{Known}
use Rattle.mover_rounds.specs.Made.{Copies}
use Rattle.mover_workers.specs.Callers.{HasGrown, known_by_pass}
use Rattle.net_links.specs.Links.{AcceptedLink, IsFresh, with_link}
use Rattle.rest_session.specs.Answered.{HasServed}
use Rattle.rest_session.specs.Heard.{SiteView}
use Rattle.rest_session.specs.declared.session.LinkEnd.{LinkEnd}
use Rattle.rest_session.specs.declared.session.LinkEnd.TheVariants as link
use Rattle.review_board.specs.Asked.{BoardKnown}
use Rattle.turn_book.specs.Rule.{ArePlaced}
use Rattle.live_service.specs.Boards.{BoardPass, board_seen}
use Rattle.live_service.specs.Views.{LinkView, ServedView}
use Rattle.live_service.specs.Workers.{Pass}

-- the counts of a link's failed reads and writes don't fall, and an end by a fault has its cause
pub record HasLinkCause (before after : LinkView) (end : LinkEnd) : Type 0 where
  pub source : before.reads ≤ after.reads
  pub sink : before.writes ≤ after.writes
  pub read_fault : end ≡ link.ReadFault → HasRisen before.reads after.reads
  pub write_fault : end ≡ link.WriteFault → HasRisen before.writes after.writes

-- the requests of a link were answered, and how it ended has its cause
pub record HasServedLink (site : SiteView) (v w : Known) (x y : Option BoardKnown) (k l : Copies) (before after : LinkView) (end : LinkEnd) : Type 0 where
  pub answered : HasServed site v w x y k l before.left before.written after.written end
  pub cause : HasLinkCause before after end

-- a link: the passes that it was given and those that it gave back, of the book and of the board, its copier's copies before and after, the
-- link as it was accepted and as it came back, and how it ended
pub record LinkRun : Type 0 where
  pub given : Pass
  pub back : Pass
  pub board_given : BoardPass
  pub board_back : BoardPass
  pub old : Copies
  pub new : Copies
  pub before : LinkView
  pub after : LinkView
  pub end : LinkEnd

-- its entries answered its requests, and so on the board; its service had a page, and a client could ask it to shut
-- down, or not. Nothing was written to it
-- before
pub record IsRun (file : Meaning) (site : SiteView) (reviews : Bool) (r : LinkRun) : Type 0 where
  pub unwritten : IsFresh r.before.written
  pub answered : HasServed site (known_by_pass file r.given) (known_by_pass file r.back) (board_seen reviews r.board_given) (board_seen reviews r.board_back) r.old r.new r.before.left r.before.written r.after.written r.end
  pub cause : HasLinkCause r.before r.after r.end

-- it began without an entry, and its entries stand at their places, which rise; and so on the board
pub record IsLinkRun (file : Meaning) (site : SiteView) (reviews : Bool) (r : LinkRun) : Type 0 where
  pub fresh : r.given.mine ≡ []
  pub grown : HasGrown r.given r.back
  pub placed : ArePlaced r.back.seen r.back.mine
  pub board_fresh : r.board_given.mine ≡ []
  pub board_grown : HasGrown r.board_given r.board_back
  pub board_placed : ArePlaced r.board_back.seen r.board_back.mine
  pub run : IsRun file site reviews r

-- the link as the listener told it, and as it came back
abbrev pub accepted_of : LinkRun → AcceptedLink
accepted_of r = record { source_faults = r.before.reads; sink_faults = r.before.writes; left = r.before.left }

abbrev pub served_in : LinkRun → ServedView
served_in r = record { link = r.after; end = r.end }

-- what a listener tells, with these links at its end
abbrev pub with_links : Option (List AcceptedLink) → List AcceptedLink → Option (List AcceptedLink)
with_links told [] = told
with_links told (x ∷ xs) = with_links (with_link told x) xs

-- so many calls that accept fail one after another before no further link is awaited
abbrev pub tries : ℕ
tries = 16

-- out of memory ended a link
abbrev pub out_of_memory : LinkEnd → Bool
out_of_memory link.Memory = true
out_of_memory _ = false
