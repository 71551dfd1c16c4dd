-- What answers requests while the workers run: the requests of a console or of links, and the Close behind them.
use Rattle.std.specs.Prelude.{◌≡◌, ◌≤◌, ◌⊎◌, ℕ, Bool, true, false, List, [], ◌++◌, length, map, OnErr, OnOk, Option, Result, Some, None}
use Rattle.std.specs.List.{AllByRecursion}
use Rattle.cc_base.specs.Outside.{HasRisen, with_name}
use Rattle.cc_base.specs.declared.outside.Failed.{Failed}
use Rattle.cluster_json.specs.File.{Meaning}
use Rattle.mover_rounds.specs.Made.{Copies, HasRisenBy}
use Rattle.mover_workers.specs.Close.{HasClosed}
use Rattle.mover_workers.specs.Callers.{CallerView, HasGrown, known_by_pass}
use Rattle.net_links.specs.Links.{AcceptedLink}
use Rattle.rest_session.specs.Answered.{HasServed}
use Rattle.rest_session.specs.Heard.{SiteView, paged}
use Rattle.rest_session.specs.declared.session.LinkEnd.{LinkEnd}
use Rattle.turn_book.specs.Rule.{ArePlaced}
use Rattle.live_service.specs.Links.{HasLinkCause, IsLinkRun, LinkRun, accepted_of, served_in, tries, with_links}
use Rattle.live_service.specs.Boards.{BoardPass, BoardCallerView, HasBoardGoneOn, board_seen}
use Rattle.live_service.specs.Views.{FrontTold, NetView, ServedView, ServiceView}
use Rattle.live_service.specs.Asked.{IsWhole, ServingAsked, offering}
use Rattle.live_service.specs.Lanes.{HasServedOn, IsNetEnd}
use Rattle.live_service.specs.Workers.{HasGoneOn, HasShares, Pass}
use Rattle.live_service.specs.declared.front.FrontEnd.{FrontEnd}
use Rattle.live_service.specs.declared.front.FrontEnd.TheVariants as front

-- links were accepted one after another, each was answered with its copier in their order, and came back; the other copiers made nothing
pub record HasServedLinks (file : Meaning) (site : SiteView) (reviews : Bool) (told now : Option (List AcceptedLink)) (old new : List Copies) (links : List ServedView) (v w : Pass) (x y : BoardPass) : Type 0 where
  pub runs : List LinkRun
  pub others : List Copies
  pub are : AllByRecursion (IsLinkRun file site reviews) runs
  pub accepted : now ≡ with_links told (map accepted_of runs)
  pub old_are : old ≡ map (λ r. r.old) runs ++ others
  pub new_are : new ≡ map (λ r. r.new) runs ++ others
  pub links_are : links ≡ map served_in runs
  pub shares : HasShares v w (map (λ r. r.back) runs)
  pub board_shares : HasShares x y (map (λ r. r.board_back) runs)

-- ---- the listener

-- the listener couldn't listen at the address, and no link was accepted; or it did, and so many calls failed
abbrev pub IsUnheard : List ℕ → NetView → NetView → List ServedView → Type 0
IsUnheard address before now links =
    ((now.heard ≡ before.heard) × HasRisen before.faults now.faults × (links ≡ []))
    ⊎ ((now.heard ≡ with_name before.heard address) × HasRisenBy tries before.faults now.faults)

-- ---- either of both

-- the requests of the console were answered, by entries whose places rise, and so on the board. The listener was left alone
pub record HasServedConsole (file : Meaning) (d e : BoardCallerView) (f g : FrontTold) (end : LinkEnd) (v w : Pass) : Type 0 where
  pub grown : HasGrown v w
  pub board_grown : HasGrown d.pass e.pass
  pub answered : HasServed (paged false) (known_by_pass file v) (known_by_pass file w) (board_seen d.reviews d.pass) (board_seen d.reviews e.pass) f.copier g.copier f.console.left f.console.written g.console.written end
  pub cause : HasLinkCause f.console g.console end
  pub net : g.net ≡ f.net
  pub no_lane : g.lanes ≡ f.lanes

-- the requests of links were answered. The console was left alone
pub record HasServedNet (file : Meaning) (site : SiteView) (d e : BoardCallerView) (f g : FrontTold) (old new : List Copies) (v w : Pass) : Type 0 where
  pub served : HasServedLinks file site d.reviews f.net.accepted g.net.accepted old new g.served v w d.pass e.pass
  pub faults : f.net.faults ≤ g.net.faults
  pub copier : g.copier ≡ f.copier
  pub console : g.console ≡ f.console
  pub no_lane : g.lanes ≡ f.lanes

-- as many links as were asked for were accepted at the address
pub record HasServedAll (asked : ServingAsked) (f g : FrontTold) : Type 0 where
  pub count : length g.served ≡ asked.links
  pub heard : g.net.heard ≡ with_name f.net.heard asked.address

-- no further link was accepted: the listener couldn't listen at the address, and then none was; or each of so many calls that accept failed
pub record HasServedSome (asked : ServingAsked) (f g : FrontTold) : Type 0 where
  pub most : length g.served ≤ asked.links
  pub why : IsUnheard asked.address f.net g.net g.served

-- so many links, or any number
abbrev pub HasAnsweredNet : Bool → Meaning → ServingAsked → BoardCallerView → BoardCallerView → FrontTold → FrontTold → FrontEnd → List Copies → List Copies → Pass → Pass → Type 0
HasAnsweredNet false file asked d e f g front.Accepted old new v w = HasServedNet file (paged asked.page) d e f g old new v w × HasServedAll asked f g
HasAnsweredNet false file asked d e f g front.ListenerFault old new v w = HasServedNet file (paged asked.page) d e f g old new v w × HasServedSome asked f g
HasAnsweredNet true file asked d e f g end old new v w = HasServedOn file (offering asked.page) d e f g old new v w × IsNetEnd asked f.net g.net g.lanes end
HasAnsweredNet false file asked d e f g _ old new v w = ⊥

-- what was asked was answered, the console's requests or those of links, unless the listener failed
abbrev pub HasAnswered : Meaning → Option ServingAsked → BoardCallerView → BoardCallerView → FrontTold → FrontTold → FrontEnd → List Copies → List Copies → Pass → Pass → Type 0
HasAnswered file None d e f g (front.Console end) old new v w = HasServedConsole file d e f g end v w × (g.served ≡ []) × (new ≡ old)
HasAnswered file None d e f g _ old new v w = ⊥
HasAnswered file (Some asked) d e f g end old new v w = HasAnsweredNet asked.forever file asked d e f g end old new v w

-- ---- and Close behind it

-- what was asked was answered, and then the one Close of the journal was asked
pub record IsFront (Answered : Pass → Pass → Type 0) (v w : Pass) : Type 0 where
  pub served : Pass
  pub placed : ArePlaced served.seen served.mine
  pub answered : Answered v served
  pub closed : HasClosed served w

-- ---- as the calls tell it

-- so many links were accepted and served, unless the listener failed, and all copiers are back
pub record HasAccepted {A : Type 0} (site : SiteView) (b c : CallerView A) (d e : BoardCallerView) (s t : ServiceView) (links : ℕ) (result : Result (Unit {0}) Failed) : Type 0 where
  pub gone : HasGoneOn b c
  pub board_gone : HasBoardGoneOn d e
  pub served : HasServedLinks b.turn.start.file site d.reviews s.net.accepted t.net.accepted s.copiers t.copiers t.served b.pass c.pass d.pass e.pass
  pub faults : s.net.faults ≤ t.net.faults
  pub whole : OnOk result (length t.served ≡ links)
  pub most : length t.served ≤ links
  pub back : IsWhole s t
  pub no_lane : t.lanes ≡ s.lanes

-- nothing else was listened at, and where no further link came so many calls failed
pub record HasTried (s t : ServiceView) (result : Result (Unit {0}) Failed) : Type 0 where
  pub heard : t.net.heard ≡ s.net.heard
  pub given_up : OnErr result (HasRisenBy tries s.net.faults t.net.faults)
