-- What a request has where a client may also ask something of the service itself.
use Rattle.std.specs.Prelude.{◌≡◌, ◌⊎◌, Bool, false, if◌then◌else◌, List, [], Option, Some, None, is_some, Result, Ok, Err}
use Rattle.cluster_gate.specs.declared.copier.ChunkCopy.{ChunkCopy}
use Rattle.core_terms.specs.declared.events.Event.{Event}
use Rattle.mover_rounds.specs.Asked.{Entry, Known, Rules}
use Rattle.mover_rounds.specs.Made.{Copies}
use Rattle.rest_parse.specs.Sites.{site_call, site_meaning}
use Rattle.rest_parse.specs.declared.calls.HttpFault.{HttpFault}
use Rattle.rest_parse.specs.declared.calls.HttpFault.TheVariants as http
use Rattle.rest_parse.specs.declared.sites.SiteCall.{SiteCall}
use Rattle.rest_parse.specs.declared.sites.SiteCall.TheVariants as call
use Rattle.rest_stream.specs.declared.raw.RawRequest.{RawRequest}
use Rattle.rest_replies.specs.declared.told.Told.{Told}
use Rattle.rest_replies.specs.declared.told.Told.TheVariants as told
use Rattle.review_board.specs.Asked.{BoardEntry, BoardKnown}
use Rattle.rest_session.specs.Calls.{IsNothing}
use Rattle.rest_session.specs.Reviewed.{HasMadeBoth, IsCalledBy}

-- what a service offers of itself: a page, and that a client may ask it to shut down
pub record SiteView : Type 0 where
  pub page : Bool
  pub shutdown : Bool

-- at most a page
abbrev pub paged : Bool → SiteView
paged page = record { page = page; shutdown = false }

abbrev pub is_offered : SiteView → SiteCall → Bool
is_offered site call.Page = site.page
is_offered site call.Close = site.shutdown

-- what a link offers: that requests are reviewed, and its service's site
pub record Offers : Type 0 where
  pub reviews : Bool
  pub site : SiteView

abbrev pub offers : SiteView → Option BoardKnown → Offers
offers site board = record { reviews = is_some board; site = site }

-- what a request asks of the service itself, where that is offered
abbrev pub if_offered : SiteView → Option SiteCall → Option SiteCall
if_offered site None = None
if_offered site (Some c) = if is_offered site c then Some c else None

abbrev pub site_asked : SiteView → RawRequest → Option SiteCall
site_asked site raw = if_offered site (site_call raw)

-- what it is told then
abbrev pub site_told : SiteCall → Told
site_told call.Page = told.Page
site_told call.Close = told.Ending

-- or why it was not asked, or that there was no memory to see
abbrev pub IsSiteTold : SiteCall → Result (Unit {0}) HttpFault → Told → Type 0
IsSiteTold c (Ok done) t = (t ≡ site_told c) ⊎ (t ≡ told.Http http.Memory)
IsSiteTold c (Err f) t = (t ≡ told.Http f) ⊎ (t ≡ told.Http http.Memory)

-- nothing is asked of the core or of the board then; and any other request is called
abbrev pub IsHeardIf : Option SiteCall → Bool → Rules → List Event → RawRequest → Told → List Entry → List ChunkCopy → List BoardEntry → Type 0
IsHeardIf (Some c) reviews rules seen raw t made copies noted = IsSiteTold c (site_meaning c raw) t × IsNothing made copies × (noted ≡ [])
IsHeardIf None reviews rules seen raw t made copies noted = IsCalledBy reviews rules seen raw t made copies noted

abbrev pub IsHeard : Offers → Rules → List Event → RawRequest → Told → List Entry → List ChunkCopy → List BoardEntry → Type 0
IsHeard o rules seen raw t made copies noted = IsHeardIf (site_asked o.site raw) o.reviews rules seen raw t made copies noted

-- what a request has made
abbrev pub HasHeard : SiteView → Known → Known → Option BoardKnown → Option BoardKnown → Copies → Copies → RawRequest → Told → Type 0
HasHeard site v w x y k l raw t = HasMadeBoth (λ noted made copies. IsHeard (offers site x) v.rules w.seen raw t made copies noted) v w x y k l
