-- How many links are asked for, and what they, the movers and the planners need.
use Rattle.std.specs.Prelude.{◌≡◌, ◌≤◌, ◌<◌, ◌+◌, ℕ, Bool, true, List, [], length, Option, Some, None, option_map, string_bytes}
use Rattle.rest_session.specs.Heard.{SiteView}
use Rattle.live_service.specs.Views.{ServiceView, TeamView}
use Rattle.live_service.specs.declared.links.Serving.{Serving}
use Rattle.live_service.specs.declared.live.Crew.{Crew}

-- links that are asked for, accepted at this address: so many; or any number, so many at once, until a client asks the service to shut down.
-- There is a page, or not
pub record ServingAsked : Type 0 where
  pub address : List ℕ
  pub links : ℕ
  pub forever : Bool
  pub page : Bool

abbrev pub asked_of : Serving → ServingAsked
asked_of s = record { address = string_bytes s.address; links = s.links; forever = s.forever; page = s.page }

-- a client may ask the service to shut down, and its page, or not
abbrev pub offering : Bool → SiteView
offering page = record { page = page; shutdown = true }

-- or none, for the console
abbrev pub serving_view : Option Serving → Option ServingAsked
serving_view serving = option_map asked_of serving

-- who works over a book: so many movers and planners, and the links that are served. Without links the requests are those of the console.
-- They may be reviewed
pub record CrewAsked : Type 0 where
  pub movers : ℕ
  pub planners : ℕ
  pub serving : Option ServingAsked
  pub reviews : Bool

-- the same as a value of the program
abbrev pub crew_view : Crew → CrewAsked
crew_view crew = record { movers = crew.movers; planners = crew.planners; serving = serving_view crew.serving; reviews = crew.reviews }

-- as many copiers and places are needed
abbrev pub links_of : Option Serving → ℕ
links_of None = 0
links_of (Some s) = s.links

-- a copier, a part of the book's turn and of the board's, and a place for each of so many links, beside those of others
pub record HasSpace (s : ServiceView) (had on_board others links : ℕ) : Type 0 where
  pub copiers : others + links ≤ length s.copiers
  pub room : length s.copiers ≤ s.room
  pub parts : others + links < had
  pub board_parts : links < on_board
  pub none : s.served ≡ []
  pub places : links ≤ s.places
  pub no_lane : s.lanes ≡ []
  pub lane_room : links ≤ s.lane_room

-- the same for so many links, movers and planners, and a place for each loop's end
pub record IsReady (t : TeamView) (had on_board movers planners links : ℕ) : Type 0 where
  pub copiers : movers + links ≤ length t.front.service.copiers
  pub room : length t.front.service.copiers ≤ t.front.service.room
  pub parts : planners + (movers + links) < had
  pub board_parts : links < on_board
  pub none : t.front.service.served ≡ []
  pub places : links ≤ t.front.service.places
  pub no_lane : t.front.service.lanes ≡ []
  pub lane_room : links ≤ t.front.service.lane_room
  pub no_mover : t.movers ≡ []
  pub mover_room : movers ≤ t.mover_room
  pub no_planner : t.planners ≡ []
  pub planner_room : planners ≤ t.planner_room

-- all copiers are back, and there is no less room
pub record IsWhole (s t : ServiceView) : Type 0 where
  pub copiers : length t.copiers ≡ length s.copiers
  pub room : s.room ≤ t.room
  pub places : s.places ≤ t.places
  pub lane_room : s.lane_room ≤ t.lane_room
