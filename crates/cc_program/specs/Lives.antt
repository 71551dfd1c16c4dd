-- What `session` does beside movers and planners, and what `serve` does: requests of the console, or of links, are answered over a book that
-- all share.
use Rattle.std.specs.Prelude.{◌≡◌, ◌≤◌, ◌<◌, ◌⊎◌, ◌+◌, ◌||◌, ℕ, Bool, true, false, List, [], length, map, Option, Some, None, IfSome, option_and_then, option_map, string_bytes}
use Rattle.std.specs.List.{insert, list_any}
use Rattle.cc_base.specs.Outside.{HasRisen, with_name}
use Rattle.cluster_json.specs.Faults.{Fault}
use Rattle.cluster_json.specs.File.{Meaning}
use Rattle.command_words.specs.Meaning as words
use Rattle.control_core.specs.Books.{BookView, opened, state_of}
use Rattle.core_laws.specs.Alone.{IsDone}
use Rattle.core_laws.specs.Events.{AreListsShown}
use Rattle.core_terms.specs.History.{AreLegal}
use Rattle.core_terms.specs.Sound.{IsSound}
use Rattle.exec_terms.specs.Machine.{lists_now}
use Rattle.live_service.specs.Asked.{CrewAsked, ServingAsked, crew_view}
use Rattle.live_service.specs.Live.{IsLive}
use Rattle.live_service.specs.Links.{out_of_memory}
use Rattle.live_service.specs.Views.{LaneView, ServedView, TeamView}
use Rattle.live_service.specs.declared.front.FrontEnd.{FrontEnd}
use Rattle.live_service.specs.declared.front.FrontEnd.TheVariants as front
use Rattle.mover_workers.specs.declared.loops.LoopEnd.{LoopEnd}
use Rattle.mover_workers.specs.declared.loops.LoopEnd.TheVariants as loop
use Rattle.mover_rounds.specs.declared.drains.DrainEnd.{DrainEnd}
use Rattle.mover_rounds.specs.declared.drains.DrainEnd.TheVariants as drain
use Rattle.plan_terms.specs.Cluster.{Lists}
use Rattle.review_board.specs.declared.events.BoardEvent.{BoardEvent}
use Rattle.quiet_commands.specs.Ends.{refusal_line}
use Rattle.quiet_commands.specs.Input.{IsRefused, Means}
use Rattle.quiet_commands.specs.Sessions.{drained_end, ended_by}
use Rattle.quiet_commands.specs.declared.ends.End.{End}
use Rattle.cc_program.specs.Outside.{LeftView, OutsideView}
use Rattle.cc_program.specs.declared.lives.LiveRequest.{LiveRequest}
use Rattle.quiet_commands.specs.declared.ends.End.TheVariants.{FileFault, ListenerFault, Memory, NotDrained, Refused, Usage}

-- a run over the cluster of a file
pub record LiveAsked : Type 0 where
  pub file : List ℕ
  pub crew : CrewAsked

abbrev pub crew_with : words.WorkersAsked → Option ServingAsked → Bool → CrewAsked
crew_with workers serving reviews = record { movers = workers.movers; planners = workers.planners; serving = serving; reviews = reviews }

abbrev pub live_of : words.Asked → Option LiveAsked
live_of (words.session o) = Some (record { file = o.file; crew = crew_with o.workers None o.review })
live_of (words.serve o) = Some (record { file = o.file; crew = crew_with o.workers (Some (record { address = o.listen; links = o.links; forever = o.forever; page = o.page })) o.review })
live_of _ = None

-- what the words ask of a run with threads
abbrev pub live_command : List (List ℕ) → Option LiveAsked
live_command given = option_and_then live_of (words.meaning given)

-- the same as a value of the program
abbrev pub live_view : LiveRequest → LiveAsked
live_view request = record { file = string_bytes request.file; crew = crew_view request.crew }

-- the copiers before that of the console and of the drain: those of the movers, and then those of the links
abbrev pub links_in : Option ServingAsked → ℕ
links_in None = 0
links_in (Some s) = s.links

abbrev pub copiers_before : CrewAsked → ℕ
copiers_before crew = crew.movers + links_in crew.serving

-- what is told of an admin: how many of its calls have failed, and its lists
pub record Gate (A : Type 0) : Type 0 where
  pub faults : A → ℕ
  pub told : A → Option Lists

abbrev pub gate : {A : Type 0} → (A → ℕ) → (A → Option Lists) → Gate A
gate faults told = record { faults = faults; told = told }

-- there was no memory to go on with a link, or with one of those of a thread
abbrev pub is_want : ServedView → Bool
is_want s = out_of_memory s.end

abbrev pub is_lane_want : LaneView → Bool
is_lane_want lane = lane.wants

-- nor with a loop
abbrev pub is_loop_want : LoopEnd → Bool
is_loop_want loop.Memory = true
is_loop_want _ = false

-- there was none for a link, a mover or a planner
abbrev pub any_want : {A : Type 0} → LeftView A → Bool
any_want l = (list_any is_want l.links || list_any is_lane_want l.lanes) || (list_any is_loop_want l.movers || list_any is_loop_want l.planners)

-- how a drain ended, or what stands before it: want of memory
abbrev pub or_want : Bool → DrainEnd → DrainEnd
or_want true d = drain.Memory
or_want false d = d

-- how a run ends: as the console's requests did; or by the listener's fault, by want of memory of a link or a loop, or as the drain did
abbrev pub ended_live : FrontEnd → Bool → DrainEnd → End
ended_live (front.Console e) want d = ended_by e (or_want want d)
ended_live front.Accepted want d = drained_end (or_want want d)
ended_live front.ShutDown want d = drained_end (or_want want d)
ended_live front.ListenerFault want d = ListenerFault

-- a team of this outside: the copier of the console and of the drain stands behind those of the movers and of the links
pub record IsTeamOf (crew : CrewAsked) (o : OutsideView) (t : TeamView) : Type 0 where
  pub copiers : o.copiers ≡ insert t.front.service.copiers (copiers_before crew) t.front.copier
  pub console : o.console ≡ t.front.console
  pub net : o.net ≡ t.front.service.net

-- what was left is what the team brought back
pub record IsLeftOf {A : Type 0} (crew : CrewAsked) (l : LeftView A) (t : TeamView) : Type 0 where
  pub team : IsTeamOf crew l.outside t
  pub links : l.links ≡ t.front.service.served
  pub lanes : l.lanes ≡ t.front.service.lanes
  pub movers : l.movers ≡ t.movers
  pub planners : l.planners ≡ t.planners

-- the board's journal, where requests were reviewed
abbrev pub board_left : {A : Type 0} → Bool → A → Option A
board_left true board = Some board
board_left false board = None

-- a whole run over the cluster that a file means, with the movers, planners and links that were asked for, which so many failed calls of
-- the admin had come before: a legal history, whose state is
-- sound and shows each list as the old one, the new one or, in flight, both; and the admin's lists, where they are told, are those of it
pub record IsLiveOf {A : Type 0} (admin : Gate A) (before : ℕ) (m : Meaning) (crew : CrewAsked) (o : OutsideView) (l : LeftView A) (c : BookView A) (e : FrontEnd) (d : DrainEnd) : Type 0 where
  pub b : BookView A
  pub opening : b ≡ opened m b.admin
  pub begun : admin.faults b.admin ≡ before
  pub given : TeamView
  pub given_is : IsTeamOf crew o given
  pub back : TeamView
  pub back_is : IsLeftOf crew l back
  pub board : List BoardEvent
  pub board_is : l.board ≡ board_left crew.reviews board
  pub live : IsLive admin.faults crew board b c given back e d
  pub legal : AreLegal c.journal
  pub lists : IfSome (admin.told c.admin) (λ lists. lists ≡ lists_now (state_of c).desk.exec)
  pub sound : IsSound m (state_of c).desk
  pub shown : AreListsShown (state_of c).desk.exec
  pub drained : d ≡ drain.Drained → IsDone (state_of c).desk
  pub late : (number : ℕ) → d ≡ drain.AdminFault number → (1 ≤ c.late) ⊎ (18446744073709551615 ≤ c.failures)

-- nothing was done outside: no link was accepted, no loop began, and there was no board and no drain
pub record IsIdle {A : Type 0} (o : OutsideView) (l : LeftView A) : Type 0 where
  pub outside : l.outside ≡ o
  pub links : l.links ≡ []
  pub lanes : l.lanes ≡ []
  pub movers : l.movers ≡ []
  pub planners : l.planners ≡ []
  pub board : l.board ≡ None
  pub drain : l.drain ≡ None

-- there was no memory to share the book, and nothing was done: it is as it was opened, and the admin's lists are those of the file
pub record IsUnshared {A : Type 0} (gate : Gate A) (before : ℕ) (m : Meaning) (o : OutsideView) (l : LeftView A) (c : BookView A) : Type 0 where
  pub opening : c ≡ opened m c.admin
  pub begun : gate.faults c.admin ≡ before
  pub lists : IfSome (gate.told c.admin) (λ lists. lists ≡ lists_now (state_of c).desk.exec)
  pub idle : IsIdle o l

-- what was left where a book was begun: that, out of memory; or a whole run, by which it ended
abbrev pub IsOver : {A : Type 0} → Gate A → ℕ → Meaning → CrewAsked → OutsideView → LeftView A → BookView A → End → Type 0
IsOver gate before m crew o l c end =
    ((end ≡ Memory) × IsUnshared gate before m o l c)
    ⊎ ((e : FrontEnd) × (d : DrainEnd) × (l.drain ≡ Some d) × (end ≡ ended_live e (any_want l) d) × IsLiveOf gate before m crew o l c e d)

-- why no book was begun, where the file was read: a call of the admin failed, or there was no memory. The admin comes back, with the lists
-- that it had
abbrev pub IsNotBegun : {A : Type 0} → Gate A → A → Option A → End → Type 0
IsNotBegun gate admin None end = ⊥
IsNotBegun gate admin (Some back) NotDrained = HasRisen (gate.faults admin) (gate.faults back) × (gate.told back ≡ gate.told admin)
IsNotBegun gate admin (Some back) Memory = gate.told back ≡ gate.told admin
IsNotBegun gate admin (Some back) _ = ⊥

-- what was left of a file that was read
abbrev pub IsLeftFrom : {A : Type 0} → Gate A → Meaning → CrewAsked → OutsideView → A → LeftView A → Option (BookView A) → End → Type 0
IsLeftFrom gate m crew o admin l None end = IsNotBegun gate admin l.admin end × IsIdle o l
IsLeftFrom gate m crew o admin l (Some c) end = IsOver gate (gate.faults admin) m crew o l c end

abbrev pub IsLeft : {A : Type 0} → Gate A → Meaning → CrewAsked → OutsideView → A → LeftView A → End → Type 0
IsLeft gate m crew o admin l end = IsLeftFrom gate m crew o admin l l.book end

-- ---- by the words

-- the contents of the files, and the counts of their faults and the names of those that were loaded, before and after
pub record Shelf : Type 0 where
  pub told : List ℕ → Option (List ℕ)
  pub before : ℕ
  pub now : ℕ
  pub log_before : Option (List (List ℕ))
  pub log_now : Option (List (List ℕ))

abbrev pub shelf : {F : Type 0} → (F → List ℕ → Option (List ℕ)) → (F → ℕ) → (F → Option (List (List ℕ))) → F → F → Shelf
shelf contents faults log old new = record {
  told = contents old;
  before = faults old;
  now = faults new;
  log_before = log old;
  log_now = log new;
}

-- just the file that is asked for was loaded
abbrev pub IsLoaded : Shelf → LiveAsked → Type 0
IsLoaded files asked = files.log_now ≡ with_name files.log_before asked.file

-- the words ask for it, and there is a copier for each mover and each link, and one more
pub record IsCalled (words : List (List ℕ)) (copiers : ℕ) : Type 0 where
  pub asked : LiveAsked
  pub means : live_command words ≡ Some asked
  pub enough : copiers_before asked.crew < copiers

-- just the file that is asked for was loaded, and P holds of what is asked and of what the file means
pub record IsLiveAnswer (words : List (List ℕ)) (copiers : ℕ) (files : Shelf) (P : LiveAsked → Meaning → Type 0) : Type 0 where
  pub call : IsCalled words copiers
  pub loaded : IsLoaded files call.asked
  pub file : Meaning
  pub meant : IfSome (files.told call.asked.file) (λ bytes. Means bytes file)
  pub answered : P call.asked file

-- just the file that is asked for was loaded; it is refused, and the line tells its first fault
pub record IsLiveRefusal (words : List (List ℕ)) (copiers : ℕ) (files : Shelf) (line : List ℕ) : Type 0 where
  pub call : IsCalled words copiers
  pub loaded : IsLoaded files call.asked
  pub fault : Fault
  pub refused : IfSome (files.told call.asked.file) (λ bytes. IsRefused bytes fault)
  pub line_is : line ≡ refusal_line fault

-- the words ask for more copiers than there are beside that of the console
pub record IsTooMany (words : List (List ℕ)) (copiers : ℕ) : Type 0 where
  pub asked : LiveAsked
  pub means : live_command words ≡ Some asked
  pub few : copiers ≤ copiers_before asked.crew

-- the words are no such command, or ask for too many copiers
abbrev pub IsUnasked : List (List ℕ) → ℕ → Type 0
IsUnasked words copiers = (live_command words ≡ None) ⊎ IsTooMany words copiers

-- just that file was loaded, or none
abbrev pub IsLoadedOnce : Shelf → LiveAsked → Type 0
IsLoadedOnce files asked = (files.log_now ≡ files.log_before) ⊎ IsLoaded files asked

-- what was loaded where memory ran out before a file was read
abbrev pub IsForgone : List (List ℕ) → ℕ → Shelf → Type 0
IsForgone words copiers files = (files.log_now ≡ files.log_before) ⊎ ((call : IsCalled words copiers) × IsLoaded files call.asked)

-- why no file was read, by how the run ended
abbrev pub IsUnread : List (List ℕ) → ℕ → Shelf → End → Type 0
IsUnread words copiers files Usage = IsUnasked words copiers × (files.log_now ≡ files.log_before)
IsUnread words copiers files (Refused line) = IsLiveRefusal words copiers files line.items
IsUnread words copiers files FileFault = ((call : IsCalled words copiers) × IsLoadedOnce files call.asked) × HasRisen files.before files.now
IsUnread words copiers files Memory = IsForgone words copiers files
IsUnread words copiers files _ = ⊥

-- what a run left: no file was read, and the admin comes back; or what is left of the file that the words ask for
abbrev pub Leaves : {A : Type 0} → Gate A → List (List ℕ) → Shelf → OutsideView → A → LeftView A → End → Type 0
Leaves gate words files o admin l end =
    (IsUnread words (length o.copiers) files end × (l.book ≡ None) × (l.admin ≡ Some admin) × IsIdle o l)
    ⊎ IsLiveAnswer words (length o.copiers) files (λ asked m. IsLeft gate m asked.crew o admin l end)

-- a run: what it was given, what it left, and how it ended
pub record LiveRun {A : Type 0} (gate : Gate A) : Type 0 where
  pub words : List (List ℕ)
  pub files : Shelf
  pub outside : OutsideView
  pub admin : A
  pub left : LeftView A
  pub end : End
  pub leaves : Leaves gate words files outside admin left end
