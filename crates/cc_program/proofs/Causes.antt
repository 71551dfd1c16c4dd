-- Why a run with threads ended so.
use Rattle.std.proofs.Common.{◌≡◌, ◌⊎◌, ◌≤◌, ◌<◌, inl, inr, ℕ, Bool, true, false, List, [], ◌∷◌, length, map, refl, ap, sym, ◌∙◌, subst, arith}
use Rattle.std.specs.Prelude.{Option, Some, None, IfSome, Ok, Err}
use Rattle.std.specs.List.{AllByRecursion}
use Rattle.std.proofs.lemmas.Bool.{cases_Bool}
use Rattle.cc_base.specs.Outside.{HasRisen}
use Rattle.cluster_json.specs.Faults.{Fault}
use Rattle.cluster_json.specs.File.{Meaning}
use Rattle.control_core.specs.Books.{BookView}
use Rattle.live_service.specs.Asked.{ServingAsked, offering}
use Rattle.live_service.specs.Boards.{BoardCallerView}
use Rattle.live_service.specs.Fronts.{HasAnswered, HasAnsweredNet, IsUnheard}
use Rattle.live_service.specs.Lanes.{IsGivenUp, IsLaneRun, LaneRun, any_failed}
use Rattle.live_service.specs.Links.{tries}
use Rattle.live_service.specs.Views.{FrontTold, TeamView, told_of}
use Rattle.live_service.specs.Workers.{Pass}
use Rattle.live_service.specs.declared.front.FrontEnd.{FrontEnd}
use Rattle.live_service.specs.declared.front.FrontEnd.TheVariants as front
use Rattle.mover_rounds.specs.Made.{Copies, HasRisenBy}
use Rattle.mover_rounds.specs.Drained.{IsDrainCause}
use Rattle.mover_rounds.specs.Owned.{known_by_owner}
use Rattle.mover_rounds.specs.declared.drains.DrainEnd.{DrainEnd}
use Rattle.mover_rounds.specs.declared.drains.DrainEnd.TheVariants as drain
use Rattle.rest_session.specs.Answered.{end_of}
use Rattle.rest_session.specs.Heard.{SiteView}
use Rattle.rest_session.specs.declared.session.LinkEnd.{LinkEnd}
use Rattle.rest_session.specs.declared.session.LinkEnd.TheVariants as link
use Rattle.rest_stream.specs.Stream.{Requests, stopped}
use Rattle.rest_stream.specs.declared.raw.RawRequest.{RawRequest}
use Rattle.rest_stream.specs.declared.raw.Stop.{Stop}
use Rattle.cc_program.specs.Complete.{HasHandleFailed, HasLiveFailed, NetFailed, IsCauseBy, IsCutSession, IsLiveGiven, IsServed}
use Rattle.quiet_commands.specs.Input.{IsRefused, Means}
use Rattle.quiet_commands.specs.Ends.{IsTold, lines_of, status_of}
use Rattle.cc_program.specs.Lives.{Gate, IsLeftFrom, IsCalled, IsForgone, IsLiveOf, IsLoadedOnce, IsNotBegun, IsUnasked, IsUnread, Leaves, LiveAsked, Shelf, any_want, copiers_before, ended_live, live_command, or_want}
use Rattle.cc_program.specs.Outside.{LeftView, OutsideView}
use Rattle.quiet_commands.specs.Sessions.{drained_end}
use Rattle.quiet_commands.specs.declared.ends.End.{End}
use Rattle.quiet_commands.specs.declared.ends.End.TheVariants as end
use Rattle.quiet_commands.proofs.Streams.{if_told, never_cut}

-- the words ask one thing
same_asked : (words : List (List ℕ)) (a b : LiveAsked) → live_command words ≡ Some a → live_command words ≡ Some b → a ≡ b
same_asked words a b h k = (let i : Some a ≡ Some b = sym h ∙ k in cc)

-- memory ran out behind the words
pub forgone : (words : List (List ℕ)) (copiers : ℕ) (files : Shelf) (call : IsCalled words copiers) → IsLoadedOnce files call.asked → IsForgone words copiers files
forgone words copiers files call (inl h) = inl h
forgone words copiers files call (inr h) = inr (call, h)

-- there are copiers enough for what the words ask
called : (words : List (List ℕ)) (copiers : ℕ) → IsCalled words copiers → IsUnasked words copiers → ⊥
called words copiers call (inl none) = (let i : None ≡ Some call.asked = sym none ∙ call.means in cc)
called words copiers call (inr many) =
    let same : many.asked ≡ call.asked = same_asked words many.asked call.asked many.means call.means in
    absurd (omega (arith, call.enough, subst (λ (a : LiveAsked). copiers ≤ copiers_before a.crew) same many.few))

-- a thread that gave up has a handle whose calls failed
risen_from_none : (before now : ℕ) → before ≡ 0 → HasRisenBy tries before now → 1 ≤ now
risen_from_none before now none risen = omega (arith, none, risen)

handle_failed : (file : Meaning) (site : SiteView) (reviews : Bool) (rs : List LaneRun) → AllByRecursion (IsLaneRun file site reviews) rs → any_failed (map (λ r. r.lane) rs) ≡ true → HasHandleFailed (map (λ r. r.lane) rs)
handle_failed file site reviews [] h e = absurd cc
handle_failed file site reviews (r ∷ rs) h e = elim (cases_Bool r.lane.failed) [
  | inl yes_ ↦ inl (risen_from_none r.before.faults r.lane.net.faults h.0.unused.0 (h.0.served.failed yes_))
  | inr no_ ↦ inr (handle_failed file site reviews rs h.1 (rw no_ at e))
]

module _ {A : Type 0} (gate : Gate A) (words : List (List ℕ)) (files : Shelf) (o : OutsideView) (admin : A) (l : LeftView A) where
  abbrev Cause : Option (BookView A) → End → Type 0
  Cause book way = IsCauseBy gate words files o admin l book way

  -- no file was read
  unread : (book : Option (BookView A)) (way : End) → l.drain ≡ None → IsUnread words (length o.copiers) files way → Cause book way
  unread book end.Usage none h = h.0
  unread book (end.Refused line) none h = (h, none)
  unread book end.FileFault none h = (h.0.0, h.1)
  unread book end.Memory none h = tt
  unread book end.Done none h = absurd h
  unread book (end.GoalFailed line) none h = absurd h
  unread book end.ReadFault none h = absurd h
  unread book end.WriteFault none h = absurd h
  unread book end.NotDrained none h = absurd h
  unread book end.InputCut none h = absurd h
  unread book end.TraceRefused none h = absurd h
  unread book end.ListenerFault none h = absurd h

  -- what a front answered, by how it ended
  module _ (asked : LiveAsked) (means : live_command words ≡ Some asked) (file : Meaning) (x y : BoardCallerView) (f g : FrontTold) (k j : List Copies) (v w : Pass) where
    abbrev Answered : Option ServingAsked → FrontEnd → Type 0
    Answered s e = HasAnswered file s x y f g e k j v w

    no_console : (b : Bool) (s : ServingAsked) (e : LinkEnd) → HasAnsweredNet b file s x y f g (front.Console e) k j v w → ⊥
    no_console true s e h = h.1
    no_console false s e h = h

    stops : (raws : List RawRequest) (e : LinkEnd) → asked.crew.serving ≡ None → (e ≡ link.Cut) ⊎ (e ≡ link.Unframed) → (why : Stop) → end_of why ≡ e → IfSome f.console.left (λ s. Requests 0 s raws (stopped why)) → IsCutSession words f.console.left
    stops raws e is how why same told = record { asked = asked; means = means; of_console = is; raws = raws; why = why; cut = subst (λ (x : LinkEnd). (x ≡ link.Cut) ⊎ (x ≡ link.Unframed)) (sym same) how; stops = λ stream at. if_told f.console.left (λ s. Requests 0 s raws (stopped why)) stream at told }

    cut : (s : Option ServingAsked) → asked.crew.serving ≡ s → Answered s (front.Console link.Cut) → IsCutSession words f.console.left
    cut (Some x) is h = absurd (no_console x.forever x link.Cut h)
    cut None is h = let e = h.0.answered.made.is.ended in stops _ link.Cut is (inl refl) e.0 e.1 e.2.1.requests

    unframed : (s : Option ServingAsked) → asked.crew.serving ≡ s → Answered s (front.Console link.Unframed) → IsCutSession words f.console.left
    unframed (Some x) is h = absurd (no_console x.forever x link.Unframed h)
    unframed None is h = let e = h.0.answered.made.is.ended in stops _ link.Unframed is (inr refl) e.0 e.1 e.2.1.requests

    unread_more : (s : Option ServingAsked) → Answered s (front.Console link.ReadFault) → HasRisen f.console.reads g.console.reads
    unread_more (Some x) h = absurd (no_console x.forever x link.ReadFault h)
    unread_more None h = h.0.cause.read_fault refl

    unwritten : (s : Option ServingAsked) → Answered s (front.Console link.WriteFault) → HasRisen f.console.writes g.console.writes
    unwritten (Some x) h = absurd (no_console x.forever x link.WriteFault h)
    unwritten None h = h.0.cause.write_fault refl

    has_risen : (address : List ℕ) → IsUnheard address f.net g.net g.served → HasRisen f.net.faults g.net.faults
    has_risen address (inl i) = i.1
    has_risen address (inr i) = let h = i.1 in omega (arith, h)

    given_up : (address : List ℕ) → (any_failed g.lanes ≡ true → HasHandleFailed g.lanes) → IsGivenUp address f.net g.net g.lanes → NetFailed f.net.faults g.net.faults g.lanes
    given_up address handle (inl i) = inl i.1
    given_up address handle (inr (_, inl i)) = inl i
    given_up address handle (inr (_, inr i)) = inr (handle i)

    net_failed : (b : Bool) (s : ServingAsked) → HasAnsweredNet b file s x y f g front.ListenerFault k j v w → NetFailed f.net.faults g.net.faults g.lanes
    net_failed false s h = inl (has_risen s.address h.1.why)
    net_failed true s h = given_up s.address (λ failed. rw h.0.served.lanes_are (handle_failed file (offering s.page) x.reviews h.0.served.runs h.0.served.are (rw h.0.served.lanes_are at failed))) h.1.why

    unlistened : (s : Option ServingAsked) → Answered s front.ListenerFault → NetFailed f.net.faults g.net.faults g.lanes
    unlistened (Some s) h = net_failed s.forever s h
    unlistened None h = absurd h

  module _ (asked : LiveAsked) (means : live_command words ≡ Some asked) (m : Meaning) where
    -- a book was begun
    module _ (c : BookView A) (e : FrontEnd) (d : DrainEnd) (h : IsLiveOf gate (gate.faults admin) m asked.crew o l c e d) where
      -- the drain met a fault of the admin, which its book tells
      undrained : (n : ℕ) → d ≡ drain.AdminFault n → Cause (Some c) end.NotDrained
      undrained n is =
          let live = h.live in
          let first : gate.faults admin ≤ gate.faults live.closed.admin = (let begun = h.begun in let later = live.shared.since.later in omega (arith, begun, later)) in
          let risen : HasRisen (gate.faults live.closed.admin) (gate.faults c.admin) = subst (λ (x : BookView A). HasRisen (gate.faults x.admin) (gate.faults c.admin)) live.settled_is (live.behind.risen n is) in
          let cause : IsDrainCause (known_by_owner live.settled) (known_by_owner c) (drain.AdminFault n) = subst (λ (x : DrainEnd). IsDrainCause (known_by_owner live.settled) (known_by_owner c) x) is live.behind.cause in
          (omega (arith, first, risen), record { unfinished = cause.2; late = h.late n is })

      drained : (want : Bool) → Cause (Some c) (drained_end (or_want want d))
      drained true = tt
      drained false = by d refl where
        by : (x : DrainEnd) → d ≡ x → Cause (Some c) (drained_end x)
        by drain.Drained is = tt
        by (drain.AdminFault n) is = undrained n is
        by drain.Memory is = tt

      -- the drain leaves the console and the listener as the front did
      back_console : l.outside.console ≡ h.live.between.front.console
      back_console = h.back_is.team.console ∙ sym (ap (λ (t : TeamView). t.front.console) h.live.between_is)

      back_net : l.outside.net ≡ h.live.between.front.service.net
      back_net = h.back_is.team.net ∙ sym (ap (λ (t : TeamView). t.front.service.net) h.live.between_is)

      back_lanes : l.lanes ≡ h.live.between.front.service.lanes
      back_lanes = h.back_is.lanes ∙ sym (ap (λ (t : TeamView). t.front.service.lanes) h.live.between_is)

      -- what the front answered, told of the outside before and after
      abbrev asked_before : FrontTold
      asked_before = told_of h.given.front

      abbrev asked_behind : FrontTold
      asked_behind = told_of h.live.between.front

    over : (c : BookView A) (e : FrontEnd) (want : Bool) (d : DrainEnd) → IsLiveOf gate (gate.faults admin) m asked.crew o l c e d → Cause (Some c) (ended_live e want d)
    over c (front.Console link.Ended) want d h = drained c (front.Console link.Ended) d h want
    over c (front.Console link.Closed) want d h = drained c (front.Console link.Closed) d h want
    over c (front.Console link.Cut) want d h = let r = h.live.shared.run.run in rw h.given_is.console (cut asked means h.b.file h.live.board_given h.live.board_back (asked_before c (front.Console link.Cut) d h) (asked_behind c (front.Console link.Cut) d h) r.others_old r.others_new r.begun r.did.served asked.crew.serving refl r.did.answered)
    over c (front.Console link.Unframed) want d h = let r = h.live.shared.run.run in rw h.given_is.console (unframed asked means h.b.file h.live.board_given h.live.board_back (asked_before c (front.Console link.Unframed) d h) (asked_behind c (front.Console link.Unframed) d h) r.others_old r.others_new r.begun r.did.served asked.crew.serving refl r.did.answered)
    over c (front.Console link.ReadFault) want d h = let r = h.live.shared.run.run in rw (h.given_is.console, back_console c (front.Console link.ReadFault) d h) (unread_more asked means h.b.file h.live.board_given h.live.board_back (asked_before c (front.Console link.ReadFault) d h) (asked_behind c (front.Console link.ReadFault) d h) r.others_old r.others_new r.begun r.did.served asked.crew.serving r.did.answered)
    over c (front.Console link.WriteFault) want d h = let r = h.live.shared.run.run in rw (h.given_is.console, back_console c (front.Console link.WriteFault) d h) (unwritten asked means h.b.file h.live.board_given h.live.board_back (asked_before c (front.Console link.WriteFault) d h) (asked_behind c (front.Console link.WriteFault) d h) r.others_old r.others_new r.begun r.did.served asked.crew.serving r.did.answered)
    over c (front.Console link.Memory) want d h = tt
    over c front.Accepted want d h = drained c front.Accepted d h want
    over c front.ShutDown want d h = drained c front.ShutDown d h want
    over c (front.Console link.ShutDown) want d h = drained c (front.Console link.ShutDown) d h want
    over c front.ListenerFault want d h = let r = h.live.shared.run.run in rw (h.given_is.net, back_net c front.ListenerFault d h, back_lanes c front.ListenerFault d h) (unlistened asked means h.b.file h.live.board_given h.live.board_back (asked_before c front.ListenerFault d h) (asked_behind c front.ListenerFault d h) r.others_old r.others_new r.begun r.did.served asked.crew.serving r.did.answered)

    -- none was begun
    unbegun : (way : End) → IsNotBegun gate admin l.admin way → Cause None way
    unbegun way h = by l.admin h where
      by : (b : Option A) → IsNotBegun gate admin b way → IsCauseBy gate words files o admin (record l { admin = b }) None way
      by None h = absurd h
      by (Some a) h = at way h where
        at : (x : End) → IsNotBegun gate admin (Some a) x → IsCauseBy gate words files o admin (record l { admin = Some a }) None x
        at end.NotDrained i = (i.0, tt)
        at end.Memory i = tt
        at end.Done i = absurd i
        at end.Usage i = absurd i
        at (end.Refused line) i = absurd i
        at (end.GoalFailed line) i = absurd i
        at end.FileFault i = absurd i
        at end.ReadFault i = absurd i
        at end.WriteFault i = absurd i
        at end.InputCut i = absurd i
        at end.TraceRefused i = absurd i
        at end.ListenerFault i = absurd i

    left_so : (book : Option (BookView A)) (way : End) → IsLeftFrom gate m asked.crew o admin l book way → Cause book way
    left_so None way h = unbegun way h.0
    left_so (Some c) way (inl h) = subst (Cause (Some c)) (sym h.0) tt
    left_so (Some c) way (inr h) = subst (Cause (Some c)) (sym h.3) (over c h.0 (any_want l) h.1 h.4)

  -- what a run left tells why it ended so
  pub caused : (way : End) → Leaves gate words files o admin l way → Cause l.book way
  caused way (inl h) = unread l.book way h.3.drain h.0
  caused way (inr a) = left_so a.call.asked a.call.means a.file l.book way a.answered

  -- a file that is refused has no meaning
  no_meaning : (bytes : List ℕ) (m : Meaning) (fault : Fault) → Means bytes m → IsRefused bytes fault → ⊥
  no_meaning bytes m fault h r = (let i : Ok m ≡ Err fault = sym h ∙ r in cc)

  -- where all is as it should be, only a call outside that failed, or want of memory, stands in the way
  pub whole : IsLiveGiven words files o → (way : End) → Cause l.book way → (status_of way ≡ 0) ⊎ (status_of way ≡ 9) ⊎ HasLiveFailed gate files o admin l
  whole given end.Done h = inl refl
  whole given end.Memory h = inr (inl refl)
  whole given end.Usage h = absurd (called words (length o.copiers) given.call h)
  whole given (end.Refused line) h =
      let refused = h.0 in
      let same : refused.call.asked ≡ given.call.asked = same_asked words refused.call.asked given.call.asked refused.call.means given.call.means in
      let told : IfSome (files.told given.call.asked.file) (λ bytes. IsRefused bytes refused.fault) = subst (λ (a : LiveAsked). IfSome (files.told a.file) (λ bytes. IsRefused bytes refused.fault)) same refused.refused in
      absurd (no_meaning given.bytes given.file refused.fault given.meant (if_told (files.told given.call.asked.file) (λ bytes. IsRefused bytes refused.fault) given.bytes given.told told))
  whole given end.FileFault h = inr (inr (inl h.1))
  whole given end.ReadFault h = inr (inr (inr (inl h)))
  whole given end.WriteFault h = inr (inr (inr (inr (inl h))))
  whole given end.ListenerFault h = inr (inr (inr (inr (inr (inl h)))))
  whole given end.NotDrained h = inr (inr (inr (inr (inr (inr h.0)))))
  whole given end.InputCut h =
      let same : h.asked ≡ given.call.asked = same_asked words h.asked given.call.asked h.means given.call.means in
      let served : IsServed None o.console.left = subst (λ (s : Option ServingAsked). IsServed s o.console.left) (sym (ap (λ (a : LiveAsked). a.crew.serving) same) ∙ h.of_console) given.served in
      absurd (never_cut served.stream h.raws h.why served.whole h.cut (h.stops served.stream served.told))
  whole given (end.GoalFailed line) h = absurd h
  whole given end.TraceRefused h = absurd h

  -- words that are no command, or ask for too many copiers
  pub unasked : IsUnasked words (length o.copiers) → (way : End) → Leaves gate words files o admin l way → (status_of way ≡ 2) ⊎ (status_of way ≡ 9)
  unasked none way (inr a) = absurd (called words (length o.copiers) a.call none)
  unasked none end.Usage (inl h) = inl refl
  unasked none end.Memory (inl h) = inr refl
  unasked none (end.Refused line) (inl h) = absurd (called words (length o.copiers) h.0.call none)
  unasked none end.FileFault (inl h) = absurd (called words (length o.copiers) h.0.0.0 none)
  unasked none _ (inl h) = absurd h.0

  -- a file with a fault is refused, unless the files or memory stand in the way
  module _ (call : IsCalled words (length o.copiers)) (bytes : List ℕ) (fault : Fault) (told : files.told call.asked.file ≡ Some bytes) (refused : IsRefused bytes fault) where
    meaningless : (a : IsCalled words (length o.copiers)) (m : Meaning) → IfSome (files.told a.asked.file) (λ b. Means b m) → ⊥
    meaningless a m h =
        let same : a.asked ≡ call.asked = same_asked words a.asked call.asked a.means call.means in
        let meant : IfSome (files.told call.asked.file) (λ b. Means b m) = subst (λ (x : LiveAsked). IfSome (files.told x.file) (λ b. Means b m)) same h in
        absurd (no_meaning bytes m fault (if_told (files.told call.asked.file) (λ b. Means b m) bytes told meant) refused)

    pub refuses : (way : End) → Leaves gate words files o admin l way → (status_of way ≡ 3) ⊎ (status_of way ≡ 5) ⊎ (status_of way ≡ 9)
    refuses way (inr a) = absurd (meaningless a.call a.file a.meant)
    refuses (end.Refused line) (inl h) = inl refl
    refuses end.FileFault (inl h) = inr (inl refl)
    refuses end.Memory (inl h) = inr (inr refl)
    refuses end.Usage (inl h) = absurd (called words (length o.copiers) call h.0.0)
    refuses _ (inl h) = absurd h.0
