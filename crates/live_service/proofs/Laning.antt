-- Threads that serve one link after another.
use Rattle.std.proofs.Common.{◌≡◌, ◌≤◌, ◌-◌, ◌⊎◌, ◌∷◌, ℕ, suc, Bool, true, false, ◌||◌, List, [], length, map, refl, ap, sym, ◌∙◌, subst, arith, inl, inr}
use Rattle.std.specs.Prelude.{Option, is_err, OnErr, OnOk, Result, Ok, Err}
use Rattle.cc_base.specs.Outside.{HasRisen, with_name}
use Rattle.cc_base.specs.declared.outside.Failed.{Failed}
use Rattle.cluster_json.specs.File.{Meaning}
use Rattle.control_core.specs.Books.{BookView}
use Rattle.mover_rounds.specs.Made.{Copies, HasRisenBy}
use Rattle.mover_workers.specs.Callers.{CallerView, HasGrown, IsSince, known_by_caller, known_by_pass}
use Rattle.net_links.specs.Links.{AcceptedLink, IsFresh, IsUnused, with_link}
use Rattle.rest_session.specs.Answered.{HasServed}
use Rattle.rest_session.specs.Heard.{SiteView}
use Rattle.rest_session.specs.declared.session.LinkEnd.{LinkEnd}
use Rattle.turn_book.specs.Known.{HasJoined, IsCut, Made}
use Rattle.turn_book.specs.Rule.{ArePlaced}
use Rattle.live_service.specs.Asked.{HasSpace, ServingAsked, offering}
use Rattle.live_service.specs.Boards.{BoardCallerView, BoardPass, IsBoardCallerSince, board_seen}
use Rattle.live_service.specs.Lanes.{HasRunLanes, HasServedAt, HasServedLane, HasServedLanes, IsNetEnd, LaneRun, any_failed, lane_state}
use Rattle.live_service.specs.Links.{HasLinkCause, LinkRun, out_of_memory, tries}
use Rattle.live_service.specs.Views.{LaneView, LinkView, NetView, ServiceView}
use Rattle.live_service.specs.Workers.{Pass}
use Rattle.live_service.proofs.Accepting.{one_less}
use Rattle.live_service.specs.declared.front.FrontEnd.{FrontEnd}
use Rattle.live_service.specs.declared.front.FrontEnd.TheVariants as front
use Rattle.live_service.proofs.Crews.{shares_more, shares_none, shares_of_whole}
use Rattle.live_service.proofs.Gone.{board_joined, board_same, by_turn, gone_joined, gone_same}

-- ---- one thread

-- it served no link yet
pub lane_none : {A : Type 0} (site : SiteView) (b : CallerView A) (d : BoardCallerView) (k : Copies) (net : NetView) → HasServedLane b.turn.start.file site d.reviews (lane_state b.pass d.pass k) (lane_state b.pass d.pass k) net (record { net = net; failed = false; wants = false })
lane_none site b d k net = record { links = []; runs = refl; accepted = refl; failed = λ q. absurd cc; later = omega arith; wants = refl }

module _ {A : Type 0} (site : SiteView) (b u : CallerView A) (d e : BoardCallerView) (since : IsSince b u) (board_since : IsBoardCallerSince d e) (k j : Copies) (before net : NetView) (wants : Bool)
    (h : HasServedLane b.turn.start.file site d.reviews (lane_state b.pass d.pass k) (lane_state u.pass e.pass j) before (record { net = net; failed = false; wants = wants })) where
  -- one link more
  pub lane_more : (c : CallerView A) (f : BoardCallerView) → IsSince u c → IsBoardCallerSince e f → (l : Copies) (now : NetView) (first last : LinkView) (end : LinkEnd)
      → now.accepted ≡ with_link net.accepted (record { source_faults = first.reads; sink_faults = first.writes; left = first.left }) → net.faults ≤ now.faults → IsFresh first.written
      → HasServed site (known_by_caller u) (known_by_caller c) (board_seen e.reviews e.pass) (board_seen f.reviews f.pass) j l first.left first.written last.written end → HasLinkCause first last end
      → HasServedLane b.turn.start.file site d.reviews (lane_state b.pass d.pass k) (lane_state c.pass f.pass l) before (record { net = now; failed = false; wants = out_of_memory end || wants })
  lane_more c f next board_next l now first last end here faults fresh answered cause =
      let file : Meaning = b.turn.start.file in
      let run : LinkRun = record { given = u.pass; back = c.pass; board_given = e.pass; board_back = f.pass; old = j; new = l; before = first; after = last; end = end } in
      let reply_of : Bool → Bool → Type 0 = λ x y. HasServed site (known_by_pass file u.pass) (known_by_pass file c.pass) (board_seen x e.pass) (board_seen y f.pass) j l first.left first.written last.written end in
      let by_pass_of : reply_of e.reviews f.reviews = by_turn (λ v x. HasServed site v x (board_seen e.reviews e.pass) (board_seen f.reviews f.pass) j l first.left first.written last.written end) b.turn u c since.turn next answered in
      let of_last : reply_of e.reviews d.reviews = subst (λ (reviews : Bool). reply_of e.reviews reviews) (board_next.reviews ∙ board_since.reviews) by_pass_of in
      let replied : reply_of d.reviews d.reviews = subst (λ (reviews : Bool). reply_of reviews d.reviews) board_since.reviews of_last in
      record {
        links = run ∷ h.links;
        runs = (record { unwritten = fresh; answered = replied; cause = cause }, refl, h.runs);
        accepted = here ∙ ap (λ (t : Option (List AcceptedLink)). with_link t (record { source_faults = first.reads; sink_faults = first.writes; left = first.left })) h.accepted;
        failed = λ q. absurd cc;
        later = (let x = h.later in omega (arith, x, faults));
        wants = ap (λ (w : Bool). out_of_memory end || w) h.wants;
      }

  -- no further link came
  pub lane_failed : (now : NetView) → now.accepted ≡ net.accepted → HasRisenBy tries net.faults now.faults → net.faults ≤ now.faults
      → HasServedLane b.turn.start.file site d.reviews (lane_state b.pass d.pass k) (lane_state u.pass e.pass j) before (record { net = now; failed = true; wants = wants })
  lane_failed now same risen faults = record {
    links = h.links;
    runs = h.runs;
    accepted = same ∙ h.accepted;
    failed = λ q. (let x = h.later in omega (arith, x, risen));
    later = (let x = h.later in omega (arith, x, faults));
    wants = h.wants;
  }

-- ---- many

whole_none : (r : Result (Unit {0}) Failed) (lanes : ℕ) → OnOk r (0 ≡ lanes) → OnOk r ((0 ≡ lanes) × (false ≡ false))
whole_none (Ok done) lanes h = (h, refl)
whole_none (Err f) lanes h = tt

risen_none : (r : Result (Unit {0}) Failed) (before now : ℕ) (Other : Type 0) → OnErr r (HasRisen before now) → OnErr r (HasRisen before now ⊎ Other)
risen_none (Ok done) before now Other h = tt
risen_none (Err f) before now Other h = inl h

-- there is no thread
pub none_ran : {A : Type 0} (site : SiteView) (b : CallerView A) (d : BoardCallerView) (s t : ServiceView) (lanes : ℕ) (r : Result (Unit {0}) Failed) → t.net.accepted ≡ s.net.accepted → t.net.heard ≡ s.net.heard → s.net.faults ≤ t.net.faults → t.copiers ≡ s.copiers → t.served ≡ s.served → t.lanes ≡ []
    → s.room ≤ t.room → s.places ≤ t.places → s.lane_room ≤ t.lane_room → OnOk r (0 ≡ lanes) → OnErr r (HasRisen s.net.faults t.net.faults) → HasRunLanes site b b d d s t lanes r
none_ran site b d s t lanes r told heard later copiers served none room places lane_room whole risen = record {
  gone = gone_same b;
  board_gone = board_same d;
  served = record { runs = []; others = s.copiers; are = tt; old_are = refl; new_are = copiers; lanes_are = none; shares = shares_none b.pass; board_shares = shares_none d.pass };
  accepted = told;
  heard = heard;
  faults = later;
  none = served;
  whole = rw none (whole_none r lanes whole);
  most = rw none (omega arith);
  given_up = risen_none r s.net.faults t.net.faults (any_failed t.lanes ≡ true) risen;
  back = record { copiers = ap length copiers; room = room; places = places; lane_room = lane_room };
}

-- the end with one thread more
whole_with : (old new : Result (Unit {0}) Failed) (failed : Bool) (xs : List LaneView) (lanes fewer : ℕ) → is_err new ≡ (failed || is_err old) → lanes ≡ suc fewer
    → OnOk old ((length xs ≡ fewer) × (any_failed xs ≡ false)) → OnOk new ((suc (length xs) ≡ lanes) × ((failed || any_failed xs) ≡ false))
whole_with old (Err f) failed xs lanes fewer is one h = tt
whole_with old (Ok done) true xs lanes fewer is one h = absurd cc
whole_with (Err f) (Ok done) false xs lanes fewer is one h = absurd cc
whole_with (Ok before) (Ok done) false xs lanes fewer is one h = (ap suc h.0 ∙ sym one, h.1)

given_up_with : (old new : Result (Unit {0}) Failed) (failed : Bool) (xs : List LaneView) (first before now : ℕ) → is_err new ≡ (failed || is_err old) → first ≤ before
    → OnErr old (HasRisen before now ⊎ (any_failed xs ≡ true)) → OnErr new (HasRisen first now ⊎ ((failed || any_failed xs) ≡ true))
given_up_with old (Ok done) failed xs first before now is p h = tt
given_up_with old (Err f) true xs first before now is p h = inr refl
given_up_with (Ok done) (Err f) false xs first before now is p h = absurd cc
given_up_with (Err e) (Err f) false xs first before now is p (inl h) = inl (omega (arith, p, h))
given_up_with (Err e) (Err f) false xs first before now is p (inr h) = inr h

-- there is space for one thread fewer, once its copier was taken and its callers were split off
pub fewer_space : (s u s1 : ServiceView) (k : Copies) (v w own : Pass) (x y board_own : BoardPass) (lanes : ℕ) → HasSpace s v.parts x.parts 0 lanes → u ≡ record s { net = u.net } → u.copiers ≡ k ∷ s1.copiers → s1 ≡ record u { copiers = s1.copiers } → IsCut v w own → IsCut x y board_own
    → (lanes ≡ 0 → ⊥) → HasSpace s1 w.parts y.parts 0 (lanes - 1)
fewer_space s u s1 k v w own x y board_own lanes had rest taken took cut board_cut some =
    let one : lanes ≡ suc (lanes - 1) = one_less (lanes - 1) lanes refl some in
    let fewer : suc (length s1.copiers) ≡ length s.copiers = sym (ap (λ (xs : List Copies). length xs) taken) ∙ ap (λ (z : ServiceView). length z.copiers) rest in
    let same_room : s1.room ≡ s.room = ap (λ (z : ServiceView). z.room) took ∙ ap (λ (z : ServiceView). z.room) rest in
    let same_places : s1.places ≡ s.places = ap (λ (z : ServiceView). z.places) took ∙ ap (λ (z : ServiceView). z.places) rest in
    let same_lane_room : s1.lane_room ≡ s.lane_room = ap (λ (z : ServiceView). z.lane_room) took ∙ ap (λ (z : ServiceView). z.lane_room) rest in
    record {
      copiers = (let h = had.copiers in omega (arith, h, one, fewer));
      room = (let h = had.room in omega (arith, h, fewer, same_room));
      parts = (let h = had.parts in let p = cut.parts.0 in omega (arith, h, one, p));
      board_parts = (let h = had.board_parts in let p = board_cut.parts.0 in omega (arith, h, one, p));
      none = ap (λ (z : ServiceView). z.served) took ∙ (ap (λ (z : ServiceView). z.served) rest ∙ had.none);
      places = (let h = had.places in omega (arith, h, one, same_places));
      no_lane = ap (λ (z : ServiceView). z.lanes) took ∙ (ap (λ (z : ServiceView). z.lanes) rest ∙ had.no_lane);
      lane_room = (let h = had.lane_room in omega (arith, h, one, same_lane_room));
    }

-- one thread more, whose callers were split off and joined again
module _ {A : Type 0} (site : SiteView) (b kept own u back w : CallerView A) (turn_kept : kept.turn ≡ b.turn) (turn_own : own.turn ≡ b.turn) (cut : IsCut b.pass kept.pass own.pass) (since : IsSince own back) (turn_joined : w.turn ≡ u.turn) (joined : HasJoined u.pass back.pass w.pass) (placed : ArePlaced back.pass.seen back.pass.mine)
    (d d_kept d_own e d_back f : BoardCallerView) (board_turn : d_kept.turn ≡ d.turn) (board_kept : d_kept.reviews ≡ d.reviews) (board_own : d_own.reviews ≡ d.reviews) (board_cut : IsCut d.pass d_kept.pass d_own.pass) (board_since : IsBoardCallerSince d_own d_back)
    (board_turn_joined : f.turn ≡ e.turn) (board_reviews_joined : f.reviews ≡ e.reviews) (board_joined_is : HasJoined e.pass d_back.pass f.pass) (board_placed : ArePlaced d_back.pass.seen d_back.pass.mine) where
  pub lanes_more : (s s1 t1 t : ServiceView) (before : NetView) (lane : LaneView) (k l : Copies) (lanes fewer : ℕ) (r end : Result (Unit {0}) Failed) → is_err end ≡ (lane.failed || is_err r) → lanes ≡ suc fewer → IsUnused before.faults before.accepted
      → s1.net.accepted ≡ s.net.accepted → s1.net.heard ≡ s.net.heard → s.net.faults ≤ s1.net.faults → s1.served ≡ s.served
      → s.copiers ≡ k ∷ s1.copiers → s.room ≤ s1.room → s.places ≤ s1.places → s.lane_room ≤ s1.lane_room
      → HasServedLane own.turn.start.file site d_own.reviews (lane_state own.pass d_own.pass k) (lane_state back.pass d_back.pass l) before lane
      → HasRunLanes site kept u d_kept e s1 t1 fewer r
      → t.net ≡ t1.net → t.copiers ≡ l ∷ t1.copiers → t.served ≡ t1.served → t.lanes ≡ lane ∷ t1.lanes → t1.room ≤ t.room → t1.places ≤ t.places → t1.lane_room ≤ t.lane_room
      → HasRunLanes site b w d f s t lanes end
  lanes_more s s1 t1 t before lane k l lanes fewer r end is one unused told heard faults served taken room places lane_room ran h net given served_back noted more_room more_places more_lanes =
      let file : Meaning = b.turn.start.file in
      let lanes_of : Meaning → Bool → Type 0 = λ m reviews. HasServedLanes m site reviews s1.copiers t1.copiers t1.lanes kept.pass u.pass d_kept.pass e.pass in
      let of_turn : lanes_of file d_kept.reviews = subst (λ (m : Made (BookView A)). lanes_of m.start.file d_kept.reviews) turn_kept h.served in
      let others : lanes_of file d.reviews = subst (λ (reviews : Bool). lanes_of file reviews) board_kept of_turn in
      let lane_of : Meaning → Bool → Type 0 = λ m reviews. HasServedLane m site reviews (lane_state own.pass d_own.pass k) (lane_state back.pass d_back.pass l) before lane in
      let of_own : lane_of file d_own.reviews = subst (λ (m : Made (BookView A)). lane_of m.start.file d_own.reviews) turn_own ran in
      let ran_so : lane_of file d.reviews = subst (λ (reviews : Bool). lane_of file reviews) board_own of_own in
      let run : LaneRun = record { given = lane_state own.pass d_own.pass k; back = lane_state back.pass d_back.pass l; before = before; lane = lane } in
      let more : HasServedLanes file site d.reviews (k ∷ s1.copiers) (l ∷ t1.copiers) (lane ∷ t1.lanes) b.pass w.pass d.pass f.pass = record {
        runs = run ∷ others.runs;
        others = others.others;
        are = (
          record {
            fresh = cut.mine.1;
            grown = since.grown;
            placed = placed;
            board_fresh = board_cut.mine.1;
            board_grown = board_since.grown;
            board_placed = board_placed;
            unused = unused;
            served = ran_so;
          },
          others.are,
        );
        old_are = ap (λ (xs : List Copies). k ∷ xs) others.old_are;
        new_are = ap (λ (xs : List Copies). l ∷ xs) others.new_are;
        lanes_are = ap (λ (xs : List LaneView). lane ∷ xs) others.lanes_are;
        shares = shares_of_whole b.pass kept.pass own.pass w.pass (back.pass ∷ map (λ (x : LaneRun). x.back.pass) others.runs) cut
            (shares_more kept.pass u.pass back.pass w.pass (map (λ (x : LaneRun). x.back.pass) others.runs) joined others.shares);
        board_shares = shares_of_whole d.pass d_kept.pass d_own.pass f.pass (d_back.pass ∷ map (λ (x : LaneRun). x.back.board) others.runs) board_cut
            (shares_more d_kept.pass e.pass d_back.pass f.pass (map (λ (x : LaneRun). x.back.board) others.runs) board_joined_is others.board_shares);
      } in
      record {
        gone = gone_joined b kept own u back w turn_kept cut h.gone since turn_joined joined;
        board_gone = board_joined d d_kept d_own e d_back f board_turn board_kept board_cut h.board_gone board_since board_turn_joined board_reviews_joined board_joined_is;
        served = rw taken (rw given (rw noted more));
        accepted = rw net (h.accepted ∙ told);
        heard = rw net (h.heard ∙ heard);
        faults = rw net (let c = h.faults in omega (arith, faults, c));
        none = served_back ∙ (h.none ∙ served);
        whole = rw noted (whole_with r end lane.failed t1.lanes lanes fewer is one h.whole);
        most = rw noted (let m = h.most in omega (arith, one, m));
        given_up = rw net (rw noted (given_up_with r end lane.failed t1.lanes s.net.faults s1.net.faults t1.net.faults is faults h.given_up));
        back = record {
          copiers = rw taken (rw given (ap suc h.back.copiers));
          room = (let c = h.back.room in omega (arith, room, c, more_room));
          places = (let c = h.back.places in omega (arith, places, c, more_places));
          lane_room = (let c = h.back.lane_room in omega (arith, lane_room, c, more_lanes));
        };
      }

-- ---- at an address

-- it couldn't be listened at
pub not_opened : {A : Type 0} (b : CallerView A) (d : BoardCallerView) (s t : ServiceView) (asked : ServingAsked) → t.net.accepted ≡ s.net.accepted → t.net.heard ≡ s.net.heard → HasRisen s.net.faults t.net.faults → s.net.faults ≤ t.net.faults → t.copiers ≡ s.copiers → t.served ≡ s.served → t.lanes ≡ []
    → s.room ≤ t.room → s.places ≤ t.places → s.lane_room ≤ t.lane_room → HasServedAt b b d d s t asked front.ListenerFault
not_opened b d s t asked told heard risen later copiers served none room places lane_room = record {
  gone = gone_same b;
  board_gone = board_same d;
  served = record { runs = []; others = s.copiers; are = tt; old_are = refl; new_are = copiers; lanes_are = none; shares = shares_none b.pass; board_shares = shares_none d.pass };
  accepted = told;
  faults = later;
  none = served;
  ended = record { most = rw none (omega arith); why = inl (heard, risen, none) };
  back = record { copiers = ap length copiers; room = room; places = places; lane_room = lane_room };
}

module _ {A : Type 0} (b c : CallerView A) (d e : BoardCallerView) (s u t : ServiceView) (asked : ServingAsked) (told : u.net.accepted ≡ s.net.accepted) (heard : u.net.heard ≡ with_name s.net.heard asked.address) (same : u.net.faults ≡ s.net.faults) (copiers : u.copiers ≡ s.copiers) (served : u.served ≡ s.served)
    (room : u.room ≡ s.room) (places : u.places ≡ s.places) (lane_room : u.lane_room ≡ s.lane_room) where
  served_at : (r : Result (Unit {0}) Failed) (end : FrontEnd) → HasRunLanes (offering asked.page) b c d e u t asked.links r → IsNetEnd asked s.net t.net t.lanes end → HasServedAt b c d e s t asked end
  served_at r end h ended = record {
    gone = h.gone;
    board_gone = h.board_gone;
    served = subst (λ (xs : List Copies). HasServedLanes b.turn.start.file (offering asked.page) d.reviews xs t.copiers t.lanes b.pass c.pass d.pass e.pass) copiers h.served;
    accepted = h.accepted ∙ told;
    faults = (let x = h.faults in omega (arith, same, x));
    none = h.none ∙ served;
    ended = ended;
    back = record {
      copiers = h.back.copiers ∙ ap length copiers;
      room = (let x = h.back.room in omega (arith, room, x));
      places = (let x = h.back.places in omega (arith, places, x));
      lane_room = (let x = h.back.lane_room in omega (arith, lane_room, x));
    };
  }

  -- all threads went on until a client asked the end
  pub shut_down_at : (done : Unit {0}) → HasRunLanes (offering asked.page) b c d e u t asked.links (Ok done) → HasServedAt b c d e s t asked front.ShutDown
  shut_down_at done h = served_at (Ok done) front.ShutDown h (record { count = h.whole.0; heard = h.heard ∙ heard; well = h.whole.1 })

  since_opened : HasRisen u.net.faults t.net.faults ⊎ (any_failed t.lanes ≡ true) → HasRisen s.net.faults t.net.faults ⊎ (any_failed t.lanes ≡ true)
  since_opened (inl h) = inl (omega (arith, same, h))
  since_opened (inr h) = inr h

  -- a call for a further handle failed, or a thread gave up
  pub given_up_at : (f : Failed) → HasRunLanes (offering asked.page) b c d e u t asked.links (Err f) → HasServedAt b c d e s t asked front.ListenerFault
  given_up_at f h = served_at (Err f) front.ListenerFault h (record { most = h.most; why = inr (h.heard ∙ heard, since_opened h.given_up) })
