-- Links, one after another.
use Rattle.std.proofs.Common.{◌≡◌, ◌≤◌, ◌∷◌, ◌-◌, ℕ, zero, suc, Bool, false, List, [], length, map, inr, refl, ap, sym, ◌∙◌, subst, arith}
use Rattle.std.specs.Prelude.{Option, OnErr, OnOk, Result, Ok, Err}
use Rattle.cc_base.specs.Outside.{with_name}
use Rattle.cc_base.specs.declared.outside.Failed.{Failed}
use Rattle.cluster_json.specs.File.{Meaning}
use Rattle.control_core.specs.Books.{BookView}
use Rattle.mover_rounds.specs.Made.{Copies, HasRisenBy}
use Rattle.mover_workers.specs.Callers.{CallerView, HasGrown, IsSince, known_by_caller, known_by_pass}
use Rattle.net_links.specs.Links.{AcceptedLink, IsFresh, with_link}
use Rattle.rest_session.specs.Answered.{HasServed}
use Rattle.rest_session.specs.Heard.{SiteView}
use Rattle.rest_session.specs.declared.session.LinkEnd.{LinkEnd}
use Rattle.turn_book.specs.Known.{HasJoined, IsCut, Made}
use Rattle.turn_book.specs.Rule.{ArePlaced}
use Rattle.live_service.specs.Boards.{BoardCallerView, BoardPass, IsBoardCallerSince, board_seen}
use Rattle.live_service.specs.Fronts.{HasAccepted, HasServedLinks, HasTried, IsUnheard}
use Rattle.live_service.specs.Links.{HasLinkCause, LinkRun, accepted_of, served_in, tries, with_links}
use Rattle.live_service.specs.Views.{LinkView, ServedView, ServiceView}
use Rattle.live_service.specs.Workers.{Pass}
use Rattle.live_service.proofs.Crews.{shares_more, shares_none, shares_of_whole}
use Rattle.live_service.proofs.Gone.{board_joined, board_same, by_turn, gone_joined, gone_same}

-- one link more, before those that were accepted behind it
module _ (file : Meaning) (site : SiteView) (reviews : Bool) (v kept own u back w : Pass) (cut : IsCut v kept own) (joined : HasJoined u back w) (placed : ArePlaced back.seen back.mine) (grown : HasGrown own back)
    (x x_kept x_own y x_back z : BoardPass) (board_cut : IsCut x x_kept x_own) (board_joined : HasJoined y x_back z) (board_placed : ArePlaced x_back.seen x_back.mine) (board_grown : HasGrown x_own x_back)
    (before after : LinkView) (end : LinkEnd) (k l : Copies) where
  abbrev run : LinkRun
  run = record { given = own; back = back; board_given = x_own; board_back = x_back; old = k; new = l; before = before; after = after; end = end }

  pub links_more : (told between now : Option (List AcceptedLink)) (old new : List Copies) (links : List ServedView)
      → IsFresh before.written → between ≡ with_link told (accepted_of run)
      → HasServed site (known_by_pass file own) (known_by_pass file back) (board_seen reviews x_own) (board_seen reviews x_back) k l before.left before.written after.written end → HasLinkCause before after end
      → HasServedLinks file site reviews between now old new links kept u x_kept y → HasServedLinks file site reviews told now (k ∷ old) (l ∷ new) (served_in run ∷ links) v w x z
  links_more told between now old new links unwritten here answered cause h = record {
    runs = run ∷ h.runs;
    others = h.others;
    are = (
      record {
        fresh = cut.mine.1;
        grown = grown;
        placed = placed;
        board_fresh = board_cut.mine.1;
        board_grown = board_grown;
        board_placed = board_placed;
        run = record { unwritten = unwritten; answered = answered; cause = cause };
      },
      h.are,
    );
    accepted = h.accepted ∙ ap (λ (t : Option (List AcceptedLink)). with_links t (map accepted_of h.runs)) here;
    old_are = ap (λ (xs : List Copies). k ∷ xs) h.old_are;
    new_are = ap (λ (xs : List Copies). l ∷ xs) h.new_are;
    links_are = ap (λ (xs : List ServedView). served_in run ∷ xs) h.links_are;
    shares = shares_of_whole v kept own w (back ∷ map (λ (r : LinkRun). r.back) h.runs) cut
        (shares_more kept u back w (map (λ (r : LinkRun). r.back) h.runs) joined h.shares);
    board_shares = shares_of_whole x x_kept x_own z (x_back ∷ map (λ (r : LinkRun). r.board_back) h.runs) board_cut
        (shares_more x_kept y x_back z (map (λ (r : LinkRun). r.board_back) h.runs) board_joined h.board_shares);
  }

-- ---- as the calls tell it

-- no link was accepted
pub none_accepted : {A : Type 0} (site : SiteView) (b : CallerView A) (d : BoardCallerView) (s t : ServiceView) (links : ℕ) (r : Result (Unit {0}) Failed) → t.net.accepted ≡ s.net.accepted → t.copiers ≡ s.copiers → t.served ≡ [] → s.room ≤ t.room → s.places ≤ t.places → s.lane_room ≤ t.lane_room → t.lanes ≡ s.lanes
    → s.net.faults ≤ t.net.faults → OnOk r (0 ≡ links) → HasAccepted site b b d d s t links r
none_accepted site b d s t links r told copiers none room places lane_room lanes later whole = record {
  gone = gone_same b;
  board_gone = board_same d;
  served = record { runs = []; others = s.copiers; are = tt; accepted = told; old_are = refl; new_are = copiers; links_are = none; shares = shares_none b.pass; board_shares = shares_none d.pass };
  faults = later;
  whole = rw none whole;
  most = rw none (omega arith);
  back = record { copiers = ap length copiers; room = room; places = places; lane_room = lane_room };
  no_lane = lanes;
}

-- what was tried for further links was tried behind this one
pub tried_on : (r : Result (Unit {0}) Failed) (first before now : ℕ) → first ≤ before → OnErr r (HasRisenBy tries before now) → OnErr r (HasRisenBy tries first now)
tried_on (Ok x) first before now p h = tt
tried_on (Err f) first before now p h = omega (arith, p, h)

-- what one call kept and the other didn't lower
pub kept_least : {a b c : ℕ} → c ≡ b → a ≤ b → a ≤ c
kept_least same more = rw same more

pub same_least : {a b c : ℕ} → c ≡ b → b ≡ a → a ≤ c
same_least {a} later earlier = kept_least (later ∙ earlier) (omega arith)

pub moved_least : {a b c : ℕ} → b ≡ a → b ≤ c → a ≤ c
moved_least same more = rw (sym same) more

pub least_by : {a b : ℕ} → b ≡ a → a ≤ b
least_by same = omega (arith, same)

pub one_less : (n m : ℕ) → n ≡ m - 1 → (m ≡ 0 → ⊥) → m ≡ suc n
one_less n zero is some = absurd (some refl)
one_less n (suc m) is some = let same : n ≡ m = omega arith in ap suc (sym same)

-- the listener listened, and then no further link came
pub unheard_by : (r : Result (Unit {0}) Failed) (address : List ℕ) (s u t : ServiceView) → u.net.heard ≡ with_name s.net.heard address → u.net.faults ≡ s.net.faults → HasTried u t r → OnErr r (IsUnheard address s.net t.net t.served)
unheard_by (Ok x) address s u t heard same tried = tt
unheard_by (Err f) address s u t heard same tried = inr (tried.heard ∙ heard, (let risen = tried.given_up in omega (arith, same, risen)))

pub counted : (r : Result (Unit {0}) Failed) (n fewer links : ℕ) → links ≡ suc fewer → OnOk r (n ≡ fewer) → OnOk r (suc n ≡ links)
counted (Ok x) n fewer links e h = ap suc h ∙ sym e
counted (Err f) n fewer links e h = tt

-- one link more was accepted, and served by one who was split off and joined again
module _ {A : Type 0} (site : SiteView) (b kept own u back w : CallerView A) (turn_kept : kept.turn ≡ b.turn) (turn_own : own.turn ≡ b.turn) (cut : IsCut b.pass kept.pass own.pass) (since : IsSince own back) (turn_joined : w.turn ≡ u.turn) (joined : HasJoined u.pass back.pass w.pass) (placed : ArePlaced back.pass.seen back.pass.mine)
    (d d_kept d_own e d_back f : BoardCallerView) (board_turn : d_kept.turn ≡ d.turn) (board_kept : d_kept.reviews ≡ d.reviews) (board_own : d_own.reviews ≡ d.reviews) (board_cut : IsCut d.pass d_kept.pass d_own.pass) (board_since : IsBoardCallerSince d_own d_back)
    (board_turn_joined : f.turn ≡ e.turn) (board_reviews_joined : f.reviews ≡ e.reviews) (board_joined_is : HasJoined e.pass d_back.pass f.pass) (board_placed : ArePlaced d_back.pass.seen d_back.pass.mine) where
  pub accepted_more : (s s1 t1 t : ServiceView) (before after : LinkView) (end : LinkEnd) (k l : Copies) (links fewer : ℕ) (r : Result (Unit {0}) Failed) → links ≡ suc fewer
      → IsFresh before.written → s1.net.accepted ≡ with_link s.net.accepted (record { source_faults = before.reads; sink_faults = before.writes; left = before.left }) → s.net.faults ≤ s1.net.faults
      → s.copiers ≡ k ∷ s1.copiers → s.room ≤ s1.room → s.places ≤ s1.places → s.lane_room ≤ s1.lane_room → s1.lanes ≡ s.lanes
      → HasServed site (known_by_caller own) (known_by_caller back) (board_seen d_own.reviews d_own.pass) (board_seen d_back.reviews d_back.pass) k l before.left before.written after.written end → HasLinkCause before after end
      → HasAccepted site kept u d_kept e s1 t1 fewer r
      → t.net ≡ t1.net → t.copiers ≡ l ∷ t1.copiers → t.served ≡ record { link = after; end = end } ∷ t1.served → t1.room ≤ t.room → t1.places ≤ t.places → t1.lane_room ≤ t.lane_room → t.lanes ≡ t1.lanes
      → HasAccepted site b w d f s t links r
  accepted_more s s1 t1 t before after end k l links fewer r one fresh here faults taken room places lane_room lanes answered cause h net given noted more_room more_places more_lanes lanes_back =
      let file : Meaning = b.turn.start.file in
      let links_of : Meaning → Bool → Type 0 = λ m reviews. HasServedLinks m site reviews s1.net.accepted t1.net.accepted s1.copiers t1.copiers t1.served kept.pass u.pass d_kept.pass e.pass in
      let of_turn : links_of file d_kept.reviews = subst (λ (m : Made (BookView A)). links_of m.start.file d_kept.reviews) turn_kept h.served in
      let served : links_of file d.reviews = subst (λ (reviews : Bool). links_of file reviews) board_kept of_turn in
      let reply_of : Bool → Bool → Type 0 = λ x y. HasServed site (known_by_pass file own.pass) (known_by_pass file back.pass) (board_seen x d_own.pass) (board_seen y d_back.pass) k l before.left before.written after.written end in
      let by_pass_of : reply_of d_own.reviews d_back.reviews = by_turn (λ v x. HasServed site v x (board_seen d_own.reviews d_own.pass) (board_seen d_back.reviews d_back.pass) k l before.left before.written after.written end) b.turn own back turn_own since answered in
      let of_back : reply_of d_own.reviews d.reviews = subst (λ (reviews : Bool). reply_of d_own.reviews reviews) (board_since.reviews ∙ board_own) by_pass_of in
      let replied : reply_of d.reviews d.reviews = subst (λ (reviews : Bool). reply_of reviews d.reviews) board_own of_back in
      let more = links_more file site d.reviews b.pass kept.pass own.pass u.pass back.pass w.pass cut joined placed since.grown
      d.pass d_kept.pass d_own.pass e.pass d_back.pass f.pass board_cut board_joined_is board_placed board_since.grown
      before after end k l s.net.accepted s1.net.accepted t1.net.accepted s1.copiers t1.copiers t1.served
      fresh here replied cause served in
      record {
        gone = gone_joined b kept own u back w turn_kept cut h.gone since turn_joined joined;
        board_gone = board_joined d d_kept d_own e d_back f board_turn board_kept board_cut h.board_gone board_since board_turn_joined board_reviews_joined board_joined_is;
        served = rw net (rw taken (rw given (rw noted more)));
        faults = rw net (let c = h.faults in omega (arith, faults, c));
        whole = rw noted (counted r (length t1.served) fewer links one h.whole);
        most = rw noted (let m = h.most in omega (arith, one, m));
        back = record {
          copiers = rw taken (rw given (ap suc h.back.copiers));
          room = (let c = h.back.room in omega (arith, room, c, more_room));
          places = (let c = h.back.places in omega (arith, places, c, more_places));
          lane_room = (let c = h.back.lane_room in omega (arith, lane_room, c, more_lanes));
        };
        no_lane = lanes_back ∙ (h.no_lane ∙ lanes);
      }
