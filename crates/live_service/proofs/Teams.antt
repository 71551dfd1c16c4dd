-- Workers beside a front, as the calls tell it.
use Rattle.std.proofs.Common.{◌≡◌, ◌≤◌, ◌∷◌, ℕ, suc, List, [], refl, ap, sym, ◌∙◌, subst, arith}
use Rattle.std.specs.Prelude.{Option}
use Rattle.control_core.specs.Books.{BookView}
use Rattle.mover_rounds.specs.Made.{Copies}
use Rattle.mover_workers.specs.Callers.{CallerView, IsSince, known_by_caller}
use Rattle.mover_workers.specs.Loops.{CallsNoAdmin, HasMoved, HasPlanned, IsLoopCause}
use Rattle.mover_workers.specs.declared.loops.LoopEnd.{LoopEnd}
use Rattle.turn_book.specs.Known.{HasJoined, IsCut, Made}
use Rattle.turn_book.specs.Rule.{ArePlaced}
use Rattle.live_service.specs.Asked.{IsWhole, ServingAsked}
use Rattle.live_service.specs.Boards.{BoardCallerView}
use Rattle.live_service.specs.Closing.{HasFronted}
use Rattle.live_service.specs.Fronts.{HasAnswered}
use Rattle.live_service.specs.Runs.{Fronted, HasRunMovers, HasRunWorkers, HasServed}
use Rattle.live_service.specs.Views.{FrontTold, FrontView, TeamView, told_of}
use Rattle.live_service.specs.Workers.{HasRun, HasRunAll, Pass}
use Rattle.live_service.specs.declared.front.FrontEnd.{FrontEnd}
use Rattle.live_service.proofs.Crews.{run_all_alone, run_all_more, run_alone, run_more}
use Rattle.live_service.proofs.Gone.{by_turn, gone_joined}

-- no mover
pub no_mover : {A : Type 0} (asked : Option ServingAsked) (b c : CallerView A) (d e : BoardCallerView) (s t : TeamView) (end : FrontEnd) → HasServed asked b c d e s.front t.front end → t.movers ≡ [] → s.mover_room ≤ t.mover_room → t.planners ≡ s.planners → s.planner_room ≤ t.planner_room → HasRunMovers asked b c d e s t end 0
no_mover asked b c d e s t end h none room planners planner_room = record {
  gone = h.gone;
  board_gone = h.board_gone;
  run = rw none (run_alone (Fronted b.turn.start.file asked d e s.front t.front end) b.turn.start.file b.pass c.pass s.front.service.copiers t.front.service.copiers h.did);
  back = h.back;
  mover_room = room;
  planners = planners;
  planner_room = planner_room;
}

-- no planner
pub no_planner : {A : Type 0} (asked : Option ServingAsked) (b c : CallerView A) (d e : BoardCallerView) (s t : TeamView) (end : FrontEnd) (movers : ℕ) → s.planners ≡ [] → HasRunMovers asked b c d e s t end movers → HasRunWorkers asked b c d e s t end movers 0
no_planner asked b c d e s t end movers none h = record {
  gone = h.gone;
  board_gone = h.board_gone;
  run = rw h.planners (rw none (run_all_alone (Fronted b.turn.start.file asked d e s.front t.front end) b.turn.start.file b.pass c.pass s.front.service.copiers t.front.service.copiers t.movers movers h.run));
  back = h.back;
  planner_room = h.planner_room;
}

-- one worker more, who was split off and joined again
module _ {A : Type 0} (b kept own u back w : CallerView A) (turn_kept : kept.turn ≡ b.turn) (turn_own : own.turn ≡ b.turn) (cut : IsCut b.pass kept.pass own.pass) (since : IsSince own back) (turn_joined : w.turn ≡ u.turn) (joined : HasJoined u.pass back.pass w.pass) (placed : ArePlaced back.pass.seen back.pass.mine)
    (asked : Option ServingAsked) (d e : BoardCallerView) (s s1 t1 t : TeamView) (end : FrontEnd) (same : told_of s1.front ≡ told_of s.front) (same_back : told_of t.front ≡ told_of t1.front) where
  abbrev Did : Made (BookView A) → FrontTold → FrontTold → List Copies → List Copies → Pass → Pass → Type 0
  Did m f g old new v x = HasFronted (HasAnswered m.start.file asked d e f g end old new) v x

  pub mover_more : (k l : Copies) (ended : LoopEnd) (movers fewer : ℕ) → movers ≡ suc fewer
      → s.front.service.copiers ≡ k ∷ s1.front.service.copiers → s.front.service.room ≤ s1.front.service.room → s.front.service.places ≤ s1.front.service.places → s.front.service.lane_room ≤ s1.front.service.lane_room → s.mover_room ≤ s1.mover_room → s1.planners ≡ s.planners → s.planner_room ≤ s1.planner_room
      → HasMoved (known_by_caller own) (known_by_caller back) k l ended → IsLoopCause (known_by_caller own) (known_by_caller back) ended
      → HasRunMovers asked kept u d e s1 t1 end fewer
      → t.front.service.copiers ≡ l ∷ t1.front.service.copiers → t1.front.service.room ≤ t.front.service.room → t1.front.service.places ≤ t.front.service.places → t1.front.service.lane_room ≤ t.front.service.lane_room → t.movers ≡ ended ∷ t1.movers → t1.mover_room ≤ t.mover_room → t.planners ≡ t1.planners → t1.planner_room ≤ t.planner_room
      → HasRunMovers asked b w d e s t end movers
  mover_more k l ended movers fewer one taken room places lane_room mover_room planners planner_room moved cause h given more_room more_places more_lanes noted more_movers planners_back more_planners =
      let did : List Copies → List Copies → Pass → Pass → Type 0 = Did b.turn (told_of s1.front) (told_of t1.front) in
      let run : HasRun did b.turn.start.file kept.pass u.pass s1.front.service.copiers t1.front.service.copiers t1.movers fewer =
      subst (λ (m : Made (BookView A)). HasRun (Did m (told_of s1.front) (told_of t1.front)) m.start.file kept.pass u.pass s1.front.service.copiers t1.front.service.copiers t1.movers fewer) turn_kept h.run in
      let more = run_more did b.turn.start.file b.pass kept.pass own.pass u.pass back.pass w.pass cut joined placed since.grown ended s1.front.service.copiers t1.front.service.copiers k l t1.movers fewer movers one run
      (by_turn (λ v x. HasMoved v x k l ended) b.turn own back turn_own since moved) (by_turn (λ v x. IsLoopCause v x ended) b.turn own back turn_own since cause) in
      let told = subst (λ (f : FrontTold). HasRun (Did b.turn f (told_of t1.front)) b.turn.start.file b.pass w.pass (k ∷ s1.front.service.copiers) (l ∷ t1.front.service.copiers) (ended ∷ t1.movers) movers) same more in
      let back_told = subst (λ (g : FrontTold). HasRun (Did b.turn (told_of s.front) g) b.turn.start.file b.pass w.pass (k ∷ s1.front.service.copiers) (l ∷ t1.front.service.copiers) (ended ∷ t1.movers) movers) (sym same_back) told in
      record {
        gone = gone_joined b kept own u back w turn_kept cut h.gone since turn_joined joined;
        board_gone = h.board_gone;
        run = rw taken (rw given (rw noted back_told));
        back = record {
          copiers = rw taken (rw given (ap suc h.back.copiers));
          room = (let c = h.back.room in omega (arith, room, c, more_room));
          places = (let c = h.back.places in omega (arith, places, c, more_places));
          lane_room = (let c = h.back.lane_room in omega (arith, lane_room, c, more_lanes));
        };
        mover_room = (let c = h.mover_room in omega (arith, mover_room, c, more_movers));
        planners = planners_back ∙ (h.planners ∙ planners);
        planner_room = (let c = h.planner_room in omega (arith, planner_room, c, more_planners));
      }

  pub planner_more : (ended : LoopEnd) (movers planners fewer : ℕ) → planners ≡ suc fewer
      → s1.front ≡ s.front → s.planner_room ≤ s1.planner_room
      → HasPlanned (known_by_caller own) (known_by_caller back) ended → CallsNoAdmin ended
      → HasRunWorkers asked kept u d e s1 t1 end movers fewer
      → t.front ≡ t1.front → t.movers ≡ t1.movers → t.planners ≡ ended ∷ t1.planners → t1.planner_room ≤ t.planner_room
      → HasRunWorkers asked b w d e s t end movers planners
  planner_more ended movers planners fewer one front planner_room planned no_admin h front_back movers_back noted more_planners =
      let did : List Copies → List Copies → Pass → Pass → Type 0 = Did b.turn (told_of s1.front) (told_of t1.front) in
      let run : HasRunAll did b.turn.start.file kept.pass u.pass s1.front.service.copiers t1.front.service.copiers t1.movers t1.planners movers fewer =
      subst (λ (m : Made (BookView A)). HasRunAll (Did m (told_of s1.front) (told_of t1.front)) m.start.file kept.pass u.pass s1.front.service.copiers t1.front.service.copiers t1.movers t1.planners movers fewer) turn_kept h.run in
      let more : HasRunAll did b.turn.start.file b.pass w.pass s1.front.service.copiers t1.front.service.copiers t1.movers (ended ∷ t1.planners) movers planners =
      run_all_more did b.turn.start.file b.pass kept.pass own.pass u.pass back.pass w.pass cut joined placed since.grown ended s1.front.service.copiers t1.front.service.copiers t1.movers t1.planners movers fewer planners one run
      (by_turn (λ v x. HasPlanned v x ended) b.turn own back turn_own since planned) no_admin in
      let old = subst (λ (f : FrontView). HasRunAll (Did b.turn (told_of f) (told_of t1.front)) b.turn.start.file b.pass w.pass f.service.copiers t1.front.service.copiers t1.movers (ended ∷ t1.planners) movers planners) front more in
      let new = subst (λ (g : FrontView). HasRunAll (Did b.turn (told_of s.front) (told_of g)) b.turn.start.file b.pass w.pass s.front.service.copiers g.service.copiers t1.movers (ended ∷ t1.planners) movers planners) (sym front_back) old in
      record {
        gone = gone_joined b kept own u back w turn_kept cut h.gone since turn_joined joined;
        board_gone = h.board_gone;
        run = rw movers_back (rw noted new);
        back = subst (λ (f : FrontView). IsWhole f.service t.front.service) front (subst (λ (g : FrontView). IsWhole s1.front.service g.service) (sym front_back) h.back);
        planner_room = (let c = h.planner_room in omega (arith, planner_room, c, more_planners));
      }
