use Rattle.std.proofs.Common.{◌≡◌, ◌∙◌, false, vec_capacity, refl, ap, sym, subst}
use Rattle.std.specs.List.{list_any}
use Rattle.control_core.specs.Books.{BookView}
use Rattle.mover_rounds.specs.Made.{copier_of}
use Rattle.rest_session.specs.Heals.{is_heal}
use Rattle.rest_session.proofs.Spared.{heal_spared}
use Rattle.live_service.specs.Asked.{CrewAsked, crew_view}
use Rattle.live_service.specs.Fronts.{HasAnswered, IsFront}
use Rattle.live_service.specs.Live.{IsShared}
use Rattle.live_service.specs.Views.{FrontView, TeamView, link_of, told_of}
use Rattle.live_service.proofs.Sharing.{is_closed, is_late, is_risen}
use Rattle.live_service.proofs.Unclosed.{closes_once, drained_none, unhealed}
use Rattle.live_service.proofs.live.run_live_service.Goals as goal

pub settle-requires : goal.settle-requires
settle-requires g c =
    let r = c.in_ok-book.field-0 in
    let w = c.in_ok-book.ensures.shared in
    let crew : CrewAsked = crew_view c.args.crew in
    is_closed g.P.Gate.Admin.faults (HasAnswered c.args.book.file crew.serving w.board_given w.board_back (told_of c.args.team.front) (told_of r.team.front) r.end) c.args.book r.book c.args.team r.team crew.movers crew.planners w.shared

pub returns-clause-sound : goal.returns-clause-sound
returns-clause-sound g c = c.every_history.ensures.histories c.finish-drain.new.book.file c.finish-drain.new.book.journal c.entries-legal.ensures.input c.entries-legal.ensures.legal

pub returns-clause-shown : goal.returns-clause-shown
returns-clause-shown g c = c.every_history.ensures.lists c.finish-drain.new.book.file c.finish-drain.new.book.journal c.entries-legal.ensures.input c.entries-legal.ensures.legal

pub returns-clause-late : goal.returns-clause-late
returns-clause-late g c = λ number e. let cause = rw e at c.finish-drain.ensures.cause in is_late g.P.Gate.Admin.faults c.in_ok-book.field-0.book c.settle.new.self c.finish-drain.new.book c.settle.ensures c.finish-drain.ensures.since cause.1

pub returns-clause-live : goal.returns-clause-live
returns-clause-live g c =
    let r = c.in_ok-book.field-0 in
    let w = c.in_ok-book.ensures.shared in
    let crew : CrewAsked = crew_view c.args.crew in
    let view = copier_of g.P.Worker.Copier.copies g.P.Worker.Copier.faults in
    let link = link_of g.P.Console.Source.left g.P.Console.Sink.written g.P.Console.Source.faults g.P.Console.Sink.faults in
    let inside = c.team.inside in
    let old : FrontView = record { copier = view c.front.inside.copier; console = link c.front.inside.console; service = c.front.inside.service } in
    let front_is : old ≡ inside.front = c.front.view_is in
    let team_of : FrontView → TeamView = λ f. record { front = f; movers = inside.movers.items; mover_room = vec_capacity inside.movers; planners = inside.planners.items; planner_room = vec_capacity inside.planners } in
    let between_is : team_of old ≡ r.team = ap team_of front_is ∙ c.team.view_is in
    let settled : list_any is_heal r.book.journal ≡ false → list_any is_heal c.settle.new.self.journal ≡ false = λ none. subst (λ (b : BookView g.row.P-Gate.Denot). list_any is_heal b.journal ≡ false) (sym c.settle.ensures) none in
    record {
      board_given = w.board_given;
      board_back = w.board_back;
      board_is = w.board_is;
      unhealed = λ reviewed. drained_none is_heal heal_spared c.settle.new.self c.finish-drain.new.book (view c.front.inside.copier) (view c.finish-drain.new.copier) c.finish-drain.result
          (settled (unhealed g.P.Gate.Admin.faults crew.serving w.board_given w.board_back (told_of c.args.team.front) (told_of r.team.front) r.end c.args.book r.book c.args.team r.team crew.movers crew.planners w.shared (w.board_is.reviewed ∙ reviewed)))
          c.finish-drain.ensures.rounds;
      closed = r.book;
      between = team_of old;
      between_is = refl;
      shared = subst (λ (t : TeamView). IsShared g.P.Gate.Admin.faults (λ xs ys. IsFront (HasAnswered c.args.book.file crew.serving w.board_given w.board_back (told_of c.args.team.front) (told_of t.front) r.end xs ys)) c.args.book r.book c.args.team t crew.movers crew.planners) (sym between_is)
          (closes_once g.P.Gate.Admin.faults crew.serving w.board_given w.board_back (told_of c.args.team.front) (told_of r.team.front) r.end c.args.book r.book c.args.team r.team crew.movers crew.planners w.shared);
      settled = c.settle.new.self;
      settled_is = c.settle.ensures;
      behind = record {
        since = c.finish-drain.ensures.since;
        drained = c.finish-drain.ensures.rounds;
        cause = c.finish-drain.ensures.cause;
        risen = λ number e. let cause = rw e at c.finish-drain.ensures.cause in is_risen g.P.Gate.Admin.faults c.settle.new.self c.finish-drain.new.book c.finish-drain.ensures.since cause.1 (rw c.failures-few.ensures.value at c.failures-few.ensures.few);
      };
    }
