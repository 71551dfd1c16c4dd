use Rattle.std.proofs.Common.{rules, ◌≡◌, ◌∙◌, ℕ, ◌+◌, Bool, ◌||◌, List, map, ap, sym, subst, refl, inl, inr}
use Rattle.std.specs.List.{insert, list_any}
use Rattle.cluster_json.specs.File.{Meaning}
use Rattle.control_core.specs.Books.{state_of}
use Rattle.core_terms.specs.Sound.{IsSound}
use Rattle.live_service.specs.Links.{out_of_memory}
use Rattle.live_service.specs.Views.{LaneView, LinkView, NetView, ServedView, lane_of, link_of, net_of}
use Rattle.live_service.specs.declared.service.Lane.{Lane}
use Rattle.live_service.specs.declared.service.Served.{Served}
use Rattle.load_model.proofs.Listed.{list_any-map}
use Rattle.mover_rounds.specs.Made.{Copies}
use Rattle.live_service.specs.Asked.{crew_view}
use Rattle.cc_program.specs.Lives.{any_want, copiers_before, ended_live, is_lane_want, is_loop_want, is_want}
use Rattle.cc_program.specs.Outside.{OutsideView}
use Rattle.cc_program.proofs.Inserted.{links_counted}
use Rattle.cc_program.proofs.lives.live.Goals as goal

abbrev outside_of : List Copies → LinkView → NetView → OutsideView
outside_of copiers console net = record { copiers = copiers; console = console; net = net }

pub returns-in-Ok-clause-over : goal.returns-in-Ok-clause-over
returns-in-Ok-clause-over g c = λ outside h.
    let live = c.in-Ok.live in
    let crew = crew_view c.args.crew in
    let at_is : c.copiers_before-at.result ≡ copiers_before crew = c.copiers_before-at.ensures ∙ ap (λ (n : ℕ). c.args.crew.movers + n) (links_counted c.args.crew.serving) in
    let served : Served g.row.N-Conn.Denot → ServedView = λ x. record { link = link_of g.N.Conn.Source.left g.N.Conn.Sink.written g.N.Conn.Source.faults g.N.Conn.Sink.faults x.link; end = x.end } in
    let inside = c.left.inside in
    let loops : Bool = list_any is_loop_want inside.movers.items || list_any is_loop_want inside.planners.items in
    let lane : Lane g.row.N.Denot → LaneView = λ x. lane_of (net_of g.N.Listener.faults g.N.Listener.accepted g.N.Listener.heard) x.listener x.failed x.wants in
    let lanes : Bool = list_any (λ (x : Lane g.row.N.Denot). x.wants) inside.lanes.items in
    let want : c.any_want-want.result ≡ ((list_any (λ (x : Served g.row.N-Conn.Denot). out_of_memory x.end) inside.links.items || lanes) || loops) = rw (c.deref.ensures.value, c.deref-in-Ok.ensures.value, c.deref-in-Ok-2.ensures.value, c.deref-in-Ok-3.ensures.value) at c.any_want-want.ensures in
    let linked : (list_any (λ (x : Served g.row.N-Conn.Denot). out_of_memory x.end) inside.links.items || lanes) ≡ (list_any is_want (map served inside.links.items) || list_any is_lane_want (map lane inside.lanes.items)) =
    ap (λ (b : Bool). b || lanes) (sym (list_any-map is_want served inside.links.items)) ∙ ap (λ (b : Bool). list_any is_want (map served inside.links.items) || b) (sym (list_any-map is_lane_want lane inside.lanes.items)) in
    let want_is : c.any_want-want.result ≡ any_want c.left_of-left.result = rw (← c.left.view_is) (want ∙ ap (λ (b : Bool). b || loops) linked) in
    let end_is : c.ended_live.result ≡ ended_live live.end (any_want c.left_of-left.result) live.drain = c.ended_live.ensures ∙ ap (λ (b : Bool). ended_live live.end b live.drain) want_is in
    rw c.left_of-left.ensures (inr (
      live.end,
      live.drain,
      refl,
      rw c.left_of-left.ensures at end_is,
      record {
        b = c.args.book;
        opening = c.requires.opened;
        begun = refl;
        given = c.args.team;
        given_is = h;
        back = live.team;
        back_is = record {
          team = record { copiers = ap (λ (n : ℕ). insert live.team.front.service.copiers n live.team.front.copier) at_is; console = refl; net = refl };
          links = refl;
          lanes = refl;
          movers = refl;
          planners = refl;
        };
        board = c.in-Ok.live.board;
        board_is = c.board_left-board.ensures;
        live = c.in-Ok.ensures.live;
        legal = c.in-Ok.ensures.legal;
        lists = c.in-Ok.ensures.lists;
        sound = subst (λ (m : Meaning). IsSound m (state_of live.book).desk) c.in-Ok.ensures.file c.in-Ok.ensures.sound;
        shown = c.in-Ok.ensures.shown;
        drained = c.in-Ok.ensures.drained;
        late = c.in-Ok.ensures.late;
      },
    ))

pub returns-in-Err-clause-over : goal.returns-in-Err-clause-over
returns-in-Err-clause-over g c = λ outside h.
    let back = c.in-Err.ensures.handed_back in
    let front = c.args.team.front in
    let crew = crew_view c.args.crew in
    let at_is : c.copiers_before-at.result ≡ copiers_before crew = c.copiers_before-at.ensures ∙ ap (λ (n : ℕ). c.args.crew.movers + n) (links_counted c.args.crew.serving) in
    let copiers : insert front.service.copiers c.copiers_before-at.result front.copier ≡ outside.copiers = ap (λ (n : ℕ). insert front.service.copiers n front.copier) at_is ∙ sym h.copiers in
    let same = ap (λ (k : List Copies). outside_of k front.console front.service.net) copiers ∙ (ap (λ (x : LinkView). outside_of outside.copiers x front.service.net) (sym h.console) ∙ ap (λ (x : NetView). outside_of outside.copiers outside.console x) (sym h.net)) in
    rw c.left_of-left-in-Err.ensures (rw (back.0, back.1) (inl (
      refl,
      record {
        opening = c.requires.opened;
        begun = refl;
        lists = c.entries-lists.ensures.lists;
        idle = record { outside = same; links = c.requires.ready.none; lanes = c.requires.ready.no_lane; movers = c.requires.ready.no_mover; planners = c.requires.ready.no_planner; board = refl; drain = refl };
      },
    )))
