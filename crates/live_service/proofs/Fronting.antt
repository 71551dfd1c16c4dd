-- A front's requests, and the Close behind them.
use Rattle.std.proofs.Common.{◌≡◌, ℕ, Bool, true, false, [], refl, sym, subst, arith}
use Rattle.std.specs.Prelude.{Ok, Err, Some, None, Option, Result}
use Rattle.cc_base.specs.Outside.{HasRisen, with_name}
use Rattle.cc_base.specs.declared.outside.Failed.{Failed}
use Rattle.mover_workers.specs.Callers.{CallerView, IsSince, known_by_caller, known_by_pass}
use Rattle.mover_workers.specs.Close.{IsClosed}
use Rattle.mover_workers.specs.Since.{since_on}
use Rattle.rest_session.specs.Answered as link
use Rattle.rest_session.specs.declared.session.LinkEnd.{LinkEnd}
use Rattle.turn_book.specs.Rule.{ArePlaced}
use Rattle.rest_session.specs.Heard.{SiteView, paged}
use Rattle.live_service.specs.Asked.{IsWhole, ServingAsked}
use Rattle.live_service.specs.Boards.{BoardCallerView, IsBoardCallerSince, board_seen}
use Rattle.live_service.specs.Fronts.{HasAccepted, HasAnsweredNet, HasServedNet, IsUnheard}
use Rattle.live_service.specs.Lanes.{HasServedAt, HasServedOn, IsNetEnd}
use Rattle.live_service.specs.Links.{HasLinkCause}
use Rattle.live_service.specs.Runs.{HasServed}
use Rattle.live_service.specs.Views.{FrontView, ServiceView, told_of}
use Rattle.live_service.specs.declared.front.FrontEnd.{FrontEnd}
use Rattle.live_service.specs.declared.front.FrontEnd.TheVariants as front
use Rattle.live_service.proofs.Gone.{board_once, by_turn, gone_on, gone_once}

module _ {A : Type 0} (b u c : CallerView A) (d e : BoardCallerView) (f g : FrontView) (since : IsSince u c) (closed : IsClosed u.pass c.pass) (placed : ArePlaced u.pass.seen u.pass.mine) where
  -- those of the console
  pub console_served : (end : LinkEnd) → IsSince b u → IsBoardCallerSince d e → link.HasServed (paged false) (known_by_caller b) (known_by_caller u) (board_seen d.reviews d.pass) (board_seen e.reviews e.pass) f.copier g.copier f.console.left f.console.written g.console.written end → HasLinkCause f.console g.console end
      → g.service ≡ f.service → f.service.served ≡ [] → HasServed None b c d e f g (front.Console end)
  console_served end before board_before answered cause same none = record {
    gone = gone_once b c (since_on b u c before since);
    board_gone = board_once d e board_before;
    did = record {
      served = u.pass;
      placed = placed;
      answered = rw same (
        record {
          grown = before.grown;
          board_grown = board_before.grown;
          answered = subst (λ (reviews : Bool). link.HasServed (paged false) (known_by_pass b.turn.start.file b.pass) (known_by_pass b.turn.start.file u.pass) (board_seen d.reviews d.pass) (board_seen reviews e.pass) f.copier g.copier f.console.left f.console.written g.console.written end) board_before.reviews
              (by_turn (λ v x. link.HasServed (paged false) v x (board_seen d.reviews d.pass) (board_seen e.reviews e.pass) f.copier g.copier f.console.left f.console.written g.console.written end) b.turn b u refl before answered);
          cause = cause;
          net = refl;
          no_lane = refl;
        },
        none,
        refl,
      );
      closed = closed;
    };
    back = rw same (record { copiers = refl; room = omega arith; places = omega arith; lane_room = omega arith });
  }

  net_served : (site : SiteView) (links : ℕ) (r : Result (Unit {0}) Failed) → HasAccepted site b u d e f.service g.service links r → g.copier ≡ f.copier → g.console ≡ f.console → HasServedNet b.turn.start.file site d e (told_of f) (told_of g) f.service.copiers g.service.copiers b.pass u.pass
  net_served site links r h copier console = record { served = h.served; faults = h.faults; copier = copier; console = console; no_lane = h.no_lane }

  -- those of links
  pub links_served : (asked : ServingAsked) → asked.forever ≡ false → HasAccepted (paged asked.page) b u d e f.service g.service asked.links (Ok tt) → g.service.net.heard ≡ with_name f.service.net.heard asked.address → g.copier ≡ f.copier → g.console ≡ f.console → HasServed (Some asked) b c d e f g front.Accepted
  links_served asked few h heard copier console = record {
    gone = gone_on b u c h.gone since;
    board_gone = h.board_gone;
    did = record { served = u.pass; placed = placed; answered = rw few (net_served (paged asked.page) asked.links (Ok tt) h copier console, record { count = h.whole; heard = heard }); closed = closed };
    back = h.back;
  }

  -- until a call of the listener failed
  pub links_failed : (asked : ServingAsked) (failed : Failed) → asked.forever ≡ false → HasAccepted (paged asked.page) b u d e f.service g.service asked.links (Err failed) → IsUnheard asked.address f.service.net g.service.net g.service.served → g.copier ≡ f.copier → g.console ≡ f.console → HasServed (Some asked) b c d e f g front.ListenerFault
  links_failed asked failed few h why copier console = record {
    gone = gone_on b u c h.gone since;
    board_gone = h.board_gone;
    did = record { served = u.pass; placed = placed; answered = rw few (net_served (paged asked.page) asked.links (Err failed) h copier console, record { most = h.most; why = why }); closed = closed };
    back = h.back;
  }

  -- those of any number of links
  pub all_served : (asked : ServingAsked) (end : FrontEnd) → asked.forever ≡ true → HasServedAt b u d e f.service g.service asked end → g.copier ≡ f.copier → g.console ≡ f.console → HasServed (Some asked) b c d e f g end
  all_served asked end on h copier console = record {
    gone = gone_on b u c h.gone since;
    board_gone = h.board_gone;
    did = record {
      served = u.pass;
      placed = placed;
      answered = subst (λ (forever : Bool). HasAnsweredNet forever b.turn.start.file asked d e (told_of f) (told_of g) end f.service.copiers g.service.copiers b.pass u.pass) (sym on)
          (record { served = h.served; faults = h.faults; accepted = h.accepted; copier = copier; console = console; none = h.none }, h.ended);
      closed = closed;
    };
    back = h.back;
  }
