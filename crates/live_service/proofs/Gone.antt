-- Callers of one turn, after a while.
use Rattle.std.proofs.Common.{◌≡◌, ◌∙◌, sym, refl, subst}
use Rattle.control_core.specs.Books.{BookView}
use Rattle.mover_rounds.specs.Asked.{Known}
use Rattle.mover_rounds.proofs.Prefixes.{prefix_self, prefix_trans}
use Rattle.mover_workers.specs.Callers.{CallerView, HasGrown, IsLater, IsSince, known_by_caller, known_by_pass}
use Rattle.mover_workers.proofs.Placing.{by_pass}
use Rattle.turn_book.specs.Known.{HasJoined, IsCut, Known as PassView, Made}
use Rattle.live_service.specs.Boards.{BoardCallerView, HasBoardGoneOn, IsBoardCallerSince}
use Rattle.live_service.specs.Workers.{HasGoneOn}
use Rattle.live_service.proofs.Crews.{later_joined}

pub later_grown : {O E : Type 0} (v w : PassView O E) → HasGrown v w → IsLater v w
later_grown v w h = record { seen = h.seen; mine = (h.added, sym h.mine); parts = h.parts }

pub gone_same : {A : Type 0} (b : CallerView A) → HasGoneOn b b
gone_same b = record { turn = refl; later = record { seen = prefix_self b.pass.seen; mine = prefix_self b.pass.mine; parts = refl } }

pub gone_once : {A : Type 0} (b c : CallerView A) → IsSince b c → HasGoneOn b c
gone_once b c s = record { turn = s.turn; later = later_grown b.pass c.pass s.grown }

later_on : {O E : Type 0} (v u w : PassView O E) → IsLater v u → IsLater u w → IsLater v w
later_on v u w p q = record { seen = prefix_trans v.seen u.seen w.seen p.seen q.seen; mine = prefix_trans v.mine u.mine w.mine p.mine q.mine; parts = q.parts ∙ p.parts }

-- a caller that joined others, and then none
pub gone_on : {A : Type 0} (b u c : CallerView A) → HasGoneOn b u → IsSince u c → HasGoneOn b c
gone_on b u c p s = record { turn = s.turn ∙ p.turn; later = later_on b.pass u.pass c.pass p.later (later_grown u.pass c.pass s.grown) }

pub gone_joined : {A : Type 0} (v kept own u back w : CallerView A) → kept.turn ≡ v.turn → IsCut v.pass kept.pass own.pass → HasGoneOn kept u → IsSince own back → w.turn ≡ u.turn → HasJoined u.pass back.pass w.pass → HasGoneOn v w
gone_joined v kept own u back w t cut p q e joined = record {
  turn = e ∙ (p.turn ∙ t);
  later = later_joined v.pass kept.pass own.pass u.pass back.pass w.pass cut p.later (later_grown own.pass back.pass q.grown) joined;
}

-- the same of a board's caller
pub board_same : (b : BoardCallerView) → HasBoardGoneOn b b
board_same b = record { turn = refl; reviews = refl; later = record { seen = prefix_self b.pass.seen; mine = prefix_self b.pass.mine; parts = refl } }

pub board_once : (b c : BoardCallerView) → IsBoardCallerSince b c → HasBoardGoneOn b c
board_once b c s = record { turn = s.turn; reviews = s.reviews; later = later_grown b.pass c.pass s.grown }

pub board_joined : (v kept own u back w : BoardCallerView) → kept.turn ≡ v.turn → kept.reviews ≡ v.reviews → IsCut v.pass kept.pass own.pass → HasBoardGoneOn kept u → IsBoardCallerSince own back → w.turn ≡ u.turn → w.reviews ≡ u.reviews → HasJoined u.pass back.pass w.pass → HasBoardGoneOn v w
board_joined v kept own u back w t r cut p q e f joined = record {
  turn = e ∙ (p.turn ∙ t);
  reviews = f ∙ (p.reviews ∙ r);
  later = later_joined v.pass kept.pass own.pass u.pass back.pass w.pass cut p.later (later_grown own.pass back.pass q.grown) joined;
}

-- what is known of a caller is known by its pass and the file of its turn
pub by_turn : {A : Type 0} (P : Known → Known → Type 0) (turn : Made (BookView A)) (b c : CallerView A) → b.turn ≡ turn → IsSince b c → P (known_by_caller b) (known_by_caller c) → P (known_by_pass turn.start.file b.pass) (known_by_pass turn.start.file c.pass)
by_turn P turn b c t s h = by_pass P turn b c b.pass c.pass t refl s refl h
