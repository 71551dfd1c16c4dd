-- What a request's call has made.
use Rattle.std.proofs.Common.{◌≡◌, ℕ, ◌+◌, false, [], ◌∷◌, ◌++◌, refl, sym, ◌∙◌, subst, append-nil, arith}
use Rattle.std.specs.Prelude.{Option, Some, None, IfSome, is_some}
use Rattle.core_terms.specs.Caps.{IsCap}
use Rattle.core_terms.specs.declared.events.Event.{Event}
use Rattle.mover_rounds.specs.Asked.{Known}
use Rattle.mover_rounds.specs.Made.{Copies, HasMade, HasRisenBy, failed_in}
use Rattle.mover_rounds.proofs.Prefixes.{prefix_twice}
use Rattle.mover_rounds.proofs.Working.{no_copies, risen_none}
use Rattle.rest_parse.specs.Calls.{meaning}
use Rattle.rest_parse.specs.Parameters.{IsCap as IsCapAsked}
use Rattle.rest_parse.specs.declared.calls.Call.{Call}
use Rattle.rest_parse.specs.declared.calls.Call.TheVariants as call
use Rattle.rest_stream.specs.declared.raw.RawRequest.{RawRequest}
use Rattle.rest_replies.specs.declared.told.Told.{Told}
use Rattle.rest_replies.specs.declared.told.Told.TheVariants as told
use Rattle.review_board.specs.Asked.{BoardKnown}
use Rattle.rest_session.specs.Calls.{HasDone, IsAskedOnce, IsCalled, IsInward, asked_by}
use Rattle.rest_session.specs.Reviewed.{HasCalled, IsCalledBy}
use Rattle.rest_session.specs.declared.calls.Asked.TheVariants as asked
use Rattle.rest_session.proofs.Making.{made_alone, made_so}

-- a cap that a request asks for is one
pub cap_asked : (o : Option ℕ) → IfSome o IsCapAsked → IfSome o IsCap
cap_asked None h = tt
cap_asked (Some n) h = record { some = h.0; few = h.1 }

pub once_is : (x y : Event) → asked.Once x ≡ asked.Once y → x ≡ y
once_is x y h = cc

-- no request calls what is outside, nor does one tell a copy to have failed
pub inward : (c : Call) → IsInward (asked_by c)
inward (call.Submit ask id) = (refl, refl)
inward (call.Stop force) = (refl, refl)
inward (call.Kill broker) = (refl, refl)
inward (call.Sample topic number time loads) = (refl, refl)
inward (call.Show query) = (refl, refl)
inward (call.Caps a b c) = (refl, refl)
inward (call.Pump steps) = tt
inward (call.Detect now alert heal) = tt

pub once_done : (v w : Known) (k : Copies) (e : Event) (t : Told) → failed_in e ≡ 0 → IsAskedOnce v w e t → HasDone v w k k (asked.Once e) t
once_done v w k e (told.Core r) quiet h = record {
  made = record { before = v.seen ++ h.between; event = e } ∷ [];
  copies = [];
  own = h.own;
  copied = no_copies k.made;
  is = ((record { before = v.seen ++ h.between; event = e }, refl, refl, sym h.replied), refl);
  failed = subst (λ n. HasRisenBy (n + 0) k.faults k.faults) (sym quiet) (risen_none k.faults k.faults (omega arith));
  rules = h.rules;
  longer = prefix_twice v.seen h.between (e ∷ []) w.seen h.seen;
}
once_done v w k e (told.Step f) quiet h = record {
  made = [];
  copies = [];
  own = h.1.own ∙ sym (append-nil v.own);
  copied = no_copies k.made;
  is = (h.0, (refl, refl));
  failed = risen_none k.faults k.faults (omega arith);
  rules = h.1.rules;
  longer = h.1.longer;
}
once_done v w k e _ quiet h = absurd h

-- without a board a request is called at once
pub called_at_once : (v w : Known) (x : Option BoardKnown) (k l : Copies) (raw : RawRequest) (t : Told) → is_some x ≡ false → HasMade (IsCalled v.rules w.seen (meaning raw) t) v w k l → HasCalled v w x x k l raw t
called_at_once v w None k l raw t none h =
    made_alone (λ n m c. IsCalledBy false v.rules w.seen raw t m c n) v w None k l
    (made_so (IsCalled v.rules w.seen (meaning raw) t) (λ m c. IsCalledBy false v.rules w.seen raw t m c []) v w k l (λ m c i. (i, refl)) h)
called_at_once v w (Some x) k l raw t none h = absurd cc
