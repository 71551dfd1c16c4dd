-- What an asking tells of the end of a round.
use Rattle.std.proofs.Common.{◌≡◌, true, false, List, [], ◌∷◌, ◌++◌, Result, Ok, Err, refl, ap, sym, ◌∙◌, subst, IfOk, IfErr, append-nil}
use mathlib.Core.List.{IsPrefix}
use Rattle.core_terms.specs.History.{is_outward}
use Rattle.core_terms.specs.declared.events.Event.{Event}
use Rattle.core_terms.specs.declared.events.Event.TheVariants as event
use Rattle.core_terms.specs.declared.replies.Reply.{Reply}
use Rattle.cc_base.specs.Outside.{HasRisen}
use Rattle.mover_rounds.specs.Asked.{Rules, Entry, Known, HasAsked, IsUnasked, StaysUnfinished, gives_back}
use Rattle.mover_rounds.specs.Rounds.{Unsure}
use Rattle.mover_rounds.specs.Made.{Added, IsReturned, Returned, Failed, IsCause, until}
use Rattle.core_terms.specs.declared.faults.StepFault.{StepFault}
use Rattle.core_terms.specs.declared.faults.StepFault.TheVariants.{AdminFault, Memory}
use Rattle.mover_rounds.proofs.Prefixes.{prefix_self, prefix_trans, prefix_twice}

pub added_by : (v w : Known) (e : Event) (r : Reply) → HasAsked v w e r → Added v w e
added_by v w e r h = record {
  entry = record { before = v.seen ++ h.between; event = e };
  event_is = refl;
  behind = (h.between, refl);
  own = h.own;
  rules = h.rules;
  longer = prefix_twice v.seen h.between (e ∷ []) w.seen h.seen;
  blamed = h.blamed;
}

-- an event that found no memory was not sure after what was then seen
pub unsure_by : (v w : Known) (e : Event) → IsUnasked v w e Memory → Unsure v.rules v.seen w.seen e
unsure_by v w e u = record { history = w.seen; longer = u.longer; saw = prefix_self w.seen; unsure = ap (λ r. r.sure w.seen e) (sym u.rules) ∙ u.told.0 }

-- an event that calls nothing outside met want of memory
pub inward_is_memory : (v w : Known) (e : Event) (f : StepFault) → is_outward e ≡ false → IsUnasked v w e f → f ≡ Memory
inward_is_memory v w e (AdminFault n) inward u = absurd (let h : true ≡ false = sym u.told.0 ∙ inward in cc)
inward_is_memory v w e Memory inward u = refl

-- what gives back calls nothing outside
back_is_inward : (e : Event) → gives_back e ≡ true → is_outward e ≡ false
back_is_inward (event.GiveBack lease) h = refl
back_is_inward (event.PlanBack ticket) h = refl
back_is_inward _ h = absurd cc

pub returned : (v w : Known) (back : Event) (r : Result (Unit {0}) StepFault) → gives_back back ≡ true → IfOk r (λ _. Added v w back) → IfErr r (IsUnasked v w back) → Returned v w back
returned v w back (Ok t) gives a u = record { made = a.entry ∷ []; own = a.own; is = (a.event_is, a.behind); rules = a.rules; longer = a.longer; blamed = a.blamed }
returned v w back (Err (AdminFault n)) gives a u = absurd (let h : true ≡ false = sym u.told.0 ∙ back_is_inward back gives in cc)
returned v w back (Err Memory) gives a u = record { made = []; own = u.own ∙ sym (append-nil v.own); is = unsure_by v w back u; rules = u.rules; longer = u.longer; blamed = u.told.1 }

-- what was given back behind a longer history
pub returned_from : (rules : Rules) (seen from to : List Event) (back : Event) (made : List Entry) → IsPrefix from to → IsReturned rules seen to back made → IsReturned rules seen from back made
returned_from rules seen from to back [] p r = record { history = r.history; longer = prefix_trans from to r.history p r.longer; saw = r.saw; unsure = r.unsure }
returned_from rules seen from to back (y ∷ []) p r = (r.0, prefix_trans from to y.before p r.1)
returned_from rules seen from to back (y ∷ z ∷ zs) p r = r

cause_by : (v u w : Known) (e : Event) (f : StepFault) → IsUnasked v u e f → w.blamed ≡ u.blamed → StaysUnfinished u w → IsCause v w f
cause_by v u w e (AdminFault n) un b stays = (un.told.1 ∙ sym b, subst (λ x. HasRisen v.blamed x) (sym b) un.told.2, stays un.told.3)
cause_by v u w e Memory un b stays = b ∙ un.told.1

-- an event that was not taken
pub cause_unasked : (v w : Known) (e : Event) (f : StepFault) → IsUnasked v w e f → IsCause v w f
cause_unasked v w e f un = cause_by v w w e f un refl (λ h. h)

-- the cause of a call that another one ended with
pub cause_earlier : (v u w : Known) (f : StepFault) → u.blamed ≡ v.blamed → IsCause u w f → IsCause v w f
cause_earlier v u w (AdminFault n) b c = (c.0, subst (λ x. HasRisen x w.blamed) b c.1, c.2)
cause_earlier v u w Memory b c = c ∙ b

-- and of one behind an entry
pub cause_behind : (v u w : Known) (e : Event) (r : Reply) (f : StepFault) → HasAsked v u e r → IsCause u w f → IsCause v w f
cause_behind v u w e r f h c = cause_earlier v u w f h.blamed c

pub causes_behind : {F : Type 0} (v u w : Known) (e : Event) (r : Reply) (o : Result F StepFault) → HasAsked v u e r → IfErr o (IsCause u w) → IfErr o (IsCause v w)
causes_behind v u w e r (Ok x) h c = tt
causes_behind v u w e r (Err f) h c = cause_behind v u w e r f h c

until_returned : (rules : Rules) (seen from : List Event) (back : Event) (made : List Entry) → IsReturned rules seen from back made → IsPrefix from seen → IsPrefix from (until made seen)
until_returned rules seen from back [] r p = p
until_returned rules seen from back (y ∷ []) r p = r.1
until_returned rules seen from back (y ∷ z ∷ zs) r p = absurd r

unsure_of : (v u : Known) (t : List Event) (e : Event) (f : StepFault) → IsUnasked v u e f → IsPrefix u.seen t → f ≡ Memory → Unsure v.rules v.seen t e
unsure_of v u t e (AdminFault n) un p h = absurd cc
unsure_of v u t e Memory un p h = record { history = u.seen; longer = un.longer; saw = p; unsure = ap (λ r. r.sure u.seen e) (sym un.rules) ∙ un.told.0 }

pub failed_by : (v u w : Known) (e back : Event) (f : StepFault) → IsUnasked v u e f → Returned u w back → StaysUnfinished u w → Failed v w e back f
failed_by v u w e back f un r stays = record {
  made = r.made;
  own = r.own ∙ ap (λ xs. xs ++ r.made) un.own;
  is = returned_from v.rules w.seen v.seen u.seen back r.made un.longer (subst (λ x. IsReturned x w.seen u.seen back r.made) un.rules r.is);
  rules = r.rules ∙ un.rules;
  longer = prefix_trans v.seen u.seen w.seen un.longer r.longer;
  cause = cause_by v u w e f un r.blamed stays;
  unsure = unsure_of v u (until r.made w.seen) e f un (until_returned u.rules w.seen u.seen back r.made r.is r.longer);
  kind = λ inward. inward_is_memory v u e f inward un;
}
