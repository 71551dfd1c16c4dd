-- Close, asked by an actor.
use Rattle.std.proofs.Common.{◌≡◌, zero, suc, Bool, true, false, not, ◌||◌, List, [], ◌∷◌, ◌++◌, refl, ap, sym, ◌∙◌, subst, arith, inl, inr}
use Rattle.std.specs.Prelude.{Result, Ok, Err, IfOk, IfErr}
use Rattle.std.specs.List.{list_any}
use Rattle.std.proofs.lemmas.List.Folds.{list_any-append}
use mathlib.Core.List.{IsPrefix}
use Rattle.cluster_json.specs.File.{Meaning}
use Rattle.core_laws.specs.Events.{ClosingWasAsked, is_close}
use Rattle.core_terms.specs.Faults.{IsWant, blame_of}
use Rattle.core_terms.specs.History.{is_outward, is_sure_after, reply_after, state_after}
use Rattle.core_terms.specs.declared.events.Event.{Event}
use Rattle.core_terms.specs.declared.events.Event.TheVariants as event
use Rattle.core_terms.specs.declared.faults.StepFault.{StepFault}
use Rattle.core_terms.specs.declared.faults.StepFault.TheVariants.{AdminFault, Memory}
use Rattle.core_terms.specs.declared.replies.Reply.{Reply}
use Rattle.turn_book.specs.Known.{HasActed, IsRefused, Known as PassView}
use Rattle.mover_workers.specs.Close.{IsClosed}

not_false : (b : Bool) → not b ≡ false → b ≡ true
not_false true e = refl
not_false false e = absurd (let h : true ≡ false = e in cc)

or_right : (b : Bool) → (b || true) ≡ true
or_right true = refl
or_right false = refl

-- Close stands in every longer history
pub any_in : (xs all : List Event) → IsPrefix xs all → list_any is_close xs ≡ true → list_any is_close all ≡ true
any_in xs all p e = subst (λ ys. list_any is_close ys ≡ true) p.1 (list_any-append is_close xs p.0 ∙ ap (λ b. b || list_any is_close p.0) e)

module _ (file : Meaning) (law : ClosingWasAsked) (v w : PassView Meaning Event) where
  refused : (f : StepFault) (back : Event) → IsRefused blame_of IsWant is_sure_after is_outward file v w event.Close (f, back) → IsClosed v w
  refused Memory back r = inr (record { longer = r.longer; mine = r.mine; last = r.kept refl; closed = law file w.seen (not_false (state_after file w.seen).desk.closing (r.unsure refl)) })
  refused (AdminFault zero) back r = absurd (r.want.0 refl)
  refused (AdminFault (suc n)) back r = absurd (let h : false ≡ true = r.outward_is (omega arith) in cc)

  pub closed_by : (r : Result Reply (StepFault × Event)) → IfOk r (HasActed reply_after file v w event.Close) → IfErr r (IsRefused blame_of IsWant is_sure_after is_outward file v w event.Close) → IsClosed v w
  closed_by (Ok y) a b = inl (record { before = v.seen ++ a.between; longer = (a.between, refl); mine = a.mine; seen = a.seen; last = a.last })
  closed_by (Err y) a b = refused y.0 y.1 b

-- Close was asked, whoever asked it
pub was_asked : (v w : PassView Meaning Event) → IsClosed v w → list_any is_close w.seen ≡ true
was_asked v w (inl h) = subst (λ ys. list_any is_close ys ≡ true) (sym h.seen) (list_any-append is_close h.before (event.Close ∷ []) ∙ or_right (list_any is_close h.before))
was_asked v w (inr h) = h.closed
