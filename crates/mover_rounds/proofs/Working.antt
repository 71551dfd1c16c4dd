-- The end of work, with the copier's copies.
use Rattle.std.proofs.Common.{◌≡◌, ℕ, ◌+◌, ◌≤◌, List, [], ◌∷◌, ◌++◌, Option, Some, None, Result, Ok, Err, refl, ap, sym, ◌∙◌, subst, IfOk, IfErr, append-nil, arith, inl, inr}
use Rattle.exec_terms.specs.declared.work.Work.TheVariants as work
use Rattle.exec_terms.specs.declared.replies.Given.{Given}
use Rattle.cluster_gate.specs.declared.copier.ChunkCopy.{ChunkCopy}
use Rattle.cluster_gate.specs.Copies.{with_copy}
use Rattle.cluster_gate.specs.Receipts.{ReceiptView}
use Rattle.core_terms.specs.declared.events.Event.{Event}
use Rattle.core_terms.specs.declared.events.Event.TheVariants as event
use Rattle.core_terms.specs.declared.replies.Reply.{Reply}
use Rattle.core_terms.specs.declared.replies.Reply.TheVariants as reply
use Rattle.mover_rounds.specs.Asked.{Rules, Entry, Known}
use Rattle.mover_rounds.specs.Rounds.{done, undone, IsEnd}
use Rattle.core_terms.specs.Ends.{Works, Ends, GivesBack}
use Rattle.mover_rounds.specs.Made.{Copies, copy_of, copies_of, failed_in, failures_of, with_copies, HasRisenBy, Added, IsReturned, Returned, Failed, HasEnded, HasWorked, standing_of}
use Rattle.core_terms.specs.declared.faults.StepFault.{StepFault}

pub ended_done : (v w : Known) (e : Event) (what : Reply) → Added v w e → Ends what e → HasEnded v w what done
ended_done v w e what a h = record { made = a.entry ∷ []; own = a.own; is = subst (λ x. Ends what x) (sym a.event_is) h; rules = a.rules; longer = a.longer }

pub end_back : (rules : Rules) (seen after : List Event) (what : Reply) (back : Event) (made : List Entry) → IsReturned rules seen after back made → GivesBack what back → IsEnd rules seen undone what after made
end_back rules seen after what back [] r h = record { back = back; gives_back = h; unsure = r }
end_back rules seen after what back (y ∷ []) r h = subst (λ x. GivesBack what x) (sym r.0) h
end_back rules seen after what back (y ∷ z ∷ zs) r h = r

pub quiet_back : (rules : Rules) (seen after : List Event) (lease : ℕ) (made : List Entry) → IsReturned rules seen after (event.GiveBack lease) made → (copies_of made ≡ []) × (failures_of made ≡ 0)
quiet_back rules seen after lease [] r = (refl, refl)
quiet_back rules seen after lease (y ∷ []) r = (ap (λ x. copy_of x ++ []) r.0, ap (λ x. failed_in x + 0) r.0)
quiet_back rules seen after lease (y ∷ z ∷ zs) r = absurd r

pub no_copies : (told : Option (List ChunkCopy)) → told ≡ with_copies told []
no_copies None = refl
no_copies (Some made) = ap Some (sym (append-nil made))

pub risen_none : (k l : ℕ) → k ≤ l → HasRisenBy 0 k l
risen_none k l h = omega arith

pub worked_back : (v w : Known) (g : Given) (k l : Copies) (r : Returned v w (event.GiveBack g.lease)) → l.made ≡ k.made → k.faults ≤ l.faults → HasWorked v w (reply.Work g) k l undone
worked_back v w g k l r same later =
    let q = quiet_back v.rules w.seen v.seen g.lease r.made r.is in
    record {
      ended = record { made = r.made; own = r.own; is = end_back v.rules w.seen v.seen (reply.Work g) (event.GiveBack g.lease) r.made r.is refl; rules = r.rules; longer = r.longer };
      copies = [];
      copied = same ∙ no_copies k.made;
      named = inl (sym q.0);
      failed = subst (λ n. HasRisenBy n k.faults l.faults) (sym q.1) (risen_none k.faults l.faults later);
    }

pub worked_plain : (v w : Known) (g : Given) (k l : Copies) (e : Event) (r : Result (Unit {0}) StepFault) → Works g e → copy_of e ≡ [] → l.made ≡ k.made → k.faults ≤ l.faults → HasRisenBy (failed_in e + 0) k.faults l.faults
    → IfOk r (λ _. Added v w e) → IfErr r (Failed v w e (event.GiveBack g.lease)) → HasWorked v w (reply.Work g) k l (standing_of r)
unfolding ended_done
worked_plain v w g k l e (Ok t) works none same later risen a f = record {
  ended = ended_done v w e (reply.Work g) a works;
  copies = [];
  copied = same ∙ no_copies k.made;
  named = sym (ap (λ x. copy_of x ++ []) a.event_is ∙ ap (λ x. x ++ []) none);
  failed = subst (λ x. HasRisenBy (failed_in x + 0) k.faults l.faults) (sym a.event_is) risen;
}
worked_plain v w g k l e (Err fault) works none same later risen a f =
    let q = quiet_back v.rules w.seen v.seen g.lease f.made f.is in
    record {
      ended = record { made = f.made; own = f.own; is = end_back v.rules w.seen v.seen (reply.Work g) (event.GiveBack g.lease) f.made f.is refl; rules = f.rules; longer = f.longer };
      copies = [];
      copied = same ∙ no_copies k.made;
      named = inl (sym q.0);
      failed = subst (λ n. HasRisenBy n k.faults l.faults) (sym q.1) (risen_none k.faults l.faults later);
    }

pub worked_copy : (v w : Known) (g : Given) (k l : Copies) (to chunk : ℕ) (x : ReceiptView) (r : Result (Unit {0}) StepFault) → g.work ≡ work.Copy to chunk
    → x ≡ record { lease = g.lease; part = g.part; to = to; chunk = chunk } → l.made ≡ with_copy k.made (record { part = g.part; to = to; chunk = chunk }) → k.faults ≤ l.faults
    → IfOk r (λ _. Added v w (event.Copied x)) → IfErr r (Failed v w (event.Copied x) (event.GiveBack g.lease)) → HasWorked v w (reply.Work g) k l (standing_of r)
unfolding ended_done
worked_copy v w g k l to chunk x (Ok t) work_is x_is made later a f = record {
  ended = ended_done v w (event.Copied x) (reply.Work g) a (work_is ∙ ap (λ (y : ReceiptView). work.Copy y.to y.chunk) (sym x_is), ap (λ (y : ReceiptView). y.lease) x_is, ap (λ (y : ReceiptView). y.part) x_is);
  copies = copy_of (event.Copied x);
  copied = made ∙ ap (λ (y : ReceiptView). with_copies k.made (copy_of (event.Copied y))) (sym x_is);
  named = sym (ap (λ y. copy_of y ++ []) a.event_is);
  failed = subst (λ y. HasRisenBy (failed_in y + 0) k.faults l.faults) (sym a.event_is) (risen_none k.faults l.faults later);
}
worked_copy v w g k l to chunk x (Err fault) work_is x_is made later a f =
    let q = quiet_back v.rules w.seen v.seen g.lease f.made f.is in
    record {
      ended = record { made = f.made; own = f.own; is = end_back v.rules w.seen v.seen (reply.Work g) (event.GiveBack g.lease) f.made f.is refl; rules = f.rules; longer = f.longer };
      copies = copy_of (event.Copied x);
      copied = made ∙ ap (λ (y : ReceiptView). with_copies k.made (copy_of (event.Copied y))) (sym x_is);
      named = inr (record {
        receipt = x;
        works = (work_is ∙ ap (λ (y : ReceiptView). work.Copy y.to y.chunk) (sym x_is), ap (λ (y : ReceiptView). y.lease) x_is, ap (λ (y : ReceiptView). y.part) x_is);
        copies_are = refl;
        unsure = f.unsure (f.kind refl);
      });
      failed = subst (λ n. HasRisenBy n k.faults l.faults) (sym q.1) (risen_none k.faults l.faults later);
    }

-- an event without a copy, while the copier rests
pub worked_still : (v w : Known) (g : Given) (k : Copies) (e : Event) (r : Result (Unit {0}) StepFault) → Works g e → copy_of e ≡ [] → failed_in e ≡ 0
    → IfOk r (λ _. Added v w e) → IfErr r (Failed v w e (event.GiveBack g.lease)) → HasWorked v w (reply.Work g) k k (standing_of r)
worked_still v w g k e r works none quiet a f = worked_plain v w g k k e r works none refl (omega arith) (subst (λ n. HasRisenBy (n + 0) k.faults k.faults) (sym quiet) (risen_none k.faults k.faults (omega arith))) a f
