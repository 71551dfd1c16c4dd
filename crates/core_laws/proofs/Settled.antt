-- The settled lists belong to the cluster.
use Rattle.std.proofs.Common.{◌≡◌, ◌∙◌, ℕ, ◌<◌, true, List, [], length, refl}
use Rattle.std.specs.Prelude.{Option, Some, None}
use Rattle.std.specs.List.{list_all, position}
use Rattle.std.proofs.lemmas.List.Quantifiers.{position-Some}
use Rattle.plan_terms.specs.Belongs.{Belongs}
use Rattle.plan_terms.specs.Cluster.{Cluster, is_known}
use Rattle.exec_terms.specs.Machine.{State, no_task, task_at}
use Rattle.exec_terms.specs.Settled.{settled, settled_by, settled_in, settled_lists}
use Rattle.exec_terms.specs.Words.{is_on}
use Rattle.exec_terms.specs.declared.phase.Phase.{Phase}
use Rattle.exec_terms.specs.declared.phase.Phase.TheVariants.{Pending, InProgress, Aborting, Aborted, Completed, Dead}
use Rattle.exec_terms.proofs.Launch.{length-each_below, get_or-each_below}
use Rattle.exec_terms.proofs.ListLaws.{settled_lists_are_replica_lists}
use Rattle.core_terms.specs.Sound.{IsExecOf}

either : (c : Cluster) (p : Phase) (before after : List ℕ) → list_all (is_known c) before ≡ true → list_all (is_known c) after ≡ true → list_all (is_known c) (settled_in p before after) ≡ true
either c Pending before after b a = b
either c InProgress before after b a = b
either c Aborting before after b a = b
either c Aborted before after b a = b
either c Completed before after b a = a
either c Dead before after b a = b

pub settled_known : (c : Cluster) (s : State) (p : ℕ) → IsExecOf c s → p < length s.base → list_all (is_known c) (settled s p) ≡ true
settled_known c s p e l = by (position (is_on p) s.tasks) refl where
  by : (o : Option ℕ) → position (is_on p) s.tasks ≡ o → list_all (is_known c) (settled_by s p o) ≡ true
  by None q = e.base.known p [] l
  by (Some i) q =
      let m = (position-Some (is_on p) s.tasks i no_task q).0 in
      let t = e.valid.each i no_task m in
      either c (task_at s.tasks i).phase (task_at s.tasks i).before (task_at s.tasks i).after
      (rw t.before (e.base.known (task_at s.tasks i).part [] t.known)) (e.afters i no_task m).known

pub settled_belongs : (c : Cluster) (s : State) → IsExecOf c s → Belongs c (settled_lists s)
settled_belongs c s e = record {
  one_each = length-each_below (settled s) (length s.base) ∙ e.base.one_each;
  lists_are = settled_lists_are_replica_lists s e.valid;
  known = λ k d l.
      let m : k < length s.base = rw (length-each_below (settled s) (length s.base)) at l in
      rw (get_or-each_below (settled s) (length s.base) k d m) (settled_known c s k e m);
}
