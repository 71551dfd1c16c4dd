-- Replica lists stay replica lists when one is written.
use Rattle.std.proofs.Common.{◌≡◌, ℕ, ◌<◌, false, List, [], length, get_or, set, sym}
use Rattle.std.proofs.lemmas.List.{get_or_read, length-set}
use Rattle.std.proofs.lemmas.List.Elements.{All-set}
use Rattle.plan_terms.specs.Belongs.{IsAssignment, IsReplicaList}
use Rattle.plan_terms.specs.Cluster.{Lists, list_of, has}
use Rattle.plan_terms.specs.Effect.{exchange_at}
use Rattle.plan_terms.proofs.MemberLemmas.{IsReplicaList-set, IsReplicaList-exchange_at}

module _ (lists : Lists) (p i : ℕ) (old new : List ℕ) (h : IsAssignment lists) (l : p < length lists) (read : old ≡ get_or lists p old) where
  is_list : list_of lists p ≡ old
  is_list = sym (get_or_read lists p old l read [])

  old_good : IsReplicaList old
  old_good = rw is_list at (h.each p [] l)

  pub kept-put : (b : ℕ) → has (list_of lists p) b ≡ false → new ≡ set old i b → IsAssignment (set lists p new)
  kept-put b none is = record { count_is = rw length-set h.count_is; each = All-set IsReplicaList lists p new (rw is (IsReplicaList-set old i b old_good (rw is_list at none))) h.each }

  pub kept-exchange : i < length (list_of lists p) → new ≡ exchange_at i old → IsAssignment (set lists p new)
  kept-exchange within is = record { count_is = rw length-set h.count_is; each = All-set IsReplicaList lists p new (rw is (IsReplicaList-exchange_at old i old_good (rw is_list at within))) h.each }
