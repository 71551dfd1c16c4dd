use Rattle.std.specs.Prelude.{slice_index}
use Rattle.std.specs.List.{list_all}
use Rattle.std.proofs.Common.{[], ◌∷◌, ◌≡◌, true, arith, refl}
use Rattle.std.proofs.lemmas.List.Elements.{All-nil, All-cons}
use Rattle.plan_terms.specs.Belongs.{Belongs, IsReplicaList}
use Rattle.plan_terms.specs.Cluster.{is_known}
use Rattle.plan_terms.specs.declared.cluster.Part.{Part}
use Rattle.plan_terms.specs.Examples.{shared_rack}
use Rattle.plan_terms.specs.Faults.{IsCase, topics, case_fault, broken_limit, broker_repeat, part_repeat, leaders_repeat}
use Rattle.plan_terms.specs.Goal.{measure}
use Rattle.goal_terms.specs.Quantity.{quantity, total}
use Rattle.goal_terms.specs.PerBroker.{bound_excess}
use Rattle.goal_terms.specs.Heats.{bound_heat}
use Rattle.goal_terms.proofs.laws.goals_on_examples.Goals as goal

-- nothing is wrong with the cluster
case_good : IsCase shared_rack
unfolding topics case_fault broken_limit broker_repeat part_repeat leaders_repeat
case_good = record { faultless = refl; topics_once = refl; followers = All-cons (λ (p : Part). slice_index p.loads.follow 2 ≡ 0) _ [] refl (All-nil (λ (p : Part). slice_index p.loads.follow 2 ≡ 0)) }

-- nor with its list
lists_good : Belongs shared_rack ((0 ∷ 1 ∷ []) ∷ [])
lists_good = record {
  one_each = refl;
  lists_are = All-cons IsReplicaList (0 ∷ 1 ∷ []) [] (record { some = omega arith; few = omega arith; once = refl }) (All-nil IsReplicaList);
  known = All-cons (λ list. list_all (is_known shared_rack) list ≡ true) (0 ∷ 1 ∷ []) [] refl (All-nil (λ list. list_all (is_known shared_rack) list ≡ true));
}

pub returns : goal.returns
unfolding topics measure quantity total bound_excess bound_heat
returns c = record {
  case = case_good;
  lists = lists_good;
  most_none = refl;
  most_one = refl;
  capacity = refl;
  shares = refl;
  leaders = refl;
  near = refl;
  potential = refl;
  inbound = refl;
  lost = refl;
  demoted = refl;
  followed = refl;
  topics = refl;
  above = refl;
  below = refl;
  cold = refl;
  lost_is_cold = refl;
  other = refl;
  moved = refl;
  led = refl;
  swapped = refl;
}
