use Rattle.std.proofs.Common.{refl}
use Rattle.plan_terms.specs.Goal.{measure}
use Rattle.plan_terms.specs.Legal.{is_legal, all_actions}
use Rattle.plan_terms.specs.Racks.{same_rack, rack_excess}
use Rattle.plan_terms.proofs.laws.definitions_on_examples.Goals as goal

pub returns : goal.returns
unfolding measure is_legal all_actions same_rack rack_excess
returns c = record {
  actions = refl;
  shared = refl;
  apart = refl;
  too_many = refl;
  off_lost = refl;
  off_lost_onto_new = refl;
  onto_new = refl;
  onto_old = refl;
  leader_load = refl;
  follower_load = refl;
  follower_potential = refl;
  follower_leads_nothing = refl;
  places = refl;
  first_places = refl;
  in_flight = refl;
}
