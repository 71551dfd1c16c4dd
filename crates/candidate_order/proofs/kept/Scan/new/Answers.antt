use Rattle.candidate_order.proofs.kept.Scan.new.Goals as goal

pub returns : goal.returns
returns g c = record {
  kept = record {
    weights_are = c.in_ok-weights.ensures;
    brokers_are = c.in_ok-rows.ensures.brokers;
    rooms_are = λ k d l _ _. (c.in_ok-rows.ensures.rows k d l).rooms_are;
  };
  rests = c.in_ok-rests.ensures;
}
