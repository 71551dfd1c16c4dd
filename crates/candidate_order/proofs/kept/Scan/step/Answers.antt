use Rattle.candidate_order.proofs.kept.Scan.step.Goals as goal

pub touch-requires-clause-rests : goal.touch-requires-clause-rests
touch-requires-clause-rests g c = rw c.note.ensures.rests c.requires.scan.rests_are

pub returns : goal.returns
returns g c = record {
  kept = record {
    weights_are = c.note.ensures.kept.weights_are;
    brokers_are = c.note.ensures.kept.brokers_are;
    rooms_are = c.note.ensures.kept.rooms_are;
  };
  rests = c.touch.ensures;
}
