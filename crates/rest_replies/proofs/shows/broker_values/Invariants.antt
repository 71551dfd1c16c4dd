use Rattle.std.proofs.Common.{◌≡◌, map, take}
use Rattle.serde_json.specs.View.{view}
use Rattle.rest_replies.specs.Bodies.{broker_data}
use Rattle.rest_replies.proofs.shows.broker_values.Given as goal

abbrev pub invariant-loop-broker : goal.invariant-loop-broker
invariant-loop-broker l = map view l.list.items ≡ map broker_data (take l.broker-index l.brokers)
