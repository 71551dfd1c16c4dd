use Rattle.std.proofs.Common.{◌≡◌, map, take}
use Rattle.serde_json.specs.View.{view}
use Rattle.rest_replies.specs.Bodies.{part_data}
use Rattle.rest_replies.proofs.shows.part_values.Given as goal

abbrev pub invariant-loop-part : goal.invariant-loop-part
invariant-loop-part l = map view l.list.items ≡ map part_data (take l.part-index l.parts)
