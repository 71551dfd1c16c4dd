use Rattle.std.proofs.Common.{◌≡◌, map, take}
use Rattle.serde_json.specs.View.{view}
use Rattle.rest_replies.specs.Bodies.{row_data}
use Rattle.rest_replies.proofs.boards.row_values.Given as goal

abbrev pub invariant-loop-row : goal.invariant-loop-row
invariant-loop-row l = map view l.list.items ≡ map row_data (take l.row-index l.rows)
