use Rattle.std.proofs.Common.{◌≡◌, map, take}
use Rattle.std.specs.List.{All}
use Rattle.goal_set.specs.AnyMeaning.{any_made, any_meaning, kind_of}
use Rattle.goal_set.specs.Kinds.{meanings}
use Rattle.goal_set.proofs.any.goals_of.Given as goal

abbrev pub invariant-loop-kind : goal.invariant-loop-kind
invariant-loop-kind l = record {
  made : All (λ g. any_made g l.case) l.goals.items;
  kinds : map kind_of l.goals.items ≡ take l.kind-index l.kinds;
  meanings : map (λ g. any_meaning g l.case) l.goals.items ≡ meanings l.case (take l.kind-index l.kinds);
}
