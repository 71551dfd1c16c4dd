use Rattle.std.proofs.Common.{◌≡◌, ◌++◌, map, length, take, drop}
use Rattle.user_tasks.specs.Asks.{AskView}
use Rattle.core_terms.specs.Asked.{part_asked}
use Rattle.core_cases.specs.Excluded.{HasTopics}
use Rattle.core_cases.proofs.asked.ask_parts.Given as goal

abbrev pub invariant-loop-place : goal.invariant-loop-place
invariant-loop-place l = record {
  long : length l.case.parts ≡ length l.fn.case.parts;
  asked : (ask : AskView) → HasTopics l.excluded ask.excluded → l.case ≡ record l.fn.case { parts = map (part_asked ask) (take l.place l.fn.case.parts) ++ drop l.place l.fn.case.parts };
}
