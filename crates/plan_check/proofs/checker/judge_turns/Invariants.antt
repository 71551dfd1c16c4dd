use Rattle.std.proofs.Common.{◌≡◌}
use Rattle.plan_terms.specs.Belongs.{IsBookOf}
use Rattle.plan_check.specs.Judged.{IsGoodBefore, lists_at}
use Rattle.plan_check.proofs.checker.judge_turns.Given as goal

abbrev pub invariant-loop-place : goal.invariant-loop-place
invariant-loop-place g l = record {
  before : IsGoodBefore (record { case = l.case; start = l.start; goals = l.kinds; trace = l.trace }) l.place;
  lists_are : l.book.lists ≡ lists_at (record { case = l.case; start = l.start; goals = l.kinds; trace = l.trace }) l.place;
  belongs : IsBookOf l.case l.book;
}
