use Rattle.plan_terms.proofs.LegalLemmas.{all_actions-legal}
use Rattle.plan_tests.proofs.scans.plain_next.Goals as goal

pub first_of-requires-clause-legal : goal.first_of-requires-clause-legal
first_of-requires-clause-legal g c =
    rw (c.deref.ensures.value, c.in_ok-actions.ensures, c.lists.ensures.value) (all_actions-legal c.args.case.now c.args.book.now.lists)
