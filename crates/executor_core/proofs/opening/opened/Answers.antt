use Rattle.executor_core.proofs.Brokers.{few_chunks, ids_once, members_known, lost_known}
use Rattle.executor_core.proofs.opening.opened.Goals as goal

pub new-requires-clause-few : goal.new-requires-clause-few
new-requires-clause-few c = rw (c.deref.ensures.value, c.in_ok-chunks.ensures, c.parts.ensures.value) (few_chunks c.args.case.now c.parts.ensures.case)

pub new-requires-clause-distinct : goal.new-requires-clause-distinct
new-requires-clause-distinct c = rw (c.deref-2.ensures.value, c.in_ok-brokers.ensures, c.brokers.ensures.value) (ids_once c.args.case.now c.brokers.ensures.case)

pub new-requires-clause-members : goal.new-requires-clause-members
new-requires-clause-members c = rw (c.deref-2.ensures.value, c.in_ok-brokers.ensures, c.brokers.ensures.value) (members_known c.args.case.now c.args.lists.now c.requires.lists.known)

pub new-requires-clause-dead : goal.new-requires-clause-dead
new-requires-clause-dead c = rw (c.deref-2.ensures.value, c.in_ok-brokers.ensures, c.brokers.ensures.value, c.deref-3.ensures.value, c.in_ok-dead.ensures, c.brokers-2.ensures.value) (lost_known c.args.case.now.brokers)
