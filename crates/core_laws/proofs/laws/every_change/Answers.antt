use Rattle.core_laws.proofs.Changed.{changed_lists_come}
use Rattle.core_laws.proofs.laws.every_change.Goals as goal

pub returns : goal.returns
returns c = changed_lists_come
