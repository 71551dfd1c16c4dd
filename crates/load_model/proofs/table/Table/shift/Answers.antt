use Rattle.std.proofs.Common.{arith}
use Rattle.plan_terms.specs.Cluster.{id_at}
use Rattle.load_model.proofs.Tabled.{put_on-below}
use Rattle.load_model.proofs.table.Table.shift.Goals as goal

pub change-requires-2-clause-fits : goal.change-requires-2-clause-fits
change-requires-2-clause-fits c = λ k l kind r.
    omega (
      arith,
      (c.change.ensures.each k l).each kind r,
      c.requires.fits k l kind r,
      put_on-below c.args.to (id_at c.args.case.now.brokers k) kind c.args.case.now c.args.part c.args.first c.parts-parts.ensures.case,
    )
