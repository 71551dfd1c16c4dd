use Rattle.std.proofs.Common.{◌∙◌, arith, take}
use Rattle.std.proofs.lemmas.List.{length-take}
use Rattle.plan_terms.specs.Cluster.{id_at}
use Rattle.load_model.proofs.Sums.{list-below}
use Rattle.load_model.proofs.Tabled.{IsChanged-more}
use Rattle.load_model.proofs.table.Table.add_list.Goals as goal

pub change-requires-clause-fits : goal.change-requires-clause-fits
change-requires-clause-fits c = λ k l kind r.
    omega (
      arith,
      (c.loop-place.invariant.each k l).each kind r,
      c.requires.fits k l kind r,
      list-below kind c.args.case.now c.args.part (id_at c.args.case.now.brokers k) (take c.loop-place.place c.args.list.now) c.parts-parts.ensures.case
          (omega (arith, length-take c.loop-place.place c.args.list.now, c.requires.short)),
    )

pub loop-place-preserved : goal.loop-place-preserved
loop-place-preserved c = record {
  one_each = c.change.ensures.one_each ∙ c.loop-place.invariant.one_each;
  each = λ k l.
      IsChanged-more c.args.case.now.parts c.args.part (id_at c.args.case.now.brokers k) c.loop-place.place c.args.list.now _ _ _ c.loop-place-test.true (c.loop-place.invariant.each k l) (c.change.ensures.each k l);
}
