use Rattle.std.proofs.Common.{arith}
use Rattle.load_model.proofs.Together.{IsChanged-place, blank-below}
use Rattle.load_model.proofs.table.Row.add_places.Goals as goal

pub change-requires-clause-fits : goal.change-requires-clause-fits
change-requires-clause-fits c = λ kind r.
    omega (
      arith,
      c.loop-place.invariant.each kind r,
      c.requires.fits kind r,
      blank-below kind c.args.case.now c.args.part c.loop-place.place c.args.list.now c.parts-parts.ensures.case c.requires.short,
    )

pub loop-place-preserved : goal.loop-place-preserved
loop-place-preserved c = IsChanged-place c.args.case.now.parts c.args.part c.loop-place.place c.args.list.now _ _ _ c.loop-place-test.true c.loop-place.invariant c.change.ensures
