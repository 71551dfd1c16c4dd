use Rattle.std.proofs.Common.{arith}
use Rattle.load_model.specs.Tables.{all_at}
use Rattle.load_model.proofs.Sums.{Short-assignment, amount-below, amount-few}
use Rattle.load_model.proofs.Together.{Short-all, amount-all}
use Rattle.load_model.proofs.book.LoadBook.total.Goals as goal

pub returns : goal.returns
returns c =
    let each = c.self.invariant.totals_are.each c.args.kind (rw (← c.self.view_is) at c.requires) in
    let short = Short-all c.self.inside.lists (Short-assignment c.self.inside.lists c.lists-assignment.ensures.assignment) in
    let words = amount-all c.args.kind c.self.inside.case.parts c.self.inside.lists in
    rw (← c.self.view_is) (record {
      value = omega (arith, c.total.ensures, each, words);
      small = omega (arith, c.total.ensures, each, amount-below c.args.kind c.self.inside.case 0 (all_at 0 c.self.inside.lists) c.parts-parts.ensures.case short);
      few = λ one. omega (arith, c.total.ensures, each, amount-few c.args.kind c.self.inside.case 0 (all_at 0 c.self.inside.lists) c.parts-parts.ensures.case short one);
    })
