use Rattle.std.proofs.Common.{rules, ◌≡◌, Some, sym, ◌∙◌}
use mathlib.Core.Option.{some-injective}
use Rattle.turn_book.proofs.Sharing.{closes, closes_as}
use Rattle.turn_book.proofs.table.BookTable.close.Goals as goal

pub unwrap-requires : goal.unwrap-requires
unwrap-requires g c =
    let J = g.B.Journaled in
    let out = closes J.opening J.journal J.blamed J.since c.args.self.inner.shared.key.value c.args.place.table_id _ _ _ c.args.place.me.0 c.close_with-closed.ensures.values.2 c.requires.parts c.requires.own.idle.free in
    let is : c.take-slot.result ≡ Some out.0 = some-injective _ _ (sym c.take-slot.ensures.value ∙ out.1) in
    search rules

pub returns : goal.returns
returns g c =
    let J = g.B.Journaled in
    closes_as J.opening J.journal J.blamed J.since c.args.self.inner.shared.key.value c.args.place.table_id _ _ _ c.args.place.me.0 c.take-slot.result c.unwrap.result c.close_with-closed.ensures.values.2 c.requires.parts c.requires.own.idle.free c.take-slot.ensures.value c.unwrap.ensures
