use Rattle.std.proofs.Common.{◌∙◌, sym}
use Rattle.core_cases.specs.Index.{place_in}
use Rattle.core_cases.proofs.Indexed.{place-noted, none_is}
use Rattle.core_cases.proofs.index.note_place.Goals as goal

pub returns-in_ok-insert : goal.returns-in_ok-insert
returns-in_ok-insert c =
    place-noted (place_in c.args.places.now) (place_in c.insert.new.self) c.args.topic c.args.number c.args.place
    (none_is (place_in c.args.places.now c.args.topic c.args.number) (sym c.contains_key.ensures ∙ c.if-not-contains_key.true)) (λ t n. c.in_ok-insert.ensures.updates.0 (t, n))
