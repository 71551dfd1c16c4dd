use Rattle.std.proofs.Common.{◌∙◌, ◌&&◌, ◌==◌, cond, Some, None, hash_map_len, sym, ap}
use Rattle.std.specs.Option.{option_or}
use Rattle.core_cases.specs.Index.{number_in, place_in}
use Rattle.core_cases.proofs.Indexed.{place-more}
use Rattle.core_cases.proofs.index.PartIndex.note.Goals as goal

pub returns : goal.returns
returns c = λ parts e h.
    place-more parts c.args.part.now (number_in c.number_topic.new.numbers) (place_in c.args.self.now.places) (place_in c.note_place.new.places) (hash_map_len c.number_topic.new.numbers) c.in_ok-topic.topic
    (ap (number_in c.number_topic.new.numbers) (sym c.as_str.ensures) ∙ c.in_ok-topic.ensures.named)
    (λ t n. c.in_ok-note_place.ensures t n ∙ ap (λ k. option_or (place_in c.args.self.now.places t n) (cond ((c.in_ok-topic.topic == t) && (c.args.part.now.number == n)) (Some k) None)) (sym e))
    (c.in_ok-topic.ensures.kept parts (place_in c.args.self.now.places) h)
