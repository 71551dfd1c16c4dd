use Rattle.std.proofs.Common.{◌≡◌, ◌∙◌, map}
use Rattle.cluster_json.specs.declared.partitions.FilePart.{FilePart}
use Rattle.cluster_json.specs.Samples.{place_of}
use Rattle.cluster_json.proofs.PlaceLemmas.{place_of-known}
use Rattle.cluster_json.proofs.places.Places.get.Goals as goal

pub returns-clause-value : goal.returns-clause-value
returns-clause-value c = c.copied.ensures ∙ c.get.ensures.value ∙ c.args.self.now.complete.each (c.args.topic, c.args.number)

pub returns-clause-known : goal.returns-clause-known
returns-clause-known c =
    let value : c.copied.result ≡ place_of (map (λ (p : FilePart). p.part) c.args.self.now.parts.now) c.args.topic.now c.args.number =
    c.copied.ensures ∙ c.get.ensures.value ∙ c.args.self.now.complete.each (c.args.topic, c.args.number) in
    rw value (place_of-known c.args.self.now.parts.now c.args.topic.now c.args.number)
