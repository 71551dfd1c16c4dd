-- The proposals of the jobs are of the file's partitions.
use Rattle.std.proofs.Common.{◌<◌, length}
use Rattle.std.specs.List.{All}
use Rattle.std.proofs.lemmas.List.{get_or_default}
use Rattle.cluster_json.specs.File.{Meaning}
use Rattle.core_terms.specs.State.{Desk, no_job}
use Rattle.core_terms.specs.Sound.{IsSound}

pub known_parts : (file : Meaning) (d : Desk) → IsSound file d → All (λ j. All (λ p. p.part < length file.cluster.parts) j.proposals) d.jobs
known_parts file d sound = λ k j l. rw (get_or_default d.jobs k j no_job l) (sound.jobs k l).parts
