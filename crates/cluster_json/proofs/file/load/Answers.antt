use Rattle.std.proofs.Common.{◌≡◌, ◌∙◌, ap, sym, length}
use Rattle.std.proofs.lemmas.List.{length-map}
use Rattle.plan_terms.specs.Cluster.{Cluster}
use Rattle.cluster_json.specs.declared.partitions.FilePart.{FilePart}
use Rattle.cluster_json.proofs.FileLemmas.{silent-map}
use Rattle.cluster_json.proofs.file.load.Goals as goal

pub case_of-requires : goal.case_of-requires
case_of-requires c = rw c.in_ok-columns.ensures.parts (silent-map c.args.members.parts c.requires.loads)

pub narrowed-requires-clause-known : goal.narrowed-requires-clause-known
narrowed-requires-clause-known c =
    let count : length c.parts.result.now ≡ length c.args.members.parts =
    ap length (c.parts.ensures.value ∙ ap (λ (k : Cluster). k.parts) c.in_ok-case.ensures.case ∙ c.in_ok-columns.ensures.parts)
    ∙ length-map c.args.members.parts (λ (p : FilePart). p.part) in
    rw count c.requires.samples

pub returns-clause-file : goal.returns-clause-file
returns-clause-file c =
    let count : length c.in_ok-case.case.parts ≡ length c.args.members.parts =
    ap length (ap (λ (k : Cluster). k.parts) c.in_ok-case.ensures.case ∙ c.in_ok-columns.ensures.parts)
    ∙ length-map c.args.members.parts (λ (p : FilePart). p.part) in
    record {
      belongs = c.in_ok-lists.ensures.belongs;
      caps = c.requires.caps;
      rules = c.requires.rules;
      share = c.requires.share;
      one_each = ap length c.in_ok-columns.ensures.with_load ∙ length-map c.args.members.parts (λ (p : FilePart). p.with_load) ∙ sym count;
      samples = rw (c.in_ok-samples.ensures, count) c.requires.samples;
    }
