use Rattle.std.proofs.Common.{◌≡◌, map, length}
use Rattle.cluster_json.proofs.file.split.Given as goal

abbrev pub invariant-loop-file_part : goal.invariant-loop-file_part
invariant-loop-file_part l = record {
  parts : l.parts.items ≡ map (λ p. p.part) l.yielded;
  lists : map (λ list. list.items) l.lists.items ≡ map (λ p. p.replicas) l.yielded;
  with_load : l.with_load.items ≡ map (λ p. p.with_load) l.yielded;
  one_each : length l.lists.items ≡ length l.parts.items;
}
