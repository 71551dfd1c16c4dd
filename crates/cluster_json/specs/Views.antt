-- What was read, without where it lies in memory.
use Rattle.std.specs.Prelude.{ℕ, List, map, Option, option_map}
use Rattle.std.specs.Borrow.{Bor}
use Rattle.std.specs.HashMap.{HashMap}
use Rattle.std.specs.declared.hash.FoldHasher.{FoldHasher}
use Rattle.std.specs.declared.hash.BuildHasherDefault.{BuildHasherDefault}
use Rattle.cluster_json.specs.Capacities.{Owner, Entry}
use Rattle.cluster_json.specs.File.{FileMembers, Meaning}
use Rattle.cluster_json.specs.declared.file.ClusterFile.{ClusterFile}
use Rattle.cluster_json.specs.declared.file.FileMembers.{FileMembers as RustMembers}
use Rattle.cluster_json.specs.declared.leaders.Entry.{Entry as LeadersEntry}
use Rattle.plan_terms.specs.declared.cluster.MinLeaders.{MinLeaders}

-- the entries of a file, where it has them
abbrev pub entries_seen : Option (HashMap Owner (List ℕ) (BuildHasherDefault FoldHasher)) → Option (List Entry)
entries_seen = option_map (λ m. m.entries)

-- texts
abbrev pub texts_seen : List (Bor (List ℕ)) → List (List ℕ)
texts_seen = map (λ k. k.now)

-- an entry of the least leaders
abbrev pub entry_seen : LeadersEntry → MinLeaders
entry_seen e = record { topic = e.topic.now; leaders = e.leaders }

-- the members of a file
abbrev pub members_seen : RustMembers → FileMembers
members_seen m = record { brokers = m.brokers.items; parts = m.parts; config = m.config; samples = m.samples; min_leaders = m.min_leaders }

-- a file
abbrev pub file_seen : ClusterFile → Meaning
file_seen f = record {
  cluster = f.case;
  lists = f.lists;
  caps = f.caps;
  rules = f.rules;
  ratio = f.ratio;
  with_load = f.with_load.items;
  samples = f.samples.items;
}
