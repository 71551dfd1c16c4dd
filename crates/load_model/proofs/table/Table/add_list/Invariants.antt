use Rattle.std.proofs.Common.{◌≡◌, ℕ, ◌<◌, [], take, length, get_or}
use Rattle.plan_terms.specs.Load.{list_load}
use Rattle.load_model.specs.Amounts.{lead_at, follow_at}
use Rattle.plan_terms.specs.Cluster.{id_at}
use Rattle.load_model.specs.Tables.{IsChanged}
use Rattle.load_model.proofs.table.Table.add_list.Given as goal

abbrev pub invariant-loop-place : goal.invariant-loop-place
invariant-loop-place l = record {
  one_each : length l.self ≡ length l.fn.self;
  each : (k : ℕ) → k < length l.case.brokers → IsChanged l.case.parts (λ kind. 0)
      (λ kind. list_load (lead_at kind l.case.parts l.part) (follow_at kind l.case.parts l.part) (id_at l.case.brokers k) (take l.place l.list))
      (get_or l.fn.self k []) (get_or l.self k []);
}
