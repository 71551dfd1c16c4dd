use Rattle.std.proofs.Common.{take, map}
use Rattle.plan_terms.specs.Load.{list_load}
use Rattle.load_model.specs.Amounts.{lead_at, follow_at}
use Rattle.load_model.specs.Tables.{IsChanged}
use Rattle.load_model.proofs.table.Row.add_places.Given as goal

abbrev pub invariant-loop-place : goal.invariant-loop-place
invariant-loop-place l =
    IsChanged l.case.parts (λ kind. 0) (λ kind. list_load (lead_at kind l.case.parts l.part) (follow_at kind l.case.parts l.part) 0 (take l.place (map (λ _. 0) l.list)))
    l.fn.self l.self
