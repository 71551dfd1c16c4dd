use Rattle.std.proofs.Common.{◌≡◌, ◌∙◌, ◌≤◌, true, false, sym, arith, inl, inr}
use Rattle.std.proofs.lemmas.Bool.{cases_lt}
use Rattle.std.proofs.lemmas.List.{get_or_read}
use Rattle.task_planner.specs.Groups.{is_open, no_group}
use Rattle.task_planner.specs.Queue.{fits_slot, slot_at}
use Rattle.task_planner.proofs.Grouped.{closed-none}
use Rattle.task_planner.proofs.queue.first_of.Goals as goal
use Rattle.task_planner.proofs.queue.first_of.Goals.{then-is_open, else-is_open}

pub first_fitting-best-requires-clause-group : goal.first_fitting-best-requires-clause-group
first_fitting-best-requires-clause-group c =
    rw (← get_or_read c.args.groups.now c.loop-group.group-index c.group-item.result c.loop-group-test.true c.group-item.is no_group) at (c.requires.each c.loop-group.group-index)

pub loop-group-preserved : goal.loop-group-preserved
loop-group-preserved c =
    let here = get_or_read c.args.groups.now c.loop-group.group-index c.group-item.result c.loop-group-test.true c.group-item.is no_group in
    elim c.if-is_open.branch [
      | then-is_open w ↦ rw w.best-is (record {
        within = omega (arith, w.first_fitting-best.ensures.within, c.loop-group.invariant.within);
        fits = λ l. elim (cases_lt w.first_fitting-best.result c.loop-group.best) as (λ _. fits_slot c.args.caps.now c.args.counts.now c.args.may_lead (slot_at c.args.slots.now w.first_fitting-best.result) ≡ true) [
          | inl m ↦ w.first_fitting-best.ensures.fits m
          | inr m ↦ let e : w.first_fitting-best.result ≡ c.loop-group.best = omega (arith, w.first_fitting-best.ensures.within) in rw e (c.loop-group.invariant.fits (rw e at l))
        ];
        least = λ g i l p fit. elim (cases_lt g c.loop-group.group-index) as (λ _. w.first_fitting-best.result ≤ i) [
          | inl m ↦ omega (arith, w.first_fitting-best.ensures.within, c.loop-group.invariant.least g i m p fit)
          | inr m ↦ let e : g ≡ c.loop-group.group-index = omega arith in w.first_fitting-best.ensures.least i (rw (e, ← here) at p) fit
        ];
      })
      | else-is_open w ↦ rw w.best-is (record {
        within = c.loop-group.invariant.within;
        fits = c.loop-group.invariant.fits;
        least = λ g i l p fit. elim (cases_lt g c.loop-group.group-index) as (λ _. c.loop-group.best ≤ i) [
          | inl m ↦ c.loop-group.invariant.least g i m p fit
          | inr m ↦
              let e : g ≡ c.loop-group.group-index = omega arith in
              let group = rw (← here) at (c.requires.each c.loop-group.group-index) in
              let shut : is_open c.args.caps.now c.args.counts.now c.args.may_lead c.group-item.result.key ≡ false = rw c.key.ensures at (sym c.is_open.ensures ∙ w.if-is_open.false) in
              absurd (closed-none c.args.caps.now c.args.counts.now c.args.may_lead c.args.slots.now c.group-item.result group shut i (rw (e, ← here) at p) fit)
        ];
      })
    ]

pub returns-clause-least : goal.returns-clause-least
returns-clause-least c = λ i at fit. c.loop-group.invariant.least at.group i (omega (arith, at.known, c.loop-group-test.false)) at.listed fit
