use Rattle.std.proofs.Common.{rules, ◌≡◌, ◌∙◌, ◌+◌, ◌<◌, ◌≤◌, ℕ, vec_capacity, suc, List, ap, length, map, refl, arith}
use Rattle.std.proofs.lemmas.List.{length-map}
use Rattle.std.specs.List.{insert, remove}
use Rattle.mover_rounds.specs.Made.{Copies, copier_of}
use Rattle.live_service.specs.Asked.{crew_view}
use Rattle.cc_program.specs.Lives.{copiers_before}
use Rattle.cc_program.proofs.Inserted.{links_counted, removed_length, taken_out}
use Rattle.cc_program.proofs.lives.team_of.Goals as goal

pub returns-clause-team : goal.returns-clause-team
returns-clause-team g c =
    let view = copier_of g.K.Copier.copies g.K.Copier.faults in
    let all = c.outside.inside.copiers.items in
    let rest = c.remove-copier.new.self.items in
    let own = c.remove-copier.result in
    let at = c.copiers_before.result in
    let crew = crew_view c.args.crew.now in
    let at_is : at ≡ copiers_before crew = c.copiers_before.ensures ∙ ap (λ (n : ℕ). c.args.crew.now.movers + n) (links_counted c.args.crew.now.serving) in
    let enough : copiers_before crew < length (map view all) = rw (← c.outside.view_is) at c.requires.enough in
    let within : at < length all = omega (arith, at_is, enough, length-map all view) in
    let taken : map view all ≡ insert (map view rest) (copiers_before crew) (view own) = taken_out view all rest at own within c.remove-copier.ensures.value c.remove-copier.ensures.items ∙ ap (λ (n : ℕ). insert (map view rest) n (view own)) at_is in
    rw (← c.outside.view_is) record { copiers = taken; console = refl; net = refl }

few_links : (planners movers links : ℕ) → planners + (movers + links) < 1048576 → links < 1048576
few_links planners movers links few = omega (arith, few)

enough_left : {X Y : Type 0} (f : X → Y) (all rest : List X) (at n : ℕ) → n < length (map f all) → at ≡ n → rest ≡ remove all at → n ≤ length (map f rest)
enough_left f all rest at n enough same left =
    let less : length all ≤ suc (length rest) = rw left (removed_length all at (omega (arith, same, enough, length-map all f))) in
    omega (arith, enough, less, length-map all f, length-map rest f)

still_fits : {X Y : Type 0} (f : X → Y) (rest : List X) (room : ℕ) → length rest ≤ room → length (map f rest) ≤ room
still_fits f rest room fits = omega (arith, fits, length-map rest f)

pub returns-clause-ready : goal.returns-clause-ready
returns-clause-ready g c =
    let view = copier_of g.K.Copier.copies g.K.Copier.faults in
    let all = c.outside.inside.copiers.items in
    let rest = c.remove-copier.new.self in
    let crew = c.args.crew.now in
    let counted = links_counted crew.serving in
    let enough : copiers_before (crew_view crew) < length (map view all) = rw (← c.outside.view_is) at c.requires.enough in
    let at_is : c.copiers_before.result ≡ copiers_before (crew_view crew) = c.copiers_before.ensures ∙ ap (λ (n : ℕ). crew.movers + n) counted in
    let fits : length rest.items ≤ vec_capacity rest = search rules in
    record {
      copiers = rw counted (enough_left view all rest.items c.copiers_before.result (copiers_before (crew_view crew)) enough at_is c.remove-copier.ensures.items);
      room = still_fits view rest.items (vec_capacity rest) fits;
      parts = rw counted c.requires.few;
      board_parts = rw counted (few_links crew.planners crew.movers _ c.requires.few);
      none = search rules;
      places = search rules;
      no_lane = search rules;
      lane_room = search rules;
      no_mover = search rules;
      mover_room = search rules;
      no_planner = search rules;
      planner_room = search rules;
    }
