-- Workers, one beside another.
use Rattle.std.proofs.Common.{◌≡◌, ◌≤◌, ℕ, suc, List, [], ◌∷◌, ◌++◌, length, map, refl, ap, sym, ◌∙◌, subst, append_assoc, append-nil, arith}
use mathlib.Core.List.{IsPrefix}
use Rattle.cluster_json.specs.File.{Meaning}
use Rattle.core_terms.specs.declared.events.Event.{Event}
use Rattle.mover_rounds.specs.Made.{Copies}
use Rattle.mover_rounds.proofs.Prefixes.{prefix_self, prefix_trans}
use Rattle.mover_workers.specs.Callers.{HasGrown, IsLater, known_by_pass}
use Rattle.mover_workers.specs.Loops.{CallsNoAdmin, HasMoved, HasPlanned, IsLoopCause}
use Rattle.mover_workers.specs.declared.loops.LoopEnd.{LoopEnd}
use Rattle.turn_book.specs.Known.{HasJoined, IsCut, Known as PassView}
use Rattle.turn_book.specs.Rule.{ArePlaced}
use Rattle.live_service.specs.Workers.{AllSaw, AllTold, HasRun, HasRunAll, HasShares, Mover, Pass, Planner, shares_of}

saw_on : {O E : Type 0} (h g : List E) → IsPrefix h g → (ps : List (PassView O E)) → AllSaw h ps → AllSaw g ps
saw_on h g p [] a = tt
saw_on h g p (q ∷ ps) a = (prefix_trans q.seen h g a.0 p, saw_on h g p ps a.1)

told_on : {O E : Type 0} (m n : ℕ) → m ≤ n → (ps : List (PassView O E)) → AllTold m ps → AllTold n ps
told_on m n p [] a = tt
told_on m n p (q ∷ ps) a = (omega (arith, a.0, p), told_on m n p ps a.1)

mine_more : {E : Type 0} (a b c d e : List (ℕ × E)) → e ≡ c ++ d → c ≡ a ++ b → e ≡ a ++ (b ++ d)
mine_more a b c d e p q = p ∙ (ap (λ xs. xs ++ d) q ∙ append_assoc a b d)

-- no other pass yet
pub shares_none : {O E : Type 0} (v : PassView O E) → HasShares v v []
shares_none v = record { mine = sym (append-nil v.mine); saw = tt; longer = prefix_self v.seen; told = tt; last = omega arith }

-- one more, which was joined
pub shares_more : {O E : Type 0} (v u back w : PassView O E) (ps : List (PassView O E)) → HasJoined u back w → HasShares v u ps → HasShares v w (back ∷ ps)
shares_more v u back w ps joined h = record {
  mine = mine_more v.mine (shares_of ps) u.mine back.mine w.mine joined.mine h.mine;
  saw = (joined.longer.1, saw_on u.seen w.seen joined.longer.0 ps h.saw);
  longer = prefix_trans v.seen u.seen w.seen h.longer joined.longer.0;
  told = (omega (arith, joined.last), told_on u.last w.last (omega (arith, joined.last)) ps h.told);
  last = omega (arith, h.last, joined.last);
}

-- the front of shares has the entries that a pass had before it was split
pub shares_of_whole : {O E : Type 0} (v kept own w : PassView O E) (ps : List (PassView O E)) → IsCut v kept own → HasShares kept w ps → HasShares v w ps
shares_of_whole v kept own w ps cut h = record {
  mine = h.mine ∙ ap (λ xs. xs ++ shares_of ps) cut.mine.0;
  saw = h.saw;
  longer = subst (λ s. IsPrefix s w.seen) cut.seen.0 h.longer;
  told = h.told;
  last = omega (arith, h.last, cut.last.0);
}

-- a pass that is split, used on both sides, and joined again
pub later_joined : {O E : Type 0} (v kept own u back w : PassView O E) → IsCut v kept own → IsLater kept u → IsLater own back → HasJoined u back w → IsLater v w
later_joined v kept own u back w cut p q joined = record {
  seen = prefix_trans v.seen u.seen w.seen (subst (λ s. IsPrefix s u.seen) cut.seen.0 p.seen) joined.longer.0;
  mine = (let r = subst (λ s. IsPrefix s u.mine) cut.mine.0 p.mine in (r.0 ++ back.mine, sym (append_assoc v.mine r.0 back.mine) ∙ (ap (λ xs. xs ++ back.mine) r.1 ∙ sym joined.mine)));
  parts = omega (arith, joined.parts, p.parts, q.parts, cut.parts.0, cut.parts.1);
}

-- no mover yet, and no planner
pub run_alone : (Did : List Copies → List Copies → Pass → Pass → Type 0) (file : Meaning) (v w : Pass) (old new : List Copies) → Did old new v w → HasRun Did file v w old new [] 0
run_alone Did file v w old new d = record {
  begun = v;
  same = refl;
  over = w;
  others_old = old;
  others_new = new;
  did = d;
  movers = record { movers = []; are = tt; count_is = refl; old_are = refl; new_are = refl; ends_are = refl; shares = shares_none w };
}

pub run_all_alone : (Did : List Copies → List Copies → Pass → Pass → Type 0) (file : Meaning) (v w : Pass) (old new : List Copies) (ends : List LoopEnd) (movers : ℕ) → HasRun Did file v w old new ends movers → HasRunAll Did file v w old new ends [] movers 0
run_all_alone Did file v w old new ends movers r = record { between = w; run = r; planners = record { planners = []; are = tt; count_is = refl; ends_are = refl; shares = shares_none w } }

module _ (Did : List Copies → List Copies → Pass → Pass → Type 0) (file : Meaning) (v kept own u back w : Pass) (cut : IsCut v kept own) (joined : HasJoined u back w) (placed : ArePlaced back.seen back.mine) (grown : HasGrown own back) (end : LoopEnd) where
  -- one mover more
  pub run_more : (old new : List Copies) (k l : Copies) (ends : List LoopEnd) (n m : ℕ) → m ≡ suc n → HasRun Did file kept u old new ends n → HasMoved (known_by_pass file own) (known_by_pass file back) k l end → IsLoopCause (known_by_pass file own) (known_by_pass file back) end
      → HasRun Did file v w (k ∷ old) (l ∷ new) (end ∷ ends) m
  run_more old new k l ends n m e r moved cause =
      let one : Mover = record { given = own; back = back; old = k; new = l; end = end } in
      record {
        begun = r.begun;
        same = r.same ∙ cut.mine.0;
        over = r.over;
        others_old = r.others_old;
        others_new = r.others_new;
        did = r.did;
        movers = record {
          movers = one ∷ r.movers.movers;
          are = (record { fresh = cut.mine.1; grown = grown; placed = placed; moved = moved; cause = cause }, r.movers.are);
          count_is = ap suc r.movers.count_is ∙ sym e;
          old_are = ap (λ (xs : List Copies). k ∷ xs) r.movers.old_are;
          new_are = ap (λ (xs : List Copies). l ∷ xs) r.movers.new_are;
          ends_are = ap (λ (xs : List LoopEnd). end ∷ xs) r.movers.ends_are;
          shares = shares_more r.over u back w (map (λ (x : Mover). x.back) r.movers.movers) joined r.movers.shares;
        };
      }

  -- one planner more
  pub run_all_more : (old new : List Copies) (mover_ends ends : List LoopEnd) (movers n m : ℕ) → m ≡ suc n → HasRunAll Did file kept u old new mover_ends ends movers n → HasPlanned (known_by_pass file own) (known_by_pass file back) end → CallsNoAdmin end
      → HasRunAll Did file v w old new mover_ends (end ∷ ends) movers m
  run_all_more old new mover_ends ends movers n m e r planned no_admin =
      let one : Planner = record { given = own; back = back; end = end } in
      record {
        between = r.between;
        run = record {
          begun = r.run.begun;
          same = r.run.same ∙ cut.mine.0;
          over = r.run.over;
          others_old = r.run.others_old;
          others_new = r.run.others_new;
          did = r.run.did;
          movers = r.run.movers;
        };
        planners = record {
          planners = one ∷ r.planners.planners;
          are = (record { fresh = cut.mine.1; grown = grown; placed = placed; planned = planned; no_admin = no_admin }, r.planners.are);
          count_is = ap suc r.planners.count_is ∙ sym e;
          ends_are = ap (λ (xs : List LoopEnd). end ∷ xs) r.planners.ends_are;
          shares = shares_more r.between u back w (map (λ (x : Planner). x.back) r.planners.planners) joined r.planners.shares;
        };
      }
