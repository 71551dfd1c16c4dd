-- The candidates, kind by kind.
use Rattle.std.specs.List.{All, filter, flat_map}
use Rattle.std.specs.Prelude.{List, if◌then◌else◌}
use Rattle.std.proofs.lemmas.List.{get_or-map, length-map}
use Rattle.std.proofs.Common.{◌≡◌, ℕ, ◌<◌, true, [], ◌∷◌, ◌++◌, arith, length, map, get_or, refl, ap, ◌∙◌, sym}
use Rattle.std.proofs.lemmas.List.Elements.{All-append, All-filter, filter_passes}
use Rattle.plan_terms.proofs.EffectLemmas.{fits-legal, targets_known-legal, fits-Move, fits-Lead, fits-Swap}
use Rattle.plan_terms.specs.Belongs.{Belongs}
use Rattle.plan_terms.specs.Cluster.{Cluster, Lists, list_of, leads, is_known, ids_of}
use Rattle.plan_terms.specs.Goal.{Meaning}
use Rattle.plan_terms.specs.Legal.{is_legal, candidates, all_actions, leads_of}
use Rattle.plan_terms.specs.Trace.{Step, NoneLeft}
use Rattle.plan_terms.specs.declared.cluster.Broker.{Broker}
use Rattle.plan_terms.specs.declared.actions.Action.{Action}
use Rattle.plan_terms.specs.declared.actions.Action.TheVariants.{Move, Lead, Swap}
use Rattle.goal_terms.specs.Pairs.{ColdPairs, giver, taker}
use Rattle.goal_terms.specs.declared.heat.Heat.{Heat}
use Rattle.goal_terms.specs.declared.heat.Heat.TheVariants.{Cold}
use Rattle.candidate_order.specs.CandidateList.{replicas_of, candidates_in, move_list, lead_list, swap_list, candidate_list}
use Rattle.candidate_order.specs.Laws.{MovesComeFirst}
use Rattle.candidate_order.specs.declared.kinds.Kind.TheVariants.{Leads}
use Rattle.candidate_order.proofs.Complete.{known-member}
use Rattle.candidate_order.proofs.Firsts.{IsFirst-in_front, IsFirst-passed, first-kept}
use Rattle.candidate_order.proofs.RowLemmas.{flat-filter, same-flat}
use Rattle.candidate_order.proofs.TurnLemmas.{known-place, lead-turns}

pub by_kind : (c : Cluster) (earlier : List Meaning) (target : Meaning) (lists : Lists) → MovesComeFirst c earlier target lists
unfolding candidate_list
by_kind c earlier target lists =
    let P = Step c earlier target lists in
    let moves = move_list c lists in
    let leads = lead_list c lists in
    let swaps = swap_list c lists in
    record {
      moves = λ a f. first-kept P (is_legal c lists) (moves ++ leads ++ swaps) a f.serves.legal (IsFirst-in_front P (moves ++ leads) swaps a (IsFirst-in_front P moves leads a f));
      leads = λ a m f. first-kept P (is_legal c lists) (moves ++ leads ++ swaps) a f.serves.legal (IsFirst-in_front P (moves ++ leads) swaps a (IsFirst-passed P moves leads a m f));
      swaps = λ a m l f. first-kept P (is_legal c lists) (moves ++ leads ++ swaps) a f.serves.legal (IsFirst-passed P (moves ++ leads) swaps a (All-append (λ x. P x → ⊥) moves leads m l) f);
      none = λ m l s. All-filter (is_legal c lists) (λ x. P x → ⊥) (moves ++ leads ++ swaps) (All-append (λ x. P x → ⊥) (moves ++ leads) swaps (All-append (λ x. P x → ⊥) moves leads m l) s);
    }

-- the leads of replicas that lead
pub leads-in : (c : Cluster) (lists : Lists) → candidates_in Leads c lists ≡ lead_list c lists
leads-in c lists = sym (same-flat
    (λ (x : Broker). flat_map (λ p. map (λ (y : Broker). Lead p y.id) c.brokers) (filter (λ p. leads (list_of lists p) x.id) (replicas_of c lists x.id)))
    (λ (x : Broker). flat_map (λ p. if leads (list_of lists p) x.id then leads_of c.brokers p else []) (replicas_of c lists x.id)) c.brokers
    (λ k d l. flat-filter (leads_of c.brokers) (λ p. leads (list_of lists p) (get_or c.brokers k d).id) (replicas_of c lists (get_or c.brokers k d).id)))

-- both brokers of a legal action are brokers of the cluster
known-pair : (c : Cluster) (lists : Lists) → Belongs c lists → (a : Action) → is_legal c lists a ≡ true → (is_known c (giver lists a) ≡ true) × (is_known c (taker a) ≡ true)
known-pair c lists h (Move p a b) l =
    let fit = fits-Move lists p a b (fits-legal c lists (Move p a b) l) in
    (known-member c lists h p a fit.source, targets_known-legal c lists (Move p a b) l)
known-pair c lists h (Lead p b) l =
    let fit = fits-Lead lists p b (fits-legal c lists (Lead p b) l) in
    (known-member c lists h p (get_or (list_of lists p) 0 0) (lead-turns lists p b (get_or (list_of lists p) 0 0) refl fit).had, known-member c lists h p b fit.member)
known-pair c lists h (Swap p a q b) l =
    let fit = fits-Swap lists p a q b (fits-legal c lists (Swap p a q b) l) in
    (known-member c lists h p a fit.source, known-member c lists h q b fit.target)

-- where all brokers are cold none is left
pub none-cold : (c : Cluster) (lists : Lists) → Belongs c lists → (m : Meaning) (hot : ℕ → Heat) → ColdPairs m hot lists → ((b : ℕ) → is_known c b ≡ true → hot b ≡ Cold)
    → (earlier : List Meaning) → NoneLeft c earlier m lists
unfolding all_actions
none-cold c lists h m hot cold all earlier = record {
  none = λ k a l.
      let legal = filter_passes (is_legal c lists) (candidates c.brokers (length lists)) k a l in
      let x = get_or (filter (is_legal c lists) (candidates c.brokers (length lists))) k a in
      let known = known-pair c lists h x legal in
      record { fails = λ _ less. cold.none x (fits-legal c lists x legal) (all (giver lists x) known.0) (all (taker x) known.1) less };
}

-- the heat of a broker, by the rows
pub cold-rows : {R : Type 0} (id : R → ℕ) (heat : R → Heat) (rows : List R) (c : Cluster) (hot : ℕ → Heat) → map id rows ≡ ids_of c.brokers
    → All (λ r. heat r ≡ hot (id r)) rows → All (λ r. heat r ≡ Cold) rows → (b : ℕ) → is_known c b ≡ true → hot b ≡ Cold
cold-rows id heat [] c hot e are cold b known =
    let k = known-place c.brokers b known in
    absurd (omega (arith, k.1, ap length e, length-map c.brokers (λ (x : Broker). x.id)))
cold-rows id heat (r ∷ rows) c hot e are cold b known =
    let k = known-place c.brokers b known in
    let l : k.0 < length (r ∷ rows) = omega (arith, k.1, ap length e, length-map (r ∷ rows) id, length-map c.brokers (λ (x : Broker). x.id)) in
    let same : id (get_or (r ∷ rows) k.0 r) ≡ b = sym (get_or-map id (r ∷ rows) k.0 r 0 l) ∙ ap (λ ids. get_or ids k.0 0) e ∙ k.2 in
    ap hot (sym same) ∙ sym (are k.0 r l) ∙ cold k.0 r l
