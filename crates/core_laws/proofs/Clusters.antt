-- The cluster of a request has the brokers and the partitions of the file.
use Rattle.std.proofs.Common.{◌≡◌, ◌∙◌, ℕ, Bool, true, false, not, cond, ◌||◌, List, [], ◌∷◌, map, length, get_or, refl, sym, ap, suc}
use Rattle.std.specs.Prelude.{◌==◌, Option, Some}
use Rattle.std.specs.List.{list_all}
use Rattle.std.specs.Option.{option_map_or}
use Rattle.std.proofs.lemmas.Bool.{eqb-true, false≢true}
use Rattle.std.proofs.lemmas.List.{length-map}
use Rattle.std.proofs.Math.Path.{fun_ext}
use Rattle.plan_terms.specs.Belongs.{Belongs}
use Rattle.plan_terms.specs.Cluster.{Cluster, Lists, has, is_known, broker_of}
use Rattle.plan_terms.specs.Legal.{is_live, is_lost}
use Rattle.plan_terms.specs.States.{is_dead}
use Rattle.plan_terms.specs.declared.cluster.Broker.{Broker}
use Rattle.plan_terms.specs.declared.cluster.Loads.{Loads}
use Rattle.plan_terms.specs.declared.cluster.Part.{Part}
use Rattle.plan_terms.specs.declared.settings.Sample.{Sample}
use Rattle.cluster_json.specs.File.{Meaning}
use Rattle.exec_terms.specs.Stops.{has_died}
use Rattle.exec_terms.specs.declared.brokers.Host.{Host}
use Rattle.user_tasks.specs.Asks.{AskView}
use Rattle.core_terms.specs.Asked.{broker_asked, part_asked, state_for, case_of}
use Rattle.core_terms.specs.Input.{loaded_from, loaded_parts}
use Rattle.core_terms.specs.State.{broker_now, present}
use Rattle.core_laws.proofs.Brokers.{ids, is_known-has}

-- the same brokers by id, and as many partitions
pub record SameShape (c d : Cluster) : Type 0 where
  pub ids_are : ids c.brokers ≡ ids d.brokers
  pub parts_are : length c.parts ≡ length d.parts

pub known_same : (c d : Cluster) (b : ℕ) → SameShape c d → is_known c b ≡ is_known d b
known_same c d b h = is_known-has c.brokers b ∙ ap (λ (bs : List ℕ). has bs b) h.ids_are ∙ sym (is_known-has d.brokers b)

pub known_lists_same : (c d : Cluster) (list : List ℕ) → SameShape c d → list_all (is_known c) list ≡ list_all (is_known d) list
known_lists_same c d list h = ap (λ (p : ℕ → Bool). list_all p list) (fun_ext (λ (n : ℕ). known_same c d n h))

pub belongs_same : (c d : Cluster) (lists : Lists) → SameShape c d → Belongs c lists → Belongs d lists
belongs_same c d lists h b = record {
  one_each = b.one_each ∙ h.parts_are;
  lists_are = b.lists_are;
  known = λ k x l. sym (known_lists_same c d (get_or lists k x) h) ∙ b.known k x l;
}

pub shape_back : (c d : Cluster) → SameShape c d → SameShape d c
shape_back c d h = record { ids_are = sym h.ids_are; parts_are = sym h.parts_are }

ids-map : (f : Broker → Broker) → ((b : Broker) → (f b).id ≡ b.id) → (bs : List Broker) → ids (map f bs) ≡ ids bs
ids-map f h [] = refl
ids-map f h (b ∷ bs) = ap (λ (n : ℕ). n ∷ ids (map f bs)) (h b) ∙ ap (λ (ns : List ℕ). b.id ∷ ns) (ids-map f h bs)

length-loaded : (loads : ℕ → Option Loads) (i : ℕ) (ps : List Part) → length (loaded_from loads i ps) ≡ length ps
length-loaded loads i [] = refl
length-loaded loads i (p ∷ ps) = ap suc (length-loaded loads (suc i) ps)

-- whatever has died and was measured
pub shape_present : (file : Meaning) (hosts : List Host) (samples : List Sample) → SameShape (present file hosts samples) file.cluster
unfolding present loaded_parts
shape_present file hosts samples = record {
  ids_are = ids-map (broker_now hosts) (λ b. refl) file.cluster.brokers;
  parts_are = length-loaded _ 0 file.cluster.parts;
}

-- a broker that died doesn't live in the present cluster
died_in : (hosts : List Host) (bs : List Broker) (b : ℕ) → has_died hosts b ≡ true → option_map_or (λ (x : Broker). not (is_dead x.state)) (broker_of (map (broker_now hosts) bs) b) false ≡ false
died_in hosts [] b died = refl
died_in hosts (x ∷ xs) b died = by (x.id == b) refl (died_in hosts xs b died) where
  by : (c : Bool) → (x.id == b) ≡ c → option_map_or (λ (y : Broker). not (is_dead y.state)) (broker_of (map (broker_now hosts) xs) b) false ≡ false
      → option_map_or (λ (y : Broker). not (is_dead y.state)) (cond c (Some (broker_now hosts x)) (broker_of (map (broker_now hosts) xs) b)) false ≡ false
  by true e more = let here : has_died hosts x.id ≡ true = rw (eqb-true x.id b e) died in rw here refl
  by false e more = more

pub died_lives_not : (file : Meaning) (hosts : List Host) (samples : List Sample) (b : ℕ) → has_died hosts b ≡ true → is_live (present file hosts samples) b ≡ false
unfolding present
died_lives_not file hosts samples b died = died_in hosts file.cluster.brokers b died

-- whatever is asked, and whatever has died and was measured
pub shape_case : (file : Meaning) (hosts : List Host) (samples : List Sample) (ask : AskView) → SameShape (case_of ask (present file hosts samples)) file.cluster
unfolding case_of present loaded_parts
shape_case file hosts samples ask = record {
  ids_are = ids-map (broker_asked ask) (λ b. refl) (map (broker_now hosts) file.cluster.brokers) ∙ ids-map (broker_now hosts) (λ b. refl) file.cluster.brokers;
  parts_are = length-map (loaded_from _ 0 file.cluster.parts) (part_asked ask) ∙ length-loaded _ 0 file.cluster.parts;
}

dead_asked : (hosts : List Host) (ask : AskView) (x : Broker) → has_died hosts x.id ≡ true → is_dead (state_for ask (broker_now hosts x)) ≡ true
dead_asked hosts ask x h = rw h refl

-- a broker that died is lost in the cluster of each request
lost_in : (hosts : List Host) (ask : AskView) (bs : List Broker) (b : ℕ) → has_died hosts b ≡ true → has (ids bs) b ≡ true
    → option_map_or (λ (x : Broker). is_dead x.state) (broker_of (map (broker_asked ask) (map (broker_now hosts) bs)) b) false ≡ true
lost_in hosts ask [] b died known = absurd (false≢true known)
lost_in hosts ask (x ∷ xs) b died known = by (x.id == b) refl known (lost_in hosts ask xs b died) where
  by : (c : Bool) → (x.id == b) ≡ c → (c || has (ids xs) b) ≡ true
      → (has (ids xs) b ≡ true → option_map_or (λ (y : Broker). is_dead y.state) (broker_of (map (broker_asked ask) (map (broker_now hosts) xs)) b) false ≡ true)
      → option_map_or (λ (y : Broker). is_dead y.state) (cond c (Some (broker_asked ask (broker_now hosts x))) (broker_of (map (broker_asked ask) (map (broker_now hosts) xs)) b)) false ≡ true
  by true e k more = dead_asked hosts ask x (rw (eqb-true x.id b e) died)
  by false e k more = more k

pub died_is_lost : (file : Meaning) (hosts : List Host) (samples : List Sample) (ask : AskView) (b : ℕ) → has_died hosts b ≡ true → has (ids file.cluster.brokers) b ≡ true
    → is_lost (case_of ask (present file hosts samples)) b ≡ true
unfolding case_of present
died_is_lost file hosts samples ask b died known = lost_in hosts ask file.cluster.brokers b died known
