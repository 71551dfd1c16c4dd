-- What is remembered of candidates that did not serve.
use Rattle.std.specs.Prelude.{◌≡◌, ℕ, Bool, true, false, ◌==◌, ◌<◌, ◌≤◌, ◌&&◌, ◌||◌, ◌↔◌, IsTrue, List, if◌then◌else◌}
use Rattle.std.specs.List.{All, flat_map}
use Rattle.plan_terms.specs.Belongs.{Belongs}
use Rattle.candidate_order.specs.CandidateList.{NoStep, candidates_at, replicas_of}
use Rattle.plan_terms.specs.Cluster.{Cluster, Lists, has}
use Rattle.plan_terms.specs.Effect.{after}
use Rattle.plan_terms.specs.Fits.{fits}
use Rattle.plan_terms.specs.Goal.{Meaning}
use Rattle.plan_terms.specs.Trace.{Step}
use Rattle.plan_terms.specs.declared.actions.Action.{Action}
use Rattle.plan_terms.specs.declared.actions.Action.TheVariants.{Move, Lead, Swap}
use Rattle.goal_terms.specs.Pairs.{giver, taker, touches}
use Rattle.goal_terms.specs.Verdicts.{AreApart, VerdictsStay}
use Rattle.candidate_order.specs.declared.kinds.Kind.{Kind}
use Rattle.candidate_order.specs.declared.kinds.Kind.TheVariants.{Moves, Leads, Swaps}

-- the kind of an action
abbrev pub kind_of : Action → Kind
kind_of (Move p a b) = Moves
kind_of (Lead p b) = Leads
kind_of (Swap p a q b) = Swaps

abbrev pub is_kind : Kind → Kind → Bool
is_kind Moves Moves = true
is_kind Leads Leads = true
is_kind Swaps Swaps = true
is_kind _ _ = false

-- when an action last touched each broker and each partition, and before what time the candidates of one kind of a broker were
-- found not to serve; times are numbers of actions
pub record Stamps : Type 0 where
  pub broker : ℕ → ℕ
  pub part : ℕ → ℕ
  pub row : Kind → ℕ → ℕ

-- none of the action's brokers and partitions was touched at that time or later
pub record IsUntouched (st : Stamps) (lists : Lists) (y : Action) (time : ℕ) : Type 0 where
  pub from : st.broker (giver lists y) < time
  pub to : st.broker (taker y) < time
  pub parts : (p : ℕ) → touches (λ q. q == p) y ≡ true → st.part p < time

-- no candidate serves that wasn't touched since its row was found without one
pub record AreExhausted (st : Stamps) (serves : Action → Type 0) (lists : Lists) : Type 0 where
  pub none : (y : Action) → IsUntouched st lists y (st.row (kind_of y) (giver lists y)) → serves y → ⊥

-- no row's time is later
pub record AreBefore (st : Stamps) (time : ℕ) : Type 0 where
  pub rows : (kind : Kind) (b : ℕ) → st.row kind b ≤ time

-- an action touches its brokers and partitions at a time
abbrev pub touched : Stamps → Lists → Action → ℕ → Stamps
touched st lists x time = record {
  broker = λ k. if (k == giver lists x) || (k == taker x) then time else st.broker k;
  part = λ p. if touches (λ q. q == p) x then time else st.part p;
  row = st.row;
}

-- the rows of some brokers are found without a serving candidate of one kind
abbrev pub passed : Stamps → Kind → List ℕ → ℕ → Stamps
passed st kind ids time = record {
  broker = st.broker;
  part = st.part;
  row = λ k b. if is_kind kind k && has ids b then time else st.row k b;
}

-- whether an action is a step is as it was after another that shares no broker and no partition with it
abbrev pub StepsStay : Type 0
StepsStay = (c : Cluster) (earlier : List Meaning) (goal : Meaning) (lists : Lists) (x y : Action)
    → All (λ g. VerdictsStay g lists) earlier → VerdictsStay goal lists → IsTrue (fits lists x) → AreApart lists x y
    → Step c earlier goal lists y ↔ Step c earlier goal (after x lists) y

-- what is exhausted stays so
pub record ExhaustedStay (c : Cluster) (earlier : List Meaning) (goal : Meaning) (lists : Lists) (st : Stamps) (time : ℕ) : Type 0 where
  pub before : AreBefore st time → (kind : Kind) (ids : List ℕ) → AreBefore (passed st kind ids time) time
  pub after : (x : Action) → All (λ g. VerdictsStay g lists) earlier → VerdictsStay goal lists → IsTrue (fits lists x) → AreBefore st time
      → AreExhausted st (Step c earlier goal lists) lists → AreExhausted (touched st lists x time) (Step c earlier goal (after x lists)) (after x lists)
  pub more : (kind : Kind) (ids : List ℕ) → ((y : Action) → kind_of y ≡ kind → has ids (giver lists y) ≡ true → Step c earlier goal lists y → ⊥)
      → AreExhausted st (Step c earlier goal lists) lists → AreExhausted (passed st kind ids time) (Step c earlier goal lists) lists

-- where none of the candidates for a broker's replicas is a step, no action of their kind that the broker gives by is one
abbrev pub RowsAreAll : Type 0
RowsAreAll = (c : Cluster) (earlier : List Meaning) (goal : Meaning) (lists : Lists) (kind : Kind) (b : ℕ) → Belongs c lists
    → NoStep c earlier goal lists (flat_map (candidates_at kind c lists b) (replicas_of c lists b))
    → (y : Action) → kind_of y ≡ kind → giver lists y ≡ b → Step c earlier goal lists y → ⊥
