-- What an action does to the lists.
use Rattle.std.specs.Prelude.{ℕ, ◌==◌, List, [], ◌∷◌, get_or, slice_set, if◌then◌else◌}
use Rattle.plan_terms.specs.Cluster.{Lists, list_of}
use Rattle.plan_terms.specs.declared.actions.Action.{Action}
use Rattle.plan_terms.specs.declared.actions.Action.TheVariants.{Move, Lead, Swap}

-- b stands in a's place
abbrev pub replace : ℕ → ℕ → List ℕ → List ℕ
replace a b [] = []
replace a b (x ∷ xs) = if x == a then b ∷ xs else x ∷ replace a b xs

-- b and the first member stand in each other's place
abbrev pub exchange_first : ℕ → List ℕ → List ℕ
exchange_first b [] = []
exchange_first b (x ∷ xs) = b ∷ replace b x xs

-- the first member and the one at place i stand in each other's place
abbrev pub exchange_at : ℕ → List ℕ → List ℕ
exchange_at i list = slice_set (slice_set list i (get_or list 0 0)) 0 (get_or list i 0)

-- the lists after an action
abbrev pub after : Action → Lists → Lists
after (Move p a b) lists = slice_set lists p (replace a b (list_of lists p))
after (Lead p b) lists = slice_set lists p (exchange_first b (list_of lists p))
after (Swap p a q b) lists = slice_set (slice_set lists p (replace a b (list_of lists p))) q (replace b a (list_of lists q))

-- the actions one after another
abbrev pub after_all : List Action → Lists → Lists
after_all [] lists = lists
after_all (a ∷ as') lists = after_all as' (after a lists)

-- the action that takes the lists after an action back to these
abbrev pub inverse : Lists → Action → Action
inverse lists (Move p a b) = Move p b a
inverse lists (Lead p b) = Lead p (get_or (list_of lists p) 0 0)
inverse lists (Swap p a q b) = Swap p b q a
