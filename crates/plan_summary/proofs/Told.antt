-- The first lines and the goals' lines, as one text.
use Rattle.std.proofs.Common.{◌≡◌, ℕ, List, [], ◌∷◌, ◌++◌, append_assoc}
use Rattle.std.specs.Prelude.{codes, decimal}

planned_with : (digits rest : List ℕ) → codes "planned\nproposals " ++ (digits ++ 10 ∷ []) ++ rest ≡ codes "planned" ++ 10 ∷ (codes "proposals " ++ digits ++ 10 ∷ rest)
planned_with digits rest = simp append_assoc

pub planned_whole : (first rest : List ℕ) (n m : ℕ) → first ≡ codes "planned\nproposals " ++ (decimal n ++ 10 ∷ []) → n ≡ m
    → first ++ rest ≡ codes "planned" ++ 10 ∷ (codes "proposals " ++ decimal m ++ 10 ∷ rest)
planned_whole first rest n m is same = rw (is, same) (planned_with (decimal m) rest)

pub failed_whole : (first name rest : List ℕ) → first ≡ codes "failed " ++ (name ++ 10 ∷ codes "proposals 0\n")
    → first ++ rest ≡ codes "failed " ++ name ++ 10 ∷ (codes "proposals 0" ++ 10 ∷ rest)
failed_whole first name rest is = rw is (simp append_assoc)
