-- A loop that takes note of one task after another.
use Rattle.std.proofs.Common.{◌≡◌, ℕ, ◌+◌, ◌<◌, List, [], ◌∷◌, ◌++◌, map, set, take, drop, length, get_or, arith, sym, ap, ◌∙◌, append_assoc}
use Rattle.std.proofs.lemmas.List.{drop_more, map_more, set_at, length-map, length-take-le}
use Rattle.exec_terms.specs.declared.task.Task.{Task}

pub noted : {Y : Type 0} (f : Task → Y) (tasks : List Task) (old cur : List Y) (i : ℕ) (x : Task) (d : Y) → i < length tasks → length old ≡ length tasks → x ≡ get_or tasks i x
    → cur ≡ map f (take i tasks) ++ drop i old → set cur i (f x) ≡ map f (take (i + 1) tasks) ++ drop (i + 1) old
noted {Y} f tasks old cur i x d within same read e =
    ap (λ (ys : List Y). set ys i (f x)) (e ∙ ap (λ (ys : List Y). front ++ ys) (drop_more old i d (omega arith)))
    ∙ set_at front (get_or old i d) (drop (i + 1) old) (f x) i (length-map (take i tasks) f ∙ length-take-le i tasks (omega arith))
    ∙ sym (append_assoc front (f x ∷ []) (drop (i + 1) old))
    ∙ ap (λ (ys : List Y). ys ++ drop (i + 1) old) (ap (λ (y : Task). front ++ f y ∷ []) read ∙ sym (map_more f tasks i x within)) where
      front : List Y
      front = map f (take i tasks)
