-- Which words want a run with threads or a listener.
use Rattle.std.specs.Prelude.{ℕ, Bool, false, not, ◌&&◌, ◌||◌, List, [], ◌∷◌, bytes_eq, codes, eqb}
use Rattle.std.specs.List.{starts_with}

-- the next word is there and isn't `0`
abbrev pub next_is_another : List (List ℕ) → Bool
next_is_another [] = false
next_is_another (word ∷ words) = not (bytes_eq word (codes "0"))

-- the word is `--movers` and another word than `0` follows, or it begins with `--movers=` and goes on with anything but `0` alone
abbrev pub asks_movers : List ℕ → List (List ℕ) → Bool
asks_movers word words =
    (bytes_eq word (codes "--movers") && next_is_another words)
    || (starts_with eqb word (codes "--movers=") && not (bytes_eq word (codes "--movers=0")))

-- the same of `--planners`
abbrev pub asks_planners : List ℕ → List (List ℕ) → Bool
asks_planners word words =
    (bytes_eq word (codes "--planners") && next_is_another words)
    || (starts_with eqb word (codes "--planners=") && not (bytes_eq word (codes "--planners=0")))

-- one of the words asks for movers or planners
abbrev pub asks_workers : List (List ℕ) → Bool
asks_workers [] = false
asks_workers (word ∷ words) = (asks_movers word words || asks_planners word words) || asks_workers words

-- `serve`, or `session` with movers or planners
abbrev pub wants_live : List (List ℕ) → Bool
wants_live [] = false
wants_live (word ∷ words) = bytes_eq word (codes "serve") || (bytes_eq word (codes "session") && asks_workers words)
