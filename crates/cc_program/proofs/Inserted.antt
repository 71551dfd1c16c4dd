-- A copier that is taken out of a list, and put back.
use Rattle.std.proofs.Common.{◌≡◌, ◌<◌, ◌≤◌, ℕ, true, false, zero, suc, List, [], ◌∷◌, length, map, slice_index_or, refl, ap, sym, ◌∙◌, arith}
use Rattle.std.specs.List.{insert, remove}
use Rattle.std.specs.Prelude.{Option, Some, None, IfSome, IsSome}
use Rattle.cluster_json.specs.File.{Meaning}
use Rattle.control_core.specs.Books.{BookView}
use Rattle.live_service.specs.Asked as asked
use Rattle.live_service.specs.declared.links.Serving.{Serving}
use Rattle.cc_program.specs.Lives.{Gate, IsLeftFrom, IsOver, links_in}
use Rattle.cc_program.specs.Outside.{LeftView, OutsideView}
use Rattle.quiet_commands.specs.declared.ends.End.{End}

pub put_back : {X : Type 0} (xs : List X) (n : ℕ) (x : X) → n < length xs → x ≡ slice_index_or xs n x → xs ≡ insert (remove xs n) n x
put_back [] n x p v = absurd (omega (arith, p))
put_back (y ∷ xs) zero x p v = ap (λ (h : _). h ∷ xs) (sym v)
put_back (y ∷ xs) (suc n) x p v = ap (λ (t : List _). y ∷ t) (put_back xs n x (omega (arith, p)) v)

pub removed_length : {X : Type 0} (xs : List X) (n : ℕ) → n < length xs → length xs ≤ suc (length (remove xs n))
removed_length [] n p = absurd (omega (arith, p))
removed_length (y ∷ xs) zero p = omega arith
removed_length (y ∷ xs) (suc n) p =
    let less = removed_length xs n (omega (arith, p)) in
    let same : length (remove (y ∷ xs) (suc n)) ≡ suc (length (remove xs n)) = refl in
    omega (arith, less, same)

map_insert : {X Y : Type 0} (f : X → Y) (xs : List X) (n : ℕ) (x : X) → map f (insert xs n x) ≡ insert (map f xs) n (f x)
map_insert f xs zero x = refl
map_insert f [] (suc n) x = refl
map_insert f (y ∷ xs) (suc n) x = ap (λ (t : List _). f y ∷ t) (map_insert f xs n x)

pub taken_out : {X Y : Type 0} (f : X → Y) (xs ys : List X) (n : ℕ) (x : X) → n < length xs → x ≡ slice_index_or xs n x → ys ≡ remove xs n → map f xs ≡ insert (map f ys) n (f x)
taken_out {X} {Y} f xs ys n x p v r = ap (map f) (put_back xs n x p v) ∙ (ap (λ (t : List X). map f (insert t n x)) (sym r) ∙ map_insert f ys n x)

pub put_in : {X Y : Type 0} (f : X → Y) (xs ys : List X) (n : ℕ) (x : X) → ys ≡ insert xs n x → map f ys ≡ insert (map f xs) n (f x)
put_in f xs ys n x e = ap (map f) e ∙ map_insert f xs n x

-- a book that was begun
pub left_begun : {A : Type 0} (gate : Gate A) (m : Meaning) (crew : asked.CrewAsked) (o : OutsideView) (admin : A) (l : LeftView A) (book : Option (BookView A)) (end : End)
    → IsSome book → IfSome book (λ c. IsOver gate (gate.faults admin) m crew o l c end) → IsLeftFrom gate m crew o admin l book end
left_begun gate m crew o admin l None end is over = absurd (let h : false ≡ true = is in cc)
left_begun gate m crew o admin l (Some c) end is over = over

-- links, as a value of the program and as the words ask for them
pub links_counted : (s : Option Serving) → asked.links_of s ≡ links_in (asked.serving_view s)
links_counted None = refl
links_counted (Some s) = refl
