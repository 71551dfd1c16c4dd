-- A read behind one that gave nothing.
use Rattle.std.proofs.Common.{◌≡◌, ℕ, List, Ok, Err, refl, ◌∙◌, subst}
use Rattle.std.specs.Prelude.{Option, Some, None, Result}
use Rattle.std.specs.Io.KnownBytes.{Keeps, ReadConsumes}

pub keeps_on : (a b c : Option (List ℕ)) → Keeps a b → Keeps b c → Keeps a c
keeps_on None b c p q = tt
keeps_on (Some x) None c p q = absurd p
keeps_on (Some x) (Some y) None p q = absurd q
keeps_on (Some x) (Some y) (Some z) p q = q ∙ p

pub keeps_itself : (a : Option (List ℕ)) → Keeps a a
keeps_itself None = tt
keeps_itself (Some x) = refl

consumed_first : {E : Type 0} (c : Option (List ℕ)) (r : Result ℕ E) (x y : List ℕ) (buf : List ℕ) → y ≡ x → ReadConsumes (Some y) c r buf → ReadConsumes (Some x) c r buf
consumed_first c r x y buf same h = subst (λ z. ReadConsumes (Some z) c r buf) same h

untold : {E : Type 0} (b c : Option (List ℕ)) (r : Result ℕ E) (buf : List ℕ) → ReadConsumes b c r buf → ReadConsumes None c r buf
untold b c (Ok n) buf h = (tt, h.1)
untold b c (Err e) buf h = tt

pub consumed_on : {E : Type 0} (a b c : Option (List ℕ)) (r : Result ℕ E) (buf : List ℕ) → Keeps a b → ReadConsumes b c r buf → ReadConsumes a c r buf
consumed_on None b c r buf p h = untold b c r buf h
consumed_on (Some x) None c r buf p h = absurd p
consumed_on (Some x) (Some y) c r buf p h = consumed_first c r x y buf p h
