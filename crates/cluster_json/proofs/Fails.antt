-- Faults, passed outwards.
use Rattle.std.proofs.Common.{◌≡◌, ℕ, List, ◌++◌, Option, Some, None, Result, Ok, Err, MatchResult, ap, sym, ◌∙◌, refl}
use Rattle.std.specs.Result.{IsErrAnd}
use Rattle.std.proofs.lemmas.Result.{err_from_is_err_and}
use Rattle.cluster_json.specs.Faults.{Fault, Read, deeper, under, ◌>>=◌}
use Rattle.cluster_json.specs.Reading.{IsDeeper, Fails, Gives}
use Rattle.cluster_json.specs.declared.refusal.FileRefusal.{FileRefusal}
use Rattle.cluster_json.specs.Reading.{fault_of}

-- a fault further in is the fault of the whole
pub fails_under : {Y : Type 0} (step : List ℕ) (inner outer : Option Fault) (meaning : Read Y) → Fails inner meaning → IsDeeper step inner outer → Fails outer (under step meaning)
fails_under step inner None meaning h d = tt
fails_under step None (Some g) meaning h d = absurd (let is = d.1 in cc)
fails_under step (Some e) (Some g) meaning h d =
    let same : e ≡ d.0 = (let is = d.1 in cc) in
    rw h (ap Err (ap (deeper step) same ∙ sym d.2))

-- what was read further in, with its refusal passed outwards
pub gives_under : {X Y : Type 0} {Q : FileRefusal → FileRefusal → Type 0} (step : List ℕ) (view : X → Y) (inner outer : Result X FileRefusal) (meaning : Read Y) → Gives view inner meaning
    → MatchResult inner (λ x. outer ≡ Ok x) (λ e. IsErrAnd outer (Q e)) → ((e f : FileRefusal) → Q e f → IsDeeper step (fault_of e) (fault_of f)) → Gives view outer (under step meaning)
gives_under step view (Ok x) outer meaning g h deep = rw (h, g) refl
gives_under step view (Err e) outer meaning g h deep = let o = err_from_is_err_and outer h in rw o.1 (fails_under step (fault_of e) (fault_of o.0) meaning g (deep e o.0 o.2))

-- what fails first fails the whole
pub fails_bind : {Y Z : Type 0} (told : Option Fault) (meaning : Read Y) (k : Y → Read Z) → Fails told meaning → Fails told (meaning >>= k)
fails_bind None meaning k h = tt
fails_bind (Some e) meaning k h = rw h refl

-- what is read of the rest, behind what was read so far
abbrev pub with_front : {A : Type 0} → List A → Read (List A) → Read (List A)
with_front front rest = rest >>= (λ xs. Ok (front ++ xs))
