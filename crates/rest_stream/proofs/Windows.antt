-- What holds of the first bytes of a stream, whatever follows.
use Rattle.std.proofs.Common.{◌≡◌, ℕ, zero, suc, ◌≤◌, List, [], ◌∷◌, ◌++◌, length, take, drop, refl, sym, ap, ◌∙◌, subst, append_assoc, arith, length-append}
use Rattle.std.specs.Prelude.{IfErr, IfSome, None, Option, Result, Ok, Err, Some}
use Rattle.std.proofs.lemmas.List.{append-nil, drop-append-le, take-append-le, take_all}
use Rattle.httparse.specs.Grammar.{NeverHasRequest, HasNoRequest}
use Rattle.cc_base.specs.Outside.{after}
use Rattle.rest_stream.specs.Stream.{AlwaysStopsBy, StopsBy, IsOpenHead, IsOutside, stream_of, window}
use Rattle.rest_stream.specs.declared.raw.Stop.{Stop}
use Rattle.rest_stream.specs.declared.raw.Stop.TheVariants as stop

-- the first n bytes only grow
pub front_grows : (n : ℕ) (xs more : List ℕ) → (d : List ℕ) × (take n (xs ++ more) ≡ take n xs ++ d)
front_grows zero xs more = ([], refl)
front_grows (suc n) [] more = (take (suc n) more, refl)
front_grows (suc n) (x ∷ xs) more = let r = front_grows n xs more in (r.0, ap (λ ys. x ∷ ys) r.1)

pub never_later : (xs more : List ℕ) → NeverHasRequest xs → NeverHasRequest (xs ++ more)
never_later xs more h = λ more'. subst HasNoRequest (sym (append_assoc xs more more')) (h (more ++ more'))

pub never_in_window : (xs more : List ℕ) → NeverHasRequest (window xs) → NeverHasRequest (window (xs ++ more))
never_in_window xs more h =
    let r = front_grows 16384 xs more in
    subst NeverHasRequest (sym r.1) (never_later (window xs) r.0 h)

pub window_all : (xs : List ℕ) → length xs ≤ 16384 → xs ≡ window xs
window_all xs h = sym (take_all 16384 xs h)

-- a full window stays as it is
pub window_full : (xs more : List ℕ) → 16384 ≤ length xs → window (xs ++ more) ≡ window xs
window_full xs more h = take-append-le 16384 xs more h

pub too_long : (xs more : List ℕ) → 16384 ≤ length xs → IsOpenHead (window xs) → (16384 ≤ length (xs ++ more)) × IsOpenHead (window (xs ++ more))
too_long xs more l h = (omega (arith, length-append xs more), subst IsOpenHead (sym (window_full xs more l)) h)

-- nothing follows
pub stops_at_end : (xs : List ℕ) (why : Stop) → AlwaysStopsBy xs why → StopsBy xs why
stops_at_end xs why h = subst (λ (ys : List ℕ). StopsBy ys why) (append-nil xs) (h [])

-- a reason that holds whatever follows is the reason
pub always_stops : (held held' : List ℕ) (left : Option (List ℕ)) (why : Stop) → held' ≡ held → AlwaysStopsBy held' why → IfSome (stream_of held left) (λ s. StopsBy s why)
always_stops held held' None why same h = tt
always_stops held held' (Some told) why same h = subst (λ (ys : List ℕ). StopsBy (ys ++ told) why) same (h told)

-- the same of an answer
pub always_stopped : {T : Type 0} (held held' : List ℕ) (left : Option (List ℕ)) (r : Result T Stop) → held' ≡ held → IfErr r (AlwaysStopsBy held') → IfErr r (λ e. IfSome (stream_of held left) (λ s. StopsBy s e))
always_stopped held held' left (Ok x) same h = tt
always_stopped held held' left (Err why) same h = always_stops held held' left why same h

-- at the end of the input nothing follows
pub last_stops : (held held' : List ℕ) (left : Option (List ℕ)) (why : Stop) → IfSome left (λ told. told ≡ []) → held' ≡ held → StopsBy held' why → IfSome (stream_of held left) (λ s. StopsBy s why)
last_stops held held' None why e same h = tt
last_stops held held' (Some told) why e same h =
    subst (λ (ys : List ℕ). StopsBy ys why) (sym (ap (λ ys. held ++ ys) e ∙ append-nil held ∙ sym same)) h

-- what lies outside of the stream
pub outside_stops : (why : Stop) (s : List ℕ) → IsOutside why → StopsBy s why
outside_stops stop.End s h = elim h [ ]
outside_stops stop.Truncated s h = elim h [ ]
outside_stops stop.BadHead s h = elim h [ ]
outside_stops stop.BadLength s h = elim h [ ]
outside_stops stop.HeadTooLong s h = elim h [ ]
outside_stops stop.BodyTooLong s h = elim h [ ]
outside_stops stop.NoChunked s h = elim h [ ]
outside_stops stop.ReadFault s h = tt
outside_stops stop.Memory s h = tt

pub outside_told : (o : Option (List ℕ)) (why : Stop) → IsOutside why → IfSome o (λ s. StopsBy s why)
outside_told None why h = tt
outside_told (Some s) why h = outside_stops why s h

-- what is left of the stream behind the first n bytes that came
pub stream_drop : (n : ℕ) (held : List ℕ) (left : Option (List ℕ)) → n ≤ length held → stream_of (drop n held) left ≡ after n (stream_of held left)
stream_drop n held None h = refl
stream_drop n held (Some told) h = ap Some (sym (drop-append-le n held told h))
