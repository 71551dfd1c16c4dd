-- A stream of whole requests has no other end.
use Rattle.std.proofs.Common.{◌≡◌, ◌⊎◌, inl, inr, ℕ, zero, suc, Bool, true, false, List, [], ◌∷◌, ◌++◌, codes, refl, sym, subst, arith, All}
use Rattle.std.specs.Prelude.{IsTrue, IsFalse, IfSome, Option, Some, None}
use Rattle.httparse.specs.Grammar.{IsRequestHead, NeverHasRequest, RequestHead, is_token_byte, is_uri_byte, lf, print_request}
use Rattle.httparse.proofs.OnLiterals.{httparse_on_literals}
use Rattle.rest_stream.specs.Stream.{Ending, IsOutside, IsUnclear, Requests, StopsBy, closed, is_last, stopped, window}
use Rattle.rest_stream.specs.declared.raw.RawRequest.{RawRequest}
use Rattle.rest_stream.specs.declared.raw.Stop.{Stop}
use Rattle.rest_stream.specs.declared.raw.Stop.TheVariants as stop
use Rattle.rest_stream.proofs.Digits.{all_ascii}
use Rattle.rest_stream.proofs.Reasons.{one_reason}
use Rattle.rest_stream.proofs.Unique.{goes_on, one_request}
use Rattle.rest_session.specs.Answered.{end_of}
use Rattle.rest_session.specs.declared.session.LinkEnd.TheVariants as link
use Rattle.quiet_commands.specs.Sessions.{IsWholeInput}

one_byte : (P : ℕ → Type 0) (x : ℕ) → P x → All P (x ∷ [])
one_byte P x h zero d lt = h
one_byte P x h (suc k) d lt = absurd (omega (arith, lt))

-- the shortest of heads
abbrev shortest : RequestHead
shortest = record { blank = []; method = codes "A"; target = codes "/"; minor = 0; line_end = lf; fields = []; last = lf }

is_head : IsRequestHead shortest
unfolding httparse_on_literals
is_head = record {
  method = (omega arith, one_byte (λ b. IsTrue (is_token_byte b)) 65 refl);
  target = (omega arith, one_byte (λ b. IsTrue (is_uri_byte b)) 47 refl);
  target_text = all_ascii _ refl;
  minor = omega arith;
  fields = λ k d lt. absurd (omega (arith, lt));
}

-- no bytes can still become a head
some_head : NeverHasRequest [] → ⊥
some_head never = never (print_request shortest ++ []) shortest [] (is_head, refl)

-- a stream that ends has no other reason of its own
end_alone : (s : List ℕ) (why : Stop) → s ≡ [] → StopsBy s why → (IsOutside why → ⊥) → why ≡ stop.End
end_alone s why empty h own = by (one_reason s why stop.End h empty own (λ o. o)) where
  by : (why ≡ stop.End) ⊎ IsUnclear s why stop.End → why ≡ stop.End
  by (inl e) = e
  by (inr u) = absurd (some_head (subst (λ (xs : List ℕ). NeverHasRequest (window xs)) empty u.never))

-- whole requests, and another way in which the stream is said to end
other_end : (n : ℕ) (s : List ℕ) (raws others : List RawRequest) (end : Ending) (why : Stop) → (end ≡ closed) ⊎ (end ≡ stopped stop.End) → Requests n s raws end → Requests n s others (stopped why) → (IsOutside why → ⊥) → why ≡ stop.End
other_end n s [] [] closed why e h k own = absurd h
other_end n s [] [] (stopped x) why e h k own = by e where
  by : (◌≡◌ {A = Ending} (stopped x) closed) ⊎ (stopped x ≡ stopped stop.End) → why ≡ stop.End
  by (inl i) = absurd cc
  by (inr i) = let same : x ≡ stop.End = cc in end_alone s why (subst (StopsBy s) same h) k own
other_end n s [] (o ∷ os) closed why e h k own = absurd h
other_end n s [] (o ∷ os) (stopped x) why e h k own = by e where
  by : (◌≡◌ {A = Ending} (stopped x) closed) ⊎ (stopped x ≡ stopped stop.End) → why ≡ stop.End
  by (inl i) = absurd cc
  by (inr i) = let same : x ≡ stop.End = cc in absurd (goes_on (is_last n) s o k.0 k.1 stop.End (subst (StopsBy s) same h))
other_end n s (r ∷ rs) [] end why e h k own = absurd (own (goes_on (is_last n) s r h.0 h.1 why k))
other_end n s (r ∷ rs) (o ∷ os) end why e h k own =
    by r.closes refl (λ c. other_end (suc n) h.0 rs os end why e (h.3 c) (subst (λ (xs : List ℕ). Requests (suc n) xs os (stopped why)) (sym same.1) (k.3 (subst (λ (x : RawRequest). IsFalse x.closes) same.0 c))) own) where
      same : (r ≡ o) × (h.0 ≡ k.0)
      same = one_request (is_last n) s r o h.0 k.0 h.1 k.1

      by : (b : Bool) → r.closes ≡ b → (r.closes ≡ false → why ≡ stop.End) → why ≡ stop.End
      by true c rest = absurd (let shut = k.2 (subst (λ (x : RawRequest). IsTrue x.closes) same.0 c) in let i : ◌≡◌ {A = Ending} (stopped why) closed = shut.1 in cc)
      by false c rest = rest c

-- so it is neither cut nor refused
cut_inside : (why : Stop) → (end_of why ≡ link.Cut) ⊎ (end_of why ≡ link.Unframed) → (IsOutside why → ⊥) × (why ≡ stop.End → ⊥)
cut_inside stop.End (inl e) = absurd cc
cut_inside stop.End (inr e) = absurd cc
cut_inside stop.ReadFault (inl e) = absurd cc
cut_inside stop.ReadFault (inr e) = absurd cc
cut_inside stop.Memory (inl e) = absurd cc
cut_inside stop.Memory (inr e) = absurd cc
cut_inside stop.Truncated e = ((λ o. o), (λ q. cc))
cut_inside stop.BadHead e = ((λ o. o), (λ q. cc))
cut_inside stop.BadLength e = ((λ o. o), (λ q. cc))
cut_inside stop.HeadTooLong e = ((λ o. o), (λ q. cc))
cut_inside stop.BodyTooLong e = ((λ o. o), (λ q. cc))
cut_inside stop.NoChunked e = ((λ o. o), (λ q. cc))

pub never_cut : (s : List ℕ) (raws : List RawRequest) (why : Stop) → IsWholeInput s → (end_of why ≡ link.Cut) ⊎ (end_of why ≡ link.Unframed) → Requests 0 s raws (stopped why) → ⊥
never_cut s raws why whole e h = by whole.ends where
  inside : (IsOutside why → ⊥) × (why ≡ stop.End → ⊥)
  inside = cut_inside why e

  by : Requests 0 s whole.raws closed ⊎ Requests 0 s whole.raws (stopped stop.End) → ⊥
  by (inl c) = inside.1 (other_end 0 s whole.raws raws closed why (inl refl) c h inside.0)
  by (inr c) = inside.1 (other_end 0 s whole.raws raws (stopped stop.End) why (inr refl) c h inside.0)

-- what is told of a stream is told of what is left
pub if_told : {X : Type 0} (o : Option X) (P : X → Type 0) (x : X) → o ≡ Some x → IfSome o P → P x
if_told None P x e h = absurd cc
if_told (Some y) P x e h = let same : y ≡ x = (let i : Some y ≡ Some x = e in cc) in subst P same h
