-- A stream begins with at most one request, and ends for one reason.
use Rattle.std.proofs.Common.{◌≡◌, ℕ, ◌≤◌, ◌<◌, Bool, List, [], ◌++◌, length, take, drop, sym, ap, ◌∙◌, subst, arith, length-append, Ok, Err, ◌⊎◌, inl, inr}
use Rattle.std.specs.Prelude.{Result}
use Rattle.std.proofs.lemmas.List.{append-nil, take-append-drop}
use Rattle.std.proofs.lemmas.Grind.{common_steps}
use Rattle.std.proofs.Math.Seq.{take-append_seam, drop-append_seam}
use Rattle.httparse.specs.Grammar.{IsRequestHead, NeverHasRequest, RequestHead, print_end, print_field, print_request, ReadsRequest}
use Rattle.httparse.proofs.GrammarLemmas.{request_unique}
use Rattle.std.specs.List.{flat_map}
use Rattle.rest_stream.proofs.Lengths.{end_len, head_len}
use Rattle.rest_stream.specs.Fields.{framing}
use Rattle.rest_stream.specs.Stream.{HasHead, HasRefusedHead, IsCutBody, IsOpenHead, IsOutside, IsRequest, StopsBy, fields_of, request, window}
use Rattle.rest_stream.specs.declared.raw.RawRequest.{RawRequest}
use Rattle.rest_stream.specs.declared.raw.Stop.{Stop}
use Rattle.rest_stream.specs.declared.raw.Stop.TheVariants as stop

pub ok_same : (m n : ℕ) (r : Result ℕ Stop) → r ≡ Ok m → r ≡ Ok n → m ≡ n
ok_same m n r h k = cc

front_same : (xs ys us vs : List ℕ) → length xs ≡ length ys → xs ++ us ≡ ys ++ vs → (xs ≡ ys) × (us ≡ vs)
front_same xs ys us vs l e = (
  sym (take-append_seam xs us) ∙ ap (take (length xs)) e ∙ ap (λ (n : ℕ). take n (ys ++ vs)) l ∙ take-append_seam ys vs,
  sym (drop-append_seam xs us) ∙ ap (drop (length xs)) e ∙ ap (λ (n : ℕ). drop n (ys ++ vs)) l ∙ drop-append_seam ys vs,
)

pub one_request : (l : Bool) (s : List ℕ) (a b : RawRequest) (q r : List ℕ) → IsRequest l s a q → IsRequest l s b r → (a ≡ b) × (q ≡ r)
one_request l s a b q r x y =
    let same = request_unique s x.head y.head _ _ x.begins.reads y.begins.reads in
    let size : length a.body ≡ length b.body = ok_same _ _ (framing (fields_of y.head)) (ap (λ (h : RequestHead). framing (fields_of h)) (sym same.0) ∙ x.framed) y.framed in
    let bodies = front_same a.body b.body q r size same.1 in
    (x.is ∙ ap (λ (h : RequestHead). request l h a.body) same.0 ∙ ap (request l y.head) bodies.0 ∙ sym y.is, bodies.1)

head_some : (h : RequestHead) → IsRequestHead h → 0 < length (print_request h)
head_some h is = let section = head_len h is in omega (arith, length-append (flat_map print_field h.fields) (print_end h.last), end_len h.last)

-- a stream that begins with a head
module _ (s : List ℕ) (h : RequestHead) (behind : List ℕ) (x : HasHead s h behind) where
  pub not_empty : s ≡ [] → ⊥
  not_empty e = omega (arith, ap length e, ap length x.reads.1, length-append (print_request h) behind, head_some h x.reads.0)

  in_window : ReadsRequest (window s) h (drop (length (print_request h)) (window s))
  in_window =
      let p = print_request h in
      let front : take (length p) s ≡ p = ap (take (length p)) x.reads.1 ∙ take-append_seam p behind in
      (x.reads.0, sym (take-append-drop (length p) (window s)) ∙ ap (λ (f : List ℕ). f ++ drop (length p) (window s)) (shorter (length p) 16384 s x.short ∙ front))
    where
      shorter : (m n : ℕ) (xs : List ℕ) → m ≤ n → take m (take n xs) ≡ take m xs
      shorter m n xs h = grind (arith, common_steps)

  pub not_open : IsOpenHead s → ⊥
  not_open o = o.none h _ x.reads

  pub not_open_there : IsOpenHead (window s) → ⊥
  not_open_there o = o.none h _ in_window

  pub not_never : NeverHasRequest (window s) → ⊥
  not_never never = never [] h _ (subst (λ (ys : List ℕ). ReadsRequest ys h (drop (length (print_request h)) (window s))) (sym (append-nil (window s))) in_window)

  -- what another head frames is what this one frames
  same_frame : (k : RequestHead) (rest : List ℕ) → HasHead s k rest → framing (fields_of k) ≡ framing (fields_of h)
  same_frame k rest y = ap (λ (z : RequestHead). framing (fields_of z)) (sym (request_unique s h k _ _ x.reads y.reads).0)

  same_behind : (k : RequestHead) (rest : List ℕ) → HasHead s k rest → behind ≡ rest
  same_behind k rest y = (request_unique s h k _ _ x.reads y.reads).1

module _ (l : Bool) (s : List ℕ) (a : RawRequest) (q : List ℕ) (x : IsRequest l s a q) where
  no_refusal : (why : Stop) → HasRefusedHead s why → ⊥
  no_refusal why y =
      let same = same_frame s x.head _ x.begins y.head _ y.begins in
      let frames : framing (fields_of x.head) ≡ Ok (length a.body) = x.framed in
      let refused : framing (fields_of y.head) ≡ Err why = y.refused in
      cc

  no_cut : IsCutBody s → ⊥
  no_cut y =
      let size : length a.body ≡ y.size = ok_same _ _ (framing (fields_of x.head)) x.framed (sym (same_frame s x.head _ x.begins y.head _ y.begins) ∙ y.framed) in
      let behind : length (a.body ++ q) ≡ length y.behind = ap length (same_behind s x.head _ x.begins y.head _ y.begins) in
      omega (arith, length-append a.body q, size, behind, y.cut)

  pub goes_on : (why : Stop) → StopsBy s why → IsOutside why
  goes_on stop.End h = absurd (not_empty s x.head _ x.begins h)
  goes_on stop.Truncated (inl h) = absurd (not_open s x.head _ x.begins h.2)
  goes_on stop.Truncated (inr h) = absurd (no_cut h)
  goes_on stop.BadHead (inl h) = absurd (no_refusal stop.BadHead h)
  goes_on stop.BadHead (inr h) = absurd (not_never s x.head _ x.begins h)
  goes_on stop.BadLength h = absurd (no_refusal stop.BadLength h)
  goes_on stop.HeadTooLong h = absurd (not_open_there s x.head _ x.begins h.1)
  goes_on stop.BodyTooLong h = absurd (no_refusal stop.BodyTooLong h)
  goes_on stop.NoChunked h = absurd (no_refusal stop.NoChunked h)
  goes_on stop.ReadFault h = tt
  goes_on stop.Memory h = tt

err_same : (a b : Stop) (r : Result ℕ Stop) → r ≡ Err a → r ≡ Err b → a ≡ b
err_same a b r h k = cc

module _ (s : List ℕ) (why : Stop) (x : HasRefusedHead s why) where
  pub not_cut : IsCutBody s → ⊥
  not_cut y =
      let same = same_frame s x.head _ x.begins y.head _ y.begins in
      let refused : framing (fields_of x.head) ≡ Err why = x.refused in
      let framed : framing (fields_of y.head) ≡ Ok y.size = y.framed in
      cc

  same_reason : (other : Stop) → HasRefusedHead s other → why ≡ other
  same_reason other y = err_same why other (framing (fields_of x.head)) x.refused (sym (same_frame s x.head _ x.begins y.head _ y.begins) ∙ y.refused)

  -- a refused head has no other reason
  pub refused_once : (other : Stop) → StopsBy s other → (why ≡ other) ⊎ IsOutside other
  refused_once stop.End h = absurd (not_empty s x.head _ x.begins h)
  refused_once stop.Truncated (inl h) = absurd (not_open s x.head _ x.begins h.2)
  refused_once stop.Truncated (inr h) = absurd (not_cut h)
  refused_once stop.BadHead (inl h) = inl (same_reason stop.BadHead h)
  refused_once stop.BadHead (inr h) = absurd (not_never s x.head _ x.begins h)
  refused_once stop.BadLength h = inl (same_reason stop.BadLength h)
  refused_once stop.HeadTooLong h = absurd (not_open_there s x.head _ x.begins h.1)
  refused_once stop.BodyTooLong h = inl (same_reason stop.BodyTooLong h)
  refused_once stop.NoChunked h = inl (same_reason stop.NoChunked h)
  refused_once stop.ReadFault h = inr tt
  refused_once stop.Memory h = inr tt
