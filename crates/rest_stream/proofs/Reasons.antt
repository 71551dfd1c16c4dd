-- A stream ends for one reason.
use Rattle.std.proofs.Common.{◌≡◌, ℕ, zero, suc, ◌≤◌, ◌<◌, List, [], ◌∷◌, ◌++◌, length, refl, sym, ap, ◌∙◌, subst, arith, ◌⊎◌, inl, inr, All}
use Rattle.std.specs.Prelude.{IsTrue, codes}
use Rattle.httparse.specs.Grammar.{EndsInTarget, IsRequestHead, MayBecomeRequest, NeverHasRequest, RequestHead, is_token_byte, is_uri_byte, lf, print_request}
use Rattle.httparse.proofs.OnLiterals.{httparse_on_literals}
use Rattle.rest_stream.specs.Stream.{HasRefusedHead, IsCutBody, IsOpenHead, IsOutside, IsUnclear, StopsBy, window}
use Rattle.rest_stream.specs.declared.raw.Stop.{Stop}
use Rattle.rest_stream.specs.declared.raw.Stop.TheVariants as stop
use Rattle.rest_stream.proofs.Digits.{all_ascii}
use Rattle.rest_stream.proofs.Unique.{not_empty, not_never, not_open_there, refused_once}
use Rattle.rest_stream.proofs.Windows.{window_all}

one : (P : ℕ → Type 0) (x : ℕ) → P x → All P (x ∷ [])
one P x h zero d lt = h
one P x h (suc k) d lt = absurd (omega (arith, lt))

-- the shortest of heads
abbrev shortest : RequestHead
shortest = record { blank = []; method = codes "A"; target = codes "/"; minor = 0; line_end = lf; fields = []; last = lf }

is_head : IsRequestHead shortest
unfolding httparse_on_literals
is_head = record {
  method = (omega arith, one (λ b. IsTrue (is_token_byte b)) 65 refl);
  target = (omega arith, one (λ b. IsTrue (is_uri_byte b)) 47 refl);
  target_text = all_ascii _ refl;
  minor = omega arith;
  fields = λ k d lt. absurd (omega (arith, lt));
}

-- from no bytes on a head may come
some_head : NeverHasRequest [] → ⊥
some_head never = never (print_request shortest ++ []) shortest [] (is_head, refl)

-- bytes that no head begins with, and that are open, end inside a target
in_target : (bytes : List ℕ) → NeverHasRequest bytes → MayBecomeRequest bytes → EndsInTarget bytes
in_target bytes never (inl may) = absurd (never may.0 may.1 [] may.2)
in_target bytes never (inr ends) = ends

-- what a stream is that ends for a reason of its own
data Shape (s : List ℕ) (why : Stop) : Type 0 where
  empty : s ≡ [] → why ≡ stop.End → Shape s why
  refused : HasRefusedHead s why → Shape s why
  cut : IsCutBody s → why ≡ stop.Truncated → Shape s why
  short : 0 < length s → length s < 16384 → IsOpenHead (window s) → why ≡ stop.Truncated → Shape s why
  long : 16384 ≤ length s → IsOpenHead (window s) → why ≡ stop.HeadTooLong → Shape s why
  never : NeverHasRequest (window s) → why ≡ stop.BadHead → Shape s why

shape : (s : List ℕ) (why : Stop) → StopsBy s why → (IsOutside why → ⊥) → Shape s why
shape s stop.End h own = empty h refl
shape s stop.Truncated (inl h) own = short h.0 h.1 (subst IsOpenHead (window_all s (omega (arith, h.1))) h.2) refl
shape s stop.Truncated (inr h) own = cut h refl
shape s stop.BadHead (inl h) own = refused h
shape s stop.BadHead (inr h) own = never h refl
shape s stop.BadLength h own = refused h
shape s stop.HeadTooLong h own = long h.0 h.1 refl
shape s stop.BodyTooLong h own = refused h
shape s stop.NoChunked h own = refused h
shape s stop.ReadFault h own = absurd (own tt)
shape s stop.Memory h own = absurd (own tt)

unclear : (s : List ℕ) (a b : Stop) → NeverHasRequest (window s) → IsOpenHead (window s) → (a ≡ stop.BadHead) ⊎ (b ≡ stop.BadHead) → IsUnclear s a b
unclear s a b hopeless o bad = record { bad = bad; in_target = in_target (window s) hopeless o.goes_on; never = hopeless }

-- two reasons are one, or the stream ends inside a target that no bytes can end; the last two say so of a refused head
pair : (s : List ℕ) (a b : Stop) → Shape s a → Shape s b → (HasRefusedHead s a → a ≡ b) → (HasRefusedHead s b → b ≡ a) → (a ≡ b) ⊎ IsUnclear s a b
pair s a b (refused x) y rx ry = inl (rx x)
pair s a b (empty x xe) (refused y) rx ry = inl (sym (ry y))
pair s a b (cut x xe) (refused y) rx ry = inl (sym (ry y))
pair s a b (short xl xu x xe) (refused y) rx ry = inl (sym (ry y))
pair s a b (long xl x xe) (refused y) rx ry = inl (sym (ry y))
pair s a b (never x xe) (refused y) rx ry = inl (sym (ry y))
pair s a b (empty x xe) (empty y ye) rx ry = inl (xe ∙ sym ye)
pair s a b (empty x xe) (cut y ye) rx ry = absurd (not_empty s y.head _ y.begins x)
pair s a b (empty x xe) (short yl yu y ye) rx ry = absurd (omega (arith, ap length x, yl))
pair s a b (empty x xe) (long yl y ye) rx ry = absurd (omega (arith, ap length x, yl))
pair s a b (empty x xe) (never y ye) rx ry = absurd (some_head (subst (λ (ys : List ℕ). NeverHasRequest (window ys)) x y))
pair s a b (cut x xe) (empty y ye) rx ry = absurd (not_empty s x.head _ x.begins y)
pair s a b (cut x xe) (cut y ye) rx ry = inl (xe ∙ sym ye)
pair s a b (cut x xe) (short yl yu y ye) rx ry = absurd (not_open_there s x.head _ x.begins y)
pair s a b (cut x xe) (long yl y ye) rx ry = absurd (not_open_there s x.head _ x.begins y)
pair s a b (cut x xe) (never y ye) rx ry = absurd (not_never s x.head _ x.begins y)
pair s a b (short xl xu x xe) (empty y ye) rx ry = absurd (omega (arith, ap length y, xl))
pair s a b (short xl xu x xe) (cut y ye) rx ry = absurd (not_open_there s y.head _ y.begins x)
pair s a b (short xl xu x xe) (short yl yu y ye) rx ry = inl (xe ∙ sym ye)
pair s a b (short xl xu x xe) (long yl y ye) rx ry = absurd (omega (arith, xu, yl))
pair s a b (short xl xu x xe) (never y ye) rx ry = inr (unclear s a b y x (inr ye))
pair s a b (long xl x xe) (empty y ye) rx ry = absurd (omega (arith, ap length y, xl))
pair s a b (long xl x xe) (cut y ye) rx ry = absurd (not_open_there s y.head _ y.begins x)
pair s a b (long xl x xe) (short yl yu y ye) rx ry = absurd (omega (arith, yu, xl))
pair s a b (long xl x xe) (long yl y ye) rx ry = inl (xe ∙ sym ye)
pair s a b (long xl x xe) (never y ye) rx ry = inr (unclear s a b y x (inr ye))
pair s a b (never x xe) (empty y ye) rx ry = absurd (some_head (subst (λ (ys : List ℕ). NeverHasRequest (window ys)) y x))
pair s a b (never x xe) (cut y ye) rx ry = absurd (not_never s y.head _ y.begins x)
pair s a b (never x xe) (short yl yu y ye) rx ry = inr (unclear s a b x y (inl xe))
pair s a b (never x xe) (long yl y ye) rx ry = inr (unclear s a b x y (inl xe))
pair s a b (never x xe) (never y ye) rx ry = inl (xe ∙ sym ye)

same : (a b : Stop) → (IsOutside b → ⊥) → (a ≡ b) ⊎ IsOutside b → a ≡ b
same a b not (inl e) = e
same a b not (inr o) = absurd (not o)

pub one_reason : (s : List ℕ) (a b : Stop) → StopsBy s a → StopsBy s b → (IsOutside a → ⊥) → (IsOutside b → ⊥) → (a ≡ b) ⊎ IsUnclear s a b
one_reason s a b h k not_a not_b =
    pair s a b (shape s a h not_a) (shape s b k not_b) (λ x. same a b not_b (refused_once s a x b k)) (λ y. same b a not_a (refused_once s b y a h))
