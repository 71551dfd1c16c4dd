-- A head is at least three bytes long for each of its fields.
use Rattle.std.proofs.Common.{ℕ, suc, ◌*◌, ◌≤◌, List, [], ◌∷◌, ◌++◌, length, length-append, arith, ap, All}
use Rattle.std.specs.List.{flat_map}
use Rattle.httparse.specs.Grammar.{Field, IsField, LineEnd, crlf, lf, print_end, print_field, print_section, print_request, RequestHead, IsRequestHead}
use Rattle.httparse.specs.Spans.{RequestExceeds}

pub end_len : (e : LineEnd) → 1 ≤ length (print_end e)
end_len crlf = omega arith
end_len lf = omega arith

field_len : (f : Field) → IsField f → 3 ≤ length (print_field f)
field_len f h = omega (arith, h.name.0, end_len f.end, length-append (f.name ++ 58 ∷ f.raw) (print_end f.end), length-append f.name (58 ∷ f.raw))

fields_len : (fs : List Field) → All IsField fs → 3 * length fs ≤ length (flat_map print_field fs)
fields_len [] h = omega arith
fields_len (f ∷ fs) h =
    let later = fields_len fs (λ k d lt. h (suc k) d (omega arith)) in
    omega (arith, later, field_len f (h 0 f (omega arith)), length-append (print_field f) (flat_map print_field fs))

back_le : (xs ys : List ℕ) → length ys ≤ length (xs ++ ys)
back_le xs ys = omega (arith, length-append xs ys)

pub head_len : (h : RequestHead) → IsRequestHead h → length (print_section h.fields h.last) ≤ length (print_request h)
unfolding print_request
head_len h is = back_le _ (print_section h.fields h.last)

-- so few bytes hold no head of so many fields
pub too_short : (buf : List ℕ) (room : ℕ) → length buf ≤ 16384 → 5462 ≤ room → RequestExceeds room buf → ⊥
too_short buf room short enough x =
    let h = x.3 in
    let fields = fields_len h.fields x.4.0.fields in
    let section = length-append (flat_map print_field h.fields) (print_end h.last) in
    omega (arith, fields, section, head_len h x.4.0, ap length x.4.1, length-append x.0 (print_end lf), length-append (print_request h) [], ap length x.2, length-append x.0 x.1, x.5)
