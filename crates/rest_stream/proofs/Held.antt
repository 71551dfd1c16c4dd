-- A request that is held whole.
use Rattle.std.proofs.Common.{◌≡◌, ◌≤◌, ◌+◌, [], ◌∙◌, ℕ, Bool, List, ◌++◌, length, ap, sym, subst, arith, length-append, append_assoc}
use Rattle.std.specs.Prelude.{IfOk, IfSome, OnOk, Option, None, Some, Result, Ok, Err}
use Rattle.std.proofs.lemmas.List.{append-nil}
use Rattle.httparse.specs.Grammar.{RequestHead, print_request}
use Rattle.httparse.proofs.GrammarLemmas.{request_unique}
use Rattle.rest_stream.specs.Fields.{framing}
use Rattle.rest_stream.specs.Heads.{IsFramed}
use Rattle.rest_stream.specs.Stream.{HoldsHead, IsOpenHead, IsRequest, fields_of, stream_of}
use Rattle.rest_stream.specs.declared.raw.RawRequest.{RawRequest}
use Rattle.rest_stream.specs.declared.request.Framed.{Framed}
use Rattle.rest_stream.proofs.Unique.{not_open, ok_same}

-- a head that is held isn't looked for further
pub not_open_held : (bytes : List ℕ) → HoldsHead bytes → IsOpenHead bytes → ⊥
not_open_held bytes h o = not_open bytes h.head h.behind h.begins o

pub request_held : (last : Bool) (bytes rest : List ℕ) (raw : RawRequest) → IsRequest last bytes raw rest → HoldsHead bytes
request_held last bytes rest raw r = record { head = r.head; behind = raw.body ++ rest; begins = r.begins }

-- what its head frames is held
pub framed_held : (last : Bool) (bytes rest : List ℕ) (raw : RawRequest) (f : Framed) → IsRequest last bytes raw rest → ((more : List ℕ) → IsFramed (bytes ++ more) f) → f.len + f.size ≤ length bytes
framed_held last bytes rest raw f r framed =
    let k : IsFramed bytes f = subst (λ (xs : List ℕ). IsFramed xs f) (append-nil bytes) (framed []) in
    let same = request_unique bytes r.head k.head _ _ r.begins.reads k.begins.reads in
    let size : length raw.body ≡ f.size = ok_same _ _ (framing (fields_of k.head)) (ap (λ (h : RequestHead). framing (fields_of h)) (sym same.0) ∙ r.framed) k.framed in
    omega (arith, size, k.len, ap (λ (h : RequestHead). length (print_request h)) same.0, ap length r.begins.reads.1, length-append (print_request r.head) (raw.body ++ rest), length-append raw.body rest)

-- what holds anyway
pub on_ok : {T E P : Type 0} (r : Result T E) → P → OnOk r P
on_ok (Ok x) p = p
on_ok (Err e) p = tt

pub if_ok : {T E : Type 0} {P Q : T → Type 0} (r : Result T E) → ((x : T) → P x → Q x) → IfOk r P → IfOk r Q
if_ok (Ok x) f p = f x p
if_ok (Err e) f p = tt

-- a head that is held stands at the front of the stream
pub framed_stream : (held : List ℕ) (left : Option (List ℕ)) (f : Framed) → ((more : List ℕ) → IsFramed (held ++ more) f) → IfSome (stream_of held left) (λ s. IsFramed s f)
framed_stream held None f h = tt
framed_stream held (Some told) f h = h told
