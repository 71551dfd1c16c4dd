-- From the bytes that came to the stream.
use Rattle.std.proofs.Common.{◌≡◌, ℕ, ◌+◌, ◌≤◌, ◌<◌, Bool, List, ◌++◌, length, take, drop, map, sym, ap, ◌∙◌, subst, append_assoc, arith, length-append, length-drop, Ok, Err, ◌⊎◌, inl, inr}
use Rattle.std.specs.Prelude.{Option, Some, None, IfSome}
use Rattle.std.proofs.lemmas.List.{drop-drop, length-take-le, take-append-drop}
use Rattle.std.proofs.Math.Seq.{drop-append_seam}
use Rattle.httparse.specs.Grammar.{RequestHead, print_request, ReadsRequest}
use Rattle.httparse.specs.Spans.{IsRequestAt, header_bytes}
use Rattle.httparse.specs.declared.spans.HeaderSpan.{HeaderSpan}
use Rattle.httparse.specs.declared.spans.RequestSpans.{RequestSpans}
use Rattle.cc_base.specs.Outside.{after}
use Rattle.rest_stream.specs.Fields.{framing, IsRefusal}
use Rattle.rest_stream.specs.Heads.{IsFound, IsFramed, parts, request_with}
use Rattle.rest_stream.proofs.Windows.{outside_stops}
use Rattle.rest_stream.specs.Stream.{HasHead, HasRefusedHead, IsCutBody, IsOutside, IsRequest, StopsBy, fields_of, window}
use Rattle.rest_stream.specs.declared.raw.Stop.{Stop}
use Rattle.rest_stream.specs.declared.raw.Stop.TheVariants as stop
use Rattle.rest_stream.specs.declared.request.Head.{Head}
use Rattle.rest_stream.specs.declared.request.Framed.{Framed}

front_rest : (p s x : List ℕ) → s ≡ p ++ x → s ≡ p ++ drop (length p) s
front_rest p s x e = e ∙ ap (λ (y : List ℕ). p ++ y) (sym (ap (drop (length p)) e ∙ drop-append_seam p x))

-- a head among the first bytes is the head of the stream
head_on_stream : (held more : List ℕ) (h : RequestHead) (len : ℕ) → ReadsRequest (window held) h (drop len (window held)) → len ≡ length (print_request h) → len ≤ 16384 → HasHead (held ++ more) h (drop len (held ++ more))
head_on_stream held more h len reads same short =
    let p = print_request h in
    let whole : held ++ more ≡ p ++ (drop len (window held) ++ (drop 16384 held ++ more)) =
    ap (λ (xs : List ℕ). xs ++ more) (sym (take-append-drop 16384 held)) ∙ append_assoc (window held) (drop 16384 held) more
    ∙ ap (λ (xs : List ℕ). xs ++ (drop 16384 held ++ more)) reads.1 ∙ append_assoc p (drop len (window held)) (drop 16384 held ++ more) in
    record {
      reads = (reads.0, front_rest p (held ++ more) _ whole ∙ ap (λ (n : ℕ). p ++ drop n (held ++ more)) (sym same));
      short = omega arith;
    }

module _ (held more front : List ℕ) (headers : List HeaderSpan) (spans : RequestSpans) (is_front : front ≡ window held) (short : length front ≤ 16384) (found : IsFound held headers spans) where
  begins : HasHead (held ++ more) found.head (drop spans.len (held ++ more))
  begins =
      let fits : spans.len ≤ length (window held) = found.within.section.len_fits in
      let same : length front ≡ length (window held) = ap length is_front in
      head_on_stream held more found.head spans.len found.at.reads found.at.len (omega arith)

  fields : map (header_bytes front) (take spans.headers headers) ≡ fields_of found.head
  fields = ap (λ (xs : List ℕ). map (header_bytes xs) (take spans.headers headers)) is_front ∙ found.at.fields

  -- what the head frames
  pub framed_is : (size : ℕ) (kept : Head) → Ok size ≡ framing (map (header_bytes front) (take spans.headers headers)) → ((h : RequestHead) → IsRequestAt front headers spans h → kept ≡ parts h) → IsFramed (held ++ more) (record { head = kept; len = spans.len; size = size })
  framed_is size kept frames keeps = record {
    head = found.head;
    begins = begins;
    len = found.at.len;
    framed = sym (frames ∙ ap framing fields);
    kept = keeps found.head (subst (λ (xs : List ℕ). IsRequestAt xs headers spans found.head) (sym is_front) found.at);
  }

  refused_head : (why : Stop) → Err why ≡ framing (map (header_bytes front) (take spans.headers headers)) → HasRefusedHead (held ++ more) why
  refused_head why frames = record { head = found.head; behind = drop spans.len (held ++ more); begins = begins; refused = sym (frames ∙ ap framing fields) }

  -- why the head is refused
  pub refused_is : (why : Stop) → Err why ≡ framing (map (header_bytes front) (take spans.headers headers)) → IsRefusal why → StopsBy (held ++ more) why
  refused_is stop.End frames is = elim is [ ]
  refused_is stop.Truncated frames is = elim is [ ]
  refused_is stop.BadHead frames is = inl (refused_head stop.BadHead frames)
  refused_is stop.BadLength frames is = refused_head stop.BadLength frames
  refused_is stop.HeadTooLong frames is = elim is [ ]
  refused_is stop.BodyTooLong frames is = refused_head stop.BodyTooLong frames
  refused_is stop.NoChunked frames is = refused_head stop.NoChunked frames
  refused_is stop.ReadFault frames is = elim is [ ]
  refused_is stop.Memory frames is = elim is [ ]

-- the request that the stream begins with
pub request_is : (is_last : Bool) (s body : List ℕ) (f : Framed) → IsFramed s f → f.len + f.size ≤ length s → body ≡ take f.size (drop f.len s) → IsRequest is_last s (request_with f.head body is_last) (drop (f.len + f.size) s)
request_is is_last s body f framed enough is_body =
    let p = print_request framed.head in
    let rest = drop (f.len + f.size) s in
    let split : drop f.len s ≡ body ++ rest =
    sym (take-append-drop f.size (drop f.len s)) ∙ ap (λ (y : List ℕ). take f.size (drop f.len s) ++ y) (drop-drop f.size f.len s) ∙ ap (λ (b : List ℕ). b ++ rest) (sym is_body) in
    let size_is : length body ≡ f.size = ap length is_body ∙ length-take-le f.size (drop f.len s) (omega (arith, length-drop f.len s)) in
    record {
      head = framed.head;
      begins = record { reads = (framed.begins.reads.0, framed.begins.reads.1 ∙ ap (λ (y : List ℕ). p ++ y) split); short = framed.begins.short };
      framed = framed.framed ∙ ap Ok (sym size_is);
      is = ap (λ (k : Head). request_with k body is_last) framed.kept;
    }

-- the body is cut
pub cut_is : (s : List ℕ) (f : Framed) → IsFramed s f → length s < f.len + f.size → IsCutBody s
cut_is s f framed l = record {
  head = framed.head;
  behind = drop f.len s;
  size = f.size;
  begins = framed.begins;
  framed = framed.framed;
  cut = omega (arith, framed.len, ap length framed.begins.reads.1, length-append (print_request framed.head) (drop f.len s));
}

-- the same where the source tells the stream
pub request_told : (is_last : Bool) (o mid later : Option (List ℕ)) (body : List ℕ) (f : Framed)
    → IfSome o (λ s. IsFramed s f) → mid ≡ o → IfSome mid (λ s. f.len + f.size ≤ length s) → IfSome mid (λ s. body ≡ take f.size (drop f.len s)) → later ≡ after (f.len + f.size) mid
    → IfSome o (λ s. IfSome later (IsRequest is_last s (request_with f.head body is_last)))
request_told is_last None mid later body f framed same enough is_body end = tt
request_told is_last (Some s) mid later body f framed same enough is_body end =
    let enough' : f.len + f.size ≤ length s = (rw same at enough) in
    let is_body' : body ≡ take f.size (drop f.len s) = (rw same at is_body) in
    let end' : later ≡ Some (drop (f.len + f.size) s) = (rw same at end) in
    rw end' (request_is is_last s body f framed enough' is_body')

-- why no body is taken, where the source tells the stream
pub body_stops : (o mid : Option (List ℕ)) (f : Framed) (why : Stop) → IfSome o (λ s. IsFramed s f) → mid ≡ o → (why ≡ stop.Truncated → IfSome mid (λ s. length s < f.len + f.size)) → (why ≡ stop.Truncated) ⊎ IsOutside why
    → IfSome o (λ s. StopsBy s why)
body_stops None mid f why framed same cut h = tt
body_stops (Some s) mid f why framed same cut (inl e) =
    let cut' : length s < f.len + f.size = (rw same at (cut e)) in
    rw e (inr (cut_is s f framed cut'))
body_stops (Some s) mid f why framed same cut (inr h) = outside_stops why s h
