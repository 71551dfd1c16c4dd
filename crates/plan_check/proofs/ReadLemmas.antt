-- What the bytes of a trace give.
use Rattle.std.proofs.Common.{◌≡◌, ℕ, Bool, true, false, cond, List, Option, Some, None, Result, Ok, Err, IfOk, IfErr, IsUtf8, refl}
use Rattle.std.specs.Option.{option_and_then}
use Rattle.std.specs.Str.{is_utf8}
use Rattle.std.proofs.lemmas.Str.{is_utf8-from_IsUtf8, IsUtf8-from_is_utf8}
use Rattle.serde_json.specs.Data.{Data}
use Rattle.serde_json.specs.Read.{read}
use Rattle.plan_check.specs.Meaning.{trace_of, trace_at}
use Rattle.plan_check.specs.Reading.{Gives}
use Rattle.plan_check.specs.declared.read.TraceFault.{TraceFault}
use Rattle.plan_check.specs.declared.read.TraceFault.TheVariants.{NotATrace, Memory}

-- bytes that are read mean what their value means
pub trace_of-read : (bytes : List ℕ) (d : Data) → IsUtf8 bytes → read bytes ≡ Some d → trace_of bytes ≡ trace_at d
unfolding trace_of
trace_of-read bytes d text is = rw (is_utf8-from_IsUtf8 bytes text, is) refl

-- bytes that aren't read are no trace
pub trace_of-refused : (bytes : List ℕ) → (IsUtf8 bytes → read bytes ≡ None) → trace_of bytes ≡ None
unfolding trace_of
trace_of-refused bytes none = by (is_utf8 bytes) refl
  where
    by : (b : Bool) → is_utf8 bytes ≡ b → cond b (option_and_then trace_at (read bytes)) None ≡ None
    by true is = rw (none (IsUtf8-from_is_utf8 bytes is)) refl
    by false is = refl

pub Gives-IfOk : {X Y : Type 0} (view : X → Y) (r : Result X TraceFault) (meaning : Option Y) → Gives view r meaning → IfOk r (λ x. meaning ≡ Some (view x))
Gives-IfOk view (Ok x) meaning is = is
Gives-IfOk view (Err e) meaning is = tt

pub Gives-IfErr : {X Y : Type 0} (view : X → Y) (r : Result X TraceFault) (meaning : Option Y) → Gives view r meaning → IfErr r (λ e. e ≡ NotATrace → meaning ≡ None)
Gives-IfErr view (Ok x) meaning is = tt
Gives-IfErr view (Err NotATrace) meaning is = λ _. is
Gives-IfErr view (Err Memory) meaning is = λ e. cc
