-- What the bytes of a sample mean.
use Rattle.std.proofs.Common.{◌≡◌, ℕ, Bool, true, false, cond, List, Some, None, Err, IsUtf8, refl}
use Rattle.std.specs.Str.{is_utf8}
use Rattle.std.proofs.lemmas.Str.{is_utf8-from_IsUtf8, IsUtf8-from_is_utf8}
use Rattle.serde_json.specs.Data.{Data}
use Rattle.serde_json.specs.Read.{read}
use Rattle.cluster_json.specs.Faults.{not_json}
use Rattle.cluster_json.specs.Named.{named_at, named_of, named_where}

pub named_of-read : (bytes : List ℕ) (d : Data) → IsUtf8 bytes → read bytes ≡ Some d → named_of bytes ≡ named_at d
unfolding named_of
named_of-read bytes d text is = rw (is_utf8-from_IsUtf8 bytes text, is) refl

pub named_of-refused : (bytes : List ℕ) → (IsUtf8 bytes → read bytes ≡ None) → named_of bytes ≡ Err not_json
unfolding named_of
named_of-refused bytes none = by (is_utf8 bytes) refl
  where
    by : (b : Bool) → is_utf8 bytes ≡ b → cond b (named_where (read bytes)) (Err not_json) ≡ Err not_json
    by true is = rw (none (IsUtf8-from_is_utf8 bytes is)) refl
    by false is = refl
