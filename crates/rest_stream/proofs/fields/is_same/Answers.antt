use Rattle.std.proofs.Common.{◌≡◌, Bool, true, false, IsTrue, ◌↔◌, true≢false, refl, sym, map}
use Rattle.std.specs.Char.{to_ascii_lowercase}
use Rattle.std.proofs.lemmas.Slice.Eq.{bytes_eq-Decides}
use Rattle.std.specs.Str.{bytes_eq}
use Rattle.rest_stream.proofs.fields.is_same.Goals as goal

by_tests : (b e : Bool) (P : Type 0) → (IsTrue b ↔ P) → (IsTrue e ↔ P) → b ≡ e
by_tests true true P h k = refl
by_tests false false P h k = refl
by_tests true false P h k = absurd (true≢false (sym (k.1 (h.0 refl))))
by_tests false true P h k = absurd (true≢false (sym (h.1 (k.0 refl))))

pub returns : goal.returns
returns c = by_tests c.eq_ignore_ascii_case.result (bytes_eq (map to_ascii_lowercase c.args.one.now) (map to_ascii_lowercase c.args.other.now)) _ c.eq_ignore_ascii_case.ensures.test (bytes_eq-Decides _ _)
