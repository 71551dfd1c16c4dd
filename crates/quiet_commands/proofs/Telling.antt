-- Two lines on the error stream, one behind the other.
use Rattle.std.proofs.Common.{◌≡◌, ◌≤◌, inl, inr, ℕ, ◌+◌, List, ◌++◌, length, take, refl, ap, sym, ◌∙◌, append_assoc, arith}
use Rattle.std.specs.Prelude.{Option, Some, None, OnErr, OnOk, Result, Ok, Err}
use Rattle.std.proofs.lemmas.List.{length-append, take-append-le}
use Rattle.std.proofs.Math.Seq.{take-append-add}
use Rattle.cc_base.specs.Outside.{HasCause, HasRisen, IsPrefixOut, appended}
use Rattle.mover_rounds.specs.declared.drains.DrainEnd.{DrainEnd}
use Rattle.quiet_commands.specs.Ends.{IsTold, line_behind, line_of, lines_of}
use Rattle.quiet_commands.specs.declared.ends.End.{End}

appended_twice : (old : Option (List ℕ)) (a b : List ℕ) → appended (appended old a) b ≡ appended old (a ++ b)
appended_twice None a b = refl
appended_twice (Some x) a b = ap Some (append_assoc x a b)

-- one line is told by what its write answers
told_by : {E : Type 0} (line : List ℕ) (old new : Option (List ℕ)) (before now : ℕ) (r : Result (Unit {0}) E) → HasCause before now r → OnOk r (new ≡ appended old line) → OnErr r (IsPrefixOut old new line) → IsTold line old new before now
told_by line old new before now (Ok x) cause out cut = inl out
told_by line old new before now (Err e) cause out cut = inr (cause.failed, cut)

module _ (first behind : List ℕ) (old : Option (List ℕ)) where
  both_out : (mid new : Option (List ℕ)) (b : List ℕ) → mid ≡ appended old first → new ≡ appended mid b → new ≡ appended old (first ++ b)
  both_out mid new b p q = q ∙ (ap (λ (m : Option (List ℕ)). appended m b) p ∙ appended_twice old first b)

  -- the first line is out
  both_told : (mid new : Option (List ℕ)) (before between now : ℕ) → before ≤ between → mid ≡ appended old first → IsTold behind mid new between now → IsTold (first ++ behind) old new before now
  both_told mid new before between now l p (inl q) = inl (both_out mid new behind p q)
  both_told mid new before between now l p (inr q) =
      let risen : HasRisen before now = (let r = q.0 in omega (arith, l, r)) in
      let most : length first + q.1.0 ≤ length (first ++ behind) = (let m = q.1.1 in omega (arith, m, length-append first behind)) in
      let out : new ≡ appended old (take (length first + q.1.0) (first ++ behind)) = both_out mid new (take q.1.0 behind) p q.1.2 ∙ ap (appended old) (sym (take-append-add first behind q.1.0)) in
      inr (risen, (length first + q.1.0, most, out))

  -- only its beginning is
  first_cut : (new : Option (List ℕ)) (before now : ℕ) → HasRisen before now → IsPrefixOut old new first → IsTold (first ++ behind) old new before now
  first_cut new before now risen p =
      let most : p.0 ≤ length (first ++ behind) = (let m = p.1 in omega (arith, m, length-append first behind)) in
      inr (risen, (p.0, most, p.2 ∙ ap (appended old) (sym (take-append-le p.0 first behind p.1))))

-- the end's line, and that of the drain
pub drain_told : {E : Type 0} (d : DrainEnd) (end : End) (old mid new : Option (List ℕ)) (before between now : ℕ) (r : Result (Unit {0}) E) → before ≤ between → mid ≡ appended old (line_of end)
    → HasCause between now r → OnOk r (new ≡ appended mid (line_behind d end)) → OnErr r (IsPrefixOut mid new (line_behind d end)) → IsTold (lines_of (Some d) end) old new before now
drain_told d end old mid new before between now r l p cause out cut = both_told (line_of end) (line_behind d end) old mid new before between now l p (told_by (line_behind d end) mid new between now r cause out cut)

-- no more than the beginning of the end's line
pub end_cut : (drain : Option DrainEnd) (end : End) (old new : Option (List ℕ)) (before now : ℕ) → HasRisen before now → IsPrefixOut old new (line_of end) → IsTold (lines_of drain end) old new before now
end_cut None end old new before now risen p = inr (risen, p)
end_cut (Some d) end old new before now risen p = first_cut (line_of end) (line_behind d end) old new before now risen p
