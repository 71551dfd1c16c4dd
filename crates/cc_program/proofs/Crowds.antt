-- The movers, planners and links that words ask for are few.
use Rattle.std.proofs.Common.{◌≡◌, ℕ, ◌≤◌, Bool, true, false, List, [], ◌∷◌, refl, subst, arith}
use Rattle.std.specs.Prelude.{Option, Some, None, ◌&&◌, nat_le, option_map, option_and_then, if◌then◌else◌, codes}
use Rattle.std.proofs.lemmas.Bool.Decides.{nat_tests}
use Rattle.plan_terms.specs.Digits.{whole_of}
use Rattle.clap.specs.Words.{Kinds, Row, Text, fault_of, first_of, subcommand_of}
use Rattle.command_words.specs.Arguments.{the_app}
use Rattle.command_words.specs.Meaning as words
use Rattle.live_service.specs.Asked.{CrewAsked}
use Rattle.cc_program.specs.Lives.{LiveAsked, live_command, live_of, links_in}

abbrev AreFew : words.WorkersAsked → Type 0
AreFew w = (w.movers ≤ 64) × (w.planners ≤ 4)

tested : (least most n m : ℕ) (b : Bool) → (b ≡ true → n ≤ most) → (if b then Some n else None) ≡ Some m → m ≤ most
tested least most n m true h e = let same : n ≡ m = cc in rw same at (h refl)
tested least most n m false h e = absurd cc

below : (least most n : ℕ) → (nat_le least n && nat_le n most) ≡ true → n ≤ most
below least most n h = grind (arith, nat_tests)

ranged : (least most m : ℕ) (x : Option ℕ) → words.within least most x ≡ Some m → m ≤ most
ranged least most m None e = absurd cc
ranged least most m (Some n) e = tested least most n m _ (below least most n) e

numbered : (least most m : ℕ) (text : Option Text) → words.number_in least most text ≡ Some m → m ≤ most
numbered least most m text e = ranged least most m (option_and_then whole_of text) e

few_links : (forever : Bool) (text : Option Text) (m : ℕ) → words.links_asked forever text ≡ Some m → m ≤ 64
few_links true None m e = let same : 16 ≡ m = cc in subst (λ (x : ℕ). x ≤ 64) same (omega arith)
few_links false None m e = let same : 1 ≡ m = cc in subst (λ (x : ℕ). x ≤ 64) same (omega arith)
few_links forever (Some text) m e = numbered 1 64 m (Some text) e

module _ (w : words.WorkersAsked) where
  by_planners : (movers : ℕ) (p : Option ℕ) → ((m : ℕ) → p ≡ Some m → m ≤ 4) → movers ≤ 64 → option_map (words.workers_with movers) p ≡ Some w → AreFew w
  by_planners movers None few m e = absurd cc
  by_planners movers (Some p) few m e =
      let same : words.workers_with movers p ≡ w = cc in
      subst (λ (x : words.WorkersAsked). AreFew x) same (m, few p refl)

  by_movers : (x y : Option ℕ) → ((m : ℕ) → x ≡ Some m → m ≤ 64) → ((m : ℕ) → y ≡ Some m → m ≤ 4) → option_and_then (λ movers. option_map (words.workers_with movers) y) x ≡ Some w → AreFew w
  by_movers None y few fewer e = absurd cc
  by_movers (Some m) y few fewer e = by_planners m y fewer (few m refl) e

  are_few : (rows : List Row) → words.workers_of rows ≡ Some w → AreFew w
  are_few rows e = by_movers (words.number_in 0 64 (first_of (codes "movers") rows)) (words.number_in 0 4 (first_of (codes "planners") rows)) (λ m h. numbered 0 64 m (first_of (codes "movers") rows) h) (λ m h. numbered 0 4 m (first_of (codes "planners") rows) h) e

-- what sessions and services ask
abbrev Holds : words.Asked → Type 0
Holds (words.session o) = AreFew o.workers
Holds (words.serve o) = AreFew o.workers × (o.links ≤ 64)
Holds _ = Unit {0}

module _ (a : words.Asked) where
  mapped : {X : Type 0} (f : X → words.Asked) (x : Option X) → ((y : X) → x ≡ Some y → Holds (f y)) → option_map f x ≡ Some a → Holds a
  mapped f None h e = absurd cc
  mapped f (Some y) h e = let same : f y ≡ a = cc in subst Holds same (h y refl)

  with_workers : (rows : List Row) (file : Text) (x : Option words.WorkersAsked) (o : words.SessionAsked) → ((w : words.WorkersAsked) → x ≡ Some w → AreFew w) → option_map (words.session_with rows file) x ≡ Some o → AreFew o.workers
  with_workers rows file None o h e = absurd cc
  with_workers rows file (Some w) o h e = let same : words.session_with rows file w ≡ o = cc in subst (λ (x : words.SessionAsked). AreFew x.workers) same (h w refl)

  of_session : (rows : List Row) (file : Option Text) (o : words.SessionAsked) → option_and_then (λ f. option_map (words.session_with rows f) (words.workers_of rows)) file ≡ Some o → AreFew o.workers
  of_session rows None o e = absurd cc
  of_session rows (Some f) o e = with_workers rows f (words.workers_of rows) o (λ w h. are_few w rows h) e

  with_links : (rows : List Row) (file listen : Text) (w : words.WorkersAsked) (x : Option ℕ) (o : words.ServeAsked) → AreFew w → ((n : ℕ) → x ≡ Some n → n ≤ 64) → option_map (words.serve_with rows file w listen) x ≡ Some o → AreFew o.workers × (o.links ≤ 64)
  with_links rows file listen w None o few most e = absurd cc
  with_links rows file listen w (Some n) o few most e =
      let same : words.serve_with rows file w listen n ≡ o = cc in
      subst (λ (x : words.ServeAsked). AreFew x.workers × (x.links ≤ 64)) same (few, most n refl)

  with_listen : (rows : List Row) (file : Text) (w : words.WorkersAsked) (x : Option Text) (y : Option ℕ) (o : words.ServeAsked) → AreFew w → ((n : ℕ) → y ≡ Some n → n ≤ 64) → option_and_then (λ listen. option_map (words.serve_with rows file w listen) y) x ≡ Some o
      → AreFew o.workers × (o.links ≤ 64)
  with_listen rows file w None y o few most e = absurd cc
  with_listen rows file w (Some listen) y o few most e = with_links rows file listen w y o few most e

  with_crew : (rows : List Row) (file : Text) (x : Option words.WorkersAsked) (l : Option Text) (y : Option ℕ) (o : words.ServeAsked) → ((w : words.WorkersAsked) → x ≡ Some w → AreFew w) → ((n : ℕ) → y ≡ Some n → n ≤ 64)
      → option_and_then (λ w. option_and_then (λ listen. option_map (words.serve_with rows file w listen) y) l) x ≡ Some o → AreFew o.workers × (o.links ≤ 64)
  with_crew rows file None l y o few most e = absurd cc
  with_crew rows file (Some w) l y o few most e = with_listen rows file w l y o (few w refl) most e

  of_serve : (rows : List Row) (file : Option Text) (o : words.ServeAsked)
      → option_and_then (λ f. option_and_then (λ w. option_and_then (λ listen. option_map (words.serve_with rows f w listen) (words.links_of rows)) (first_of (codes "listen") rows)) (words.workers_of rows)) file ≡ Some o → AreFew o.workers × (o.links ≤ 64)
  of_serve rows None o e = absurd cc
  of_serve rows (Some f) o e = with_crew rows f (words.workers_of rows) (first_of (codes "listen") rows) (words.links_of rows) o (λ w h. are_few w rows h) (λ n h. few_links (words.forever_of rows) (first_of (codes "links") rows) n h) e

  chosen : (rows : List Row) (p c l g s v : Bool)
      → (if p then option_map words.plan (words.plan_of rows)
      else (if c then option_map words.check (words.check_of rows)
      else (if l then option_map words.apply (words.apply_of rows)
      else (if g then option_map words.gen (words.gen_of rows)
      else (if s then option_map words.session (words.session_of rows)
      else (if v then option_map words.serve (words.serve_of rows) else None)))))) ≡ Some a → Holds a
  chosen rows true c l g s v h = mapped words.plan (words.plan_of rows) (λ y e. tt) h
  chosen rows false true l g s v h = mapped words.check (words.check_of rows) (λ y e. tt) h
  chosen rows false false true g s v h = mapped words.apply (words.apply_of rows) (λ y e. tt) h
  chosen rows false false false true s v h = mapped words.gen (words.gen_of rows) (λ y e. tt) h
  chosen rows false false false false true v h = mapped words.session (words.session_of rows) (λ y e. of_session rows _ y e) h
  chosen rows false false false false false true h = mapped words.serve (words.serve_of rows) (λ y e. of_serve rows _ y e) h
  chosen rows false false false false false false h = absurd cc

  found : (s : Option (Text × List Row)) → option_and_then words.asked_of s ≡ Some a → Holds a
  found None h = absurd cc
  found (Some p) h = chosen p.1 _ _ _ _ _ _ h

  unrefused : (ks : Kinds) (s : Option (Text × List Row)) → words.unless_refused ks (option_and_then words.asked_of s) ≡ Some a → Holds a
  unrefused [] s h = found s h
  unrefused (k ∷ ks) s h = absurd cc

abbrev IsFew : CrewAsked → Type 0
IsFew c = (c.movers ≤ 64) × (c.planners ≤ 4) × (links_in c.serving ≤ 64)

lived : (a : words.Asked) (l : LiveAsked) → Holds a → live_of a ≡ Some l → IsFew l.crew
lived (words.session o) l h e = let same : record { file = o.file; crew = record { movers = o.workers.movers; planners = o.workers.planners; serving = None; reviews = o.review } } ≡ l = cc in subst (λ (x : LiveAsked). IsFew x.crew) same (h.0, h.1, omega arith)
lived (words.serve o) l h e =
    let same : record { file = o.file; crew = record { movers = o.workers.movers; planners = o.workers.planners; serving = Some (record { address = o.listen; links = o.links; forever = o.forever; page = o.page }); reviews = o.review } } ≡ l = cc in
    subst (λ (x : LiveAsked). IsFew x.crew) same (h.0.0, h.0.1, h.1)
lived _ l h e = absurd cc

by_words : (x : Option words.Asked) (l : LiveAsked) → ((a : words.Asked) → x ≡ Some a → Holds a) → option_and_then live_of x ≡ Some l → IsFew l.crew
by_words None l h e = absurd cc
by_words (Some a) l h e = lived a l (h a refl) e

-- at most 64 movers, 4 planners and 64 links
pub few_workers : (given : List Text) (l : LiveAsked) → live_command given ≡ Some l → IsFew l.crew
few_workers given l e = by_words (words.meaning given) l (λ a h. unrefused a (fault_of the_app given) (subcommand_of the_app given) h) e
