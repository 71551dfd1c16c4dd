-- Close, asked by an actor: it stands in the history then, whoever asked it.
use Rattle.std.specs.Prelude.{◌≡◌, ◌⊎◌, ℕ, List, [], ◌∷◌, ◌++◌, length, true}
use Rattle.std.specs.List.{list_any}
use mathlib.Core.List.{IsPrefix}
use Rattle.cluster_json.specs.File.{Meaning}
use Rattle.core_laws.specs.Events.{is_close}
use Rattle.core_terms.specs.declared.events.Event.{Event}
use Rattle.core_terms.specs.declared.events.Event.TheVariants as event
use Rattle.turn_book.specs.Known.{Known as PassView}

-- Close was asked behind what a pass had seen, and is one more entry of its own
pub record HasClosed (v w : PassView Meaning Event) : Type 0 where
  pub before : List Event
  pub longer : IsPrefix v.seen before
  pub mine : w.mine ≡ v.mine ++ (length before, event.Close) ∷ []
  pub seen : w.seen ≡ before ++ event.Close ∷ []
  pub last : w.last ≡ v.last

-- it wasn't taken, since another one had asked it before
pub record WasClosed (v w : PassView Meaning Event) : Type 0 where
  pub longer : IsPrefix v.seen w.seen
  pub mine : w.mine ≡ v.mine
  pub closed : list_any is_close w.seen ≡ true
  pub last : w.last ≡ v.last

abbrev pub IsClosed : PassView Meaning Event → PassView Meaning Event → Type 0
IsClosed v w = HasClosed v w ⊎ WasClosed v w
