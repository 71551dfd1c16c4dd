-- What the owner of a book knows.
use Rattle.std.specs.Prelude.{[]}
use Rattle.control_core.specs.Books.{BookView}
use Rattle.mover_rounds.specs.Asked.{Known, core_rules, entries_from}

-- all of the journal, each entry of which is his own
abbrev pub known_by_owner : {A : Type 0} → BookView A → Known
known_by_owner b = record { rules = core_rules b.file; seen = b.journal; own = entries_from [] b.journal; blamed = b.failures }
