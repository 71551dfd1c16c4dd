use denote.RattleType.{RattleType}
use denote.Param.Send.{IsSync, part_keyless}
use Rattle.turn_book.specs.contracts.journal.Entry.{the_row}
use Rattle.turn_book.proofs.journal.Entry.TheSendSync.Send.{send}

pub sync : (E : RattleType) → IsSync (the_row E)
sync E = record { shared = λ d b o κ q. part_keyless (the_row E) (send E) q d b o }
