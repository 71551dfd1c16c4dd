use Rattle.std.proofs.Common.{arith, subst}
use Rattle.std.specs.Prelude.{Option, Some, []}
use Rattle.cluster_gate.specs.declared.memory.MemoryCopier.{MemoryCopier}
use Rattle.cluster_json.specs.File.{Meaning}
use Rattle.control_core.specs.Books.{state_of}
use Rattle.core_terms.specs.Sound.{IsSound}
use Rattle.mover_rounds.specs.Made.{Copies}
use Rattle.rest_session.specs.Sessions.{IsSession}
use Rattle.review_board.specs.Asked.{BoardKnown}
use Rattle.quiet_commands.specs.Sessions.{board_kept, no_copies}
use Rattle.quiet_commands.proofs.Blameless.{no_fault}
use Rattle.quiet_commands.proofs.sessions.serve.Goals as goal

abbrev copies_of : MemoryCopier → Copies
copies_of copier = record { made = Some copier.copies.items; faults = 0 }

pub returns-clause-did : goal.returns-clause-did
returns-clause-did g c =
    let s = c.run_session-ended in
    let legal = c.entries-legal.ensures in
    let made = rw c.new-copier.ensures at s.ensures.session in
    λ reviews journal began ended.
    let before = subst (λ (x : Option BoardKnown). IsSession c.args.book.now s.new.book x (g.V.Reviewer.board s.new.reviewer) no_copies (copies_of s.new.copier) (g.L.Source.left c.args.console.now) (g.L.Sink.written c.args.console.now) (g.L.Sink.written s.new.link) s.result) began made in
    let session = subst (λ (x : Option BoardKnown). IsSession c.args.book.now s.new.book (board_kept reviews []) x no_copies (copies_of s.new.copier) (g.L.Source.left c.args.console.now) (g.L.Sink.written c.args.console.now) (g.L.Sink.written s.new.link) s.result) ended before in (
      s.result,
      c.ended_by.ensures,
      record {
        before = c.args.book.now;
        after = s.new.book;
        copies = copies_of s.new.copier;
        opening = c.requires;
        board = journal;
        session = session;
        legal = legal.legal;
        file_is = s.ensures.since.file;
        sound = subst (λ (m : Meaning). IsSound m (state_of s.new.book).desk) s.ensures.since.file (c.every_history.ensures.histories s.new.book.file s.new.book.journal legal.input legal.legal);
        shown = c.every_history.ensures.lists s.new.book.file s.new.book.journal legal.input legal.legal;
        drained = s.ensures.drained;
        no_failure = omega (arith, session.failed);
        no_admin_fault = no_fault c.args.book.now.failures session.faults s.new.book.failures s.result.drain session.answered.pieces (omega (arith, c.failures-few.ensures.value, c.failures-few.ensures.few)) session.drain_blamed session.answered.blamed;
        read_fault = s.ensures.read_fault;
        write_fault = s.ensures.write_fault;
      },
    )
