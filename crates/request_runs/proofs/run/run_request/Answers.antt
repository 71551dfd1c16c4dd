use Rattle.std.proofs.Common.{[], refl}
use Rattle.std.specs.Prelude.{Some}
use Rattle.cluster_json.specs.Views.{file_seen}
use Rattle.control_core.specs.Books.{state_of}
use Rattle.core_terms.specs.Asked.{goals_of}
use Rattle.request_runs.specs.Runs.{cluster_asked}
use Rattle.request_runs.proofs.Made.{came_is, end_of, quiet, run}
use Rattle.request_runs.proofs.run.run_request.Goals as goal

pub carry_out-requires : goal.carry_out-requires
carry_out-requires g c =
    (c.type_bounds.sync-R, quiet (file_seen c.args.file) c.args.ask c.requires.brokers c.requires.goals c.requires.carried c.requires.plans c.in_ok-book.book c.in_ok-book.ensures.file c.in_ok-book.ensures.journal)

pub returns-clause-run : goal.returns-clause-run
returns-clause-run g c =
    run (file_seen c.args.file) c.args.ask c.requires.brokers c.requires.goals c.requires.carried c.requires.plans c.in_ok-book.book c.carry_out.new.book c.step.new.self
    (record { made = Some []; faults = 0 }) (record { made = c.in_ok-carry_out.ensures.rounds.0; faults = 0 }) refl c.in_ok-book.ensures.file c.in_ok-book.ensures.journal
    c.in_ok-carry_out.ensures.rounds.1 c.carry_out.ensures.file c.in_ok-carry_out.ensures.done c.in-Ok.ensures.file
    (rw (c.in_ok-question.ensures, c.in_ok-book.ensures.id) at c.in-Ok.ensures.entry) c.entries-legal.ensures.legal c.entries-legal.ensures.input

pub unreachable-requires : goal.unreachable-requires
unreachable-requires g c =
    let ends =
    end_of (file_seen c.args.file) c.args.ask c.requires.brokers c.requires.goals c.requires.carried c.requires.plans c.in_ok-book.book c.carry_out.new.book c.step.new.self
    (record { made = Some []; faults = 0 }) (record { made = c.in_ok-carry_out.ensures.rounds.0; faults = 0 }) refl c.in_ok-book.ensures.file c.in_ok-book.ensures.journal
    c.in_ok-carry_out.ensures.rounds.1 c.carry_out.ensures.file c.in_ok-carry_out.ensures.done c.in-Ok.ensures.file
    (rw (c.in_ok-question.ensures, c.in_ok-book.ensures.id) at c.in-Ok.ensures.entry) c.entries-legal.ensures.legal c.entries-legal.ensures.input
    c.in-Ok.reply c.broken_of.result
    (rw (c.in_ok-question.ensures, c.in_ok-book.ensures.id) at c.in-Ok.ensures.reply) c.broken_of.ensures.done c.broken_of.ensures.failed in
    c.in_default.not-Some ends.0 ends.1

pub returns-clause-came : goal.returns-clause-came
returns-clause-came g c =
    let ends =
    end_of (file_seen c.args.file) c.args.ask c.requires.brokers c.requires.goals c.requires.carried c.requires.plans c.in_ok-book.book c.carry_out.new.book c.step.new.self
    (record { made = Some []; faults = 0 }) (record { made = c.in_ok-carry_out.ensures.rounds.0; faults = 0 }) refl c.in_ok-book.ensures.file c.in_ok-book.ensures.journal
    c.in_ok-carry_out.ensures.rounds.1 c.carry_out.ensures.file c.in_ok-carry_out.ensures.done c.in-Ok.ensures.file
    (rw (c.in_ok-question.ensures, c.in_ok-book.ensures.id) at c.in-Ok.ensures.entry) c.entries-legal.ensures.legal c.entries-legal.ensures.input
    c.in-Ok.reply c.broken_of.result
    (rw (c.in_ok-question.ensures, c.in_ok-book.ensures.id) at c.in-Ok.ensures.reply) c.broken_of.ensures.done c.broken_of.ensures.failed in
    came_is (cluster_asked c.args.ask (file_seen c.args.file)) c.args.file.lists (goals_of c.args.ask) (state_of c.step.new.self).desk.exec c.broken_of.result c.in-Some.broken c.in-Some.is ends
