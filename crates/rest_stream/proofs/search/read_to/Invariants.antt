use Rattle.std.proofs.Common.{◌≡◌, ◌≤◌, ◌-◌, length}
use Rattle.rest_stream.specs.Stream.{ReadsNothing, stream_of}
use Rattle.rest_stream.proofs.search.read_to.Given as goal

abbrev pub invariant-loop-inbox : goal.invariant-loop-inbox
invariant-loop-inbox g l = record {
  stream : stream_of l.inbox.held.items (g.S.Source.left l.source) ≡ stream_of l.fn.inbox.held.items (g.S.Source.left l.fn.source);
  kept : g.S.Source.faults l.source ≡ g.S.Source.faults l.fn.source;
  unread : l.count ≤ length l.fn.inbox.held.items → ReadsNothing l.fn.inbox.held.items l.inbox.held.items (g.S.Source.left l.fn.source) (g.S.Source.left l.source);
  beside : g.S.Source.beside l.source ≡ g.S.Source.beside l.fn.source;
}

abbrev pub decreases-loop-inbox : goal.decreases-loop-inbox
decreases-loop-inbox g l = l.count - length l.inbox.held.items
