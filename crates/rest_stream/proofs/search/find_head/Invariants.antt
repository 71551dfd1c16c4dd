use Rattle.std.proofs.Common.{◌≡◌, ◌-◌, length}
use Rattle.rest_stream.specs.Stream.{HoldsHead, ReadsNothing, stream_of}
use Rattle.rest_stream.proofs.search.find_head.Given as goal

abbrev pub invariant-loop-looked : goal.invariant-loop-looked
invariant-loop-looked g l = record {
  stream : stream_of l.inbox.held.items (g.S.Source.left l.source) ≡ stream_of l.fn.inbox.held.items (g.S.Source.left l.fn.source);
  kept : g.S.Source.faults l.source ≡ g.S.Source.faults l.fn.source;
  unread : HoldsHead l.fn.inbox.held.items → (l.looked ≡ 0) × ReadsNothing l.fn.inbox.held.items l.inbox.held.items (g.S.Source.left l.fn.source) (g.S.Source.left l.source);
  beside : g.S.Source.beside l.source ≡ g.S.Source.beside l.fn.source;
}

abbrev pub decreases-loop-looked : goal.decreases-loop-looked
decreases-loop-looked g l = 16384 - length l.inbox.held.items
