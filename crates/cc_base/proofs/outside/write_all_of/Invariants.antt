use Rattle.std.proofs.Common.{◌≡◌, ◌≤◌, ◌-◌, length, take}
use Rattle.cc_base.specs.Outside.{appended}
use Rattle.cc_base.proofs.outside.write_all_of.Given as goal

abbrev pub invariant-loop-done : goal.invariant-loop-done
invariant-loop-done g l = record {
  fits : l.done ≤ length l.bytes;
  out : g.S.Sink.written l.sink ≡ appended (g.S.Sink.written l.fn.sink) (take l.done l.bytes);
  kept : g.S.Sink.faults l.sink ≡ g.S.Sink.faults l.fn.sink;
  beside : g.S.Sink.beside l.sink ≡ g.S.Sink.beside l.fn.sink;
}

abbrev pub decreases-loop-done : goal.decreases-loop-done
decreases-loop-done g l = length l.bytes - l.done
