-- Why a change of the replication factor can't be had.
use Rattle.std.specs.Prelude.{Option, Some, None}
use Rattle.factor_change.specs.declared.fault.ResizeFault.{ResizeFault}
use Rattle.factor_change.specs.declared.fault.ResizeFault.TheVariants as fault
use Rattle.core_terms.specs.declared.replies.Reply.{Reply}
use Rattle.core_terms.specs.declared.replies.Reply.TheVariants as reply

-- the reply that tells it; want of memory has none
abbrev pub told_of : ResizeFault → Option Reply
told_of (fault.NoSuchTopic topic) = Some (reply.NoSuchTopic topic)
told_of (fault.TooFewBrokers n) = Some (reply.TooFewBrokers n)
told_of fault.Memory = None
