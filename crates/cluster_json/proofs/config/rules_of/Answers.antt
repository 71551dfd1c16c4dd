use Rattle.std.proofs.Common.{refl}
use Rattle.cluster_json.specs.Config.{rules_of}
use Rattle.cluster_json.proofs.config.rules_of.Goals as goal

pub returns-clause-value : goal.returns-clause-value
unfolding rules_of
returns-clause-value c = rw (c.in_ok-width.ensures.value, c.in_ok-keep.ensures.value, c.in_ok-least.ensures.value, c.in_ok-need.ensures.value) refl
