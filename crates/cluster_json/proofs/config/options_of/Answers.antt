use Rattle.std.proofs.Common.{refl}
use Rattle.cluster_json.specs.Config.{options_of}
use Rattle.cluster_json.proofs.config.options_of.Goals as goal

pub returns : goal.returns
unfolding options_of
returns c = rw (c.in_ok-limits_of.ensures, c.in_ok-balances_of.ensures, c.in_ok-ratio_setting.ensures.value, c.in_ok-ratio_setting-2.ensures.value, c.in_ok-ratio_setting-3.ensures.value, c.in_ok-most.ensures.value, c.new-2.ensures, c.new.ensures.items) refl
