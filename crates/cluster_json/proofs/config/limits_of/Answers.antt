use Rattle.std.proofs.Common.{refl}
use Rattle.cluster_json.proofs.config.limits_of.Goals as goal

pub returns : goal.returns
returns c = rw (c.in_ok-ratio_setting.ensures.value, c.in_ok-ratio_setting-2.ensures.value, c.in_ok-ratio_setting-3.ensures.value, c.in_ok-ratio_setting-4.ensures.value) refl
