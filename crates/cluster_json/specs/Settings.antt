-- The settings of a file, by Cruise Control's names.
use Rattle.std.specs.Prelude.{◌≡◌, ◌≤◌, ℕ, Bool, true, false, ◌&&◌, ◌||◌, nat_le, List, bytes_eq, if◌then◌else◌, Option, Some, None, is_some, unwrap_or, codes, decimal}
use Rattle.std.specs.Option.{option_and_then}
use Rattle.serde_json.specs.Data.{Data, unsigned, negative, float, null, boolean, number, string, array, object}
use Rattle.serde_json.specs.Find.{get}
use Rattle.plan_terms.specs.Digits.{whole_of}
use Rattle.plan_terms.specs.Fraction.{Fraction, ratio_of}
use Rattle.cluster_json.specs.declared.settings.RatioForm.{RatioForm}
use Rattle.cluster_json.specs.declared.settings.RatioSetting.{RatioSetting}
use Rattle.cluster_json.specs.declared.settings.WholeSetting.{WholeSetting}
use Rattle.cluster_json.specs.declared.settings.RatioForm.TheVariants.{Any, FromOne, ToOne}

-- the ratio of this name, where there is one: its form, and its default in hundredths
unfoldable pub ratio_named : List ℕ → Option RatioSetting
ratio_named name =
    if bytes_eq name (codes "cpu.capacity.threshold") then Some (record { form = Any; default = 80 }) else (
    if bytes_eq name (codes "network.inbound.capacity.threshold") then Some (record { form = Any; default = 80 }) else (
    if bytes_eq name (codes "network.outbound.capacity.threshold") then Some (record { form = Any; default = 80 }) else (
    if bytes_eq name (codes "disk.capacity.threshold") then Some (record { form = Any; default = 80 }) else (
    if bytes_eq name (codes "cpu.balance.threshold") then Some (record { form = FromOne; default = 110 }) else (
    if bytes_eq name (codes "network.inbound.balance.threshold") then Some (record { form = FromOne; default = 110 }) else (
    if bytes_eq name (codes "network.outbound.balance.threshold") then Some (record { form = FromOne; default = 110 }) else (
    if bytes_eq name (codes "disk.balance.threshold") then Some (record { form = FromOne; default = 110 }) else (
    if bytes_eq name (codes "replica.count.balance.threshold") then Some (record { form = FromOne; default = 110 }) else (
    if bytes_eq name (codes "leader.replica.count.balance.threshold") then Some (record { form = FromOne; default = 110 }) else (
    if bytes_eq name (codes "topic.replica.count.balance.threshold") then Some (record { form = FromOne; default = 300 }) else (
    if bytes_eq name (codes "min.valid.partition.ratio") then Some (record { form = ToOne; default = 95 }) else None)))))))))))

-- the whole number of this name, where there is one: its range, and its default
unfoldable pub whole_named : List ℕ → Option WholeSetting
whole_named name =
    if bytes_eq name (codes "max.replicas.per.broker") then Some (record { least = 0; most = 1000000; default = 10000 }) else (
    if bytes_eq name (codes "num.concurrent.partition.movements.per.broker") then Some (record { least = 1; most = 10000; default = 10 }) else (
    if bytes_eq name (codes "max.num.cluster.movements") then Some (record { least = 1; most = 10000; default = 1250 }) else (
    if bytes_eq name (codes "num.concurrent.leader.movements") then Some (record { least = 1; most = 10000; default = 1000 }) else (
    if bytes_eq name (codes "partition.metrics.window.ms") then Some (record { least = 1; most = 86400000; default = 300000 }) else (
    if bytes_eq name (codes "num.partition.metrics.windows") then Some (record { least = 1; most = 100; default = 5 }) else (
    if bytes_eq name (codes "min.samples.per.partition.metrics.window") then Some (record { least = 1; most = 65536; default = 1 }) else (
    if bytes_eq name (codes "min.valid.windows") then Some (record { least = 1; most = 100; default = 1 }) else None)))))))

-- a text, or a whole number as its decimal text
unfoldable pub setting_text : Data → Option (List ℕ)
setting_text (string s) = Some s
setting_text (number (unsigned n)) = Some (decimal n)
setting_text (number (negative z)) = None
setting_text (number (float x)) = None
setting_text null = None
setting_text (boolean b) = None
setting_text (array ds) = None
setting_text (object ms) = None

-- the number passes the test
abbrev pub such_that : {X : Type 0} → (X → Bool) → Option X → Option X
such_that test None = None
such_that test (Some x) = if test x then Some x else None

abbrev pub whole_within : ℕ → ℕ → List ℕ → Option ℕ
whole_within least most text = such_that (λ n. nat_le least n && nat_le n most) (whole_of text)

-- any ratio, one of at least 1, or one of at most 1
abbrev pub passes : RatioForm → Fraction → Bool
passes Any f = true
passes FromOne f = nat_le f.den f.num
passes ToOne f = nat_le f.num f.den

-- a ratio of the form
abbrev pub ratio_in : RatioForm → List ℕ → Option Fraction
ratio_in form text = such_that (passes form) (ratio_of text)

-- the ratio of this name takes the text
abbrev pub takes_ratio : Option RatioSetting → List ℕ → Bool
takes_ratio None text = false
takes_ratio (Some setting) text = is_some (ratio_in setting.form text)

-- the whole number of this name takes the text
abbrev pub takes_whole : Option WholeSetting → List ℕ → Bool
takes_whole None text = false
takes_whole (Some setting) text = is_some (whole_within setting.least setting.most text)

-- a text that one of the two takes
abbrev pub takes : Option RatioSetting → Option WholeSetting → Option (List ℕ) → Bool
takes ratio whole None = false
takes ratio whole (Some text) = takes_ratio ratio text || takes_whole whole text

-- there is a setting of this name, and it takes the value
unfoldable pub is_setting : List ℕ → Data → Bool
is_setting name d = takes (ratio_named name) (whole_named name) (setting_text d)

-- the text of the setting of this name, where the configuration has it
abbrev pub told : List ℕ → Option Data → Option (List ℕ)
told name config = option_and_then setting_text (option_and_then (get name) config)

-- so many hundredths
abbrev pub hundredths : ℕ → Fraction
hundredths n = record { num = n; den = 100 }

-- a ratio that the setting takes, or its default
abbrev pub ratio_by : Option RatioSetting → Option (List ℕ) → Fraction
ratio_by None text = hundredths 0
ratio_by (Some setting) text = unwrap_or (option_and_then (ratio_in setting.form) text) (hundredths setting.default)

-- a whole number that the setting takes, or its default
abbrev pub whole_by : Option WholeSetting → Option (List ℕ) → ℕ
whole_by None text = 0
whole_by (Some setting) text = unwrap_or (option_and_then (whole_within setting.least setting.most) text) setting.default

-- what the setting of this name says, or its default where it is absent
unfoldable pub ratio_setting : List ℕ → Option Data → Fraction
ratio_setting name config = ratio_by (ratio_named name) (told name config)

unfoldable pub whole_setting : List ℕ → Option Data → ℕ
whole_setting name config = whole_by (whole_named name) (told name config)

-- a setting that is there, and takes its default
abbrev pub IsRatioSetting : Option RatioSetting → Type 0
IsRatioSetting None = ⊥
IsRatioSetting (Some setting) = (passes setting.form (hundredths setting.default) ≡ true) × (setting.default ≤ 1000)

abbrev pub IsWholeSetting : Option WholeSetting → Type 0
IsWholeSetting None = ⊥
IsWholeSetting (Some setting) = (setting.least ≤ setting.default) × (setting.default ≤ setting.most)

-- a number that the setting takes
abbrev pub IsRatioOf : Option RatioSetting → Fraction → Type 0
IsRatioOf None f = ⊥
IsRatioOf (Some setting) f = passes setting.form f ≡ true

abbrev pub IsWholeOf : Option WholeSetting → ℕ → Type 0
IsWholeOf None n = ⊥
IsWholeOf (Some setting) n = (setting.least ≤ n) × (n ≤ setting.most)
