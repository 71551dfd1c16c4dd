use Rattle.std.proofs.Common.{◌≡◌, ◌∙◌, List, ℕ, true, cond, bytes_eq, string_bytes, ap}
use Rattle.std.specs.HashSet.{contains_text}
use Rattle.std.proofs.lemmas.Map.Text.{hash_set_updates_text}
use Rattle.core_cases.proofs.Topics.{any-more}
use Rattle.core_cases.proofs.asked.set_of.Goals as goal

pub loop-topic-preserved : goal.loop-topic-preserved
loop-topic-preserved c = λ topic.
    let name = string_bytes c.in_ok-from_str.field-0 in
    let is : name ≡ c.topic-item.result = c.in_ok-from_str.ensures.ok ∙ c.as_str.ensures in
    any-more topic c.topic-item.result c.args.topics.now c.loop-topic.topic-index (contains_text c.loop-topic.set topic) (contains_text c.insert.new.self topic) c.loop-topic-test.true
    c.topic-item.is (c.loop-topic.invariant topic)
    (hash_set_updates_text name c.loop-topic.set c.insert.new.self true c.in_ok-insert.ensures.updates topic
    ∙ ap (λ (text : List ℕ). cond (bytes_eq text topic) true (contains_text c.loop-topic.set topic)) is)
