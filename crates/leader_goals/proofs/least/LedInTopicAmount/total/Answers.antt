use Rattle.std.proofs.Common.{◌≡◌, ◌∙◌, Bool, true, false, List, ℕ, zero, [], get_or, refl, sym, ap}
use Rattle.std.specs.Prelude.{bytes_eq, if◌then◌else◌}
use Rattle.goal_terms.proofs.ReadingLemmas.{total-read}
use Rattle.goal_terms.specs.LeastLeaders.{led_weights}
use Rattle.goal_terms.specs.Quantity.{total}
use Rattle.load_model.specs.Places.{topic_at}
use Rattle.load_model.specs.Totals.{whole}
use Rattle.plan_terms.specs.declared.cluster.Part.{Part}
use Rattle.plan_terms.proofs.SameLemmas.{topics_same}
use Rattle.leader_goals.proofs.least.LedInTopicAmount.total.Goals as goal

-- nothing either way
neither : (b : Bool) → (if b then 0 else 0) ≡ zero
neither true = refl
neither false = refl

pub returns : goal.returns
returns c =
    let topic = topic_at c.args.book.now.cluster.parts c.args.self.now.place in
    let named = ap (λ (ts : List (List ℕ)). get_or ts c.args.self.now.place []) (topics_same _ _ c.requires.belongs.same_loads) ∙ c.requires.made.1 in
    let follow : (λ (p : Part). zero) ≡ (λ (p : Part). if bytes_eq p.topic topic then 0 else 0) = λ j p. sym (neither (bytes_eq p.topic topic)) j in
    c.from.ensures ∙ c.total_topic_leaders.ensures.value
    ∙ ap (λ (f : Part → ℕ). whole (λ p. if bytes_eq p.topic topic then 1 else 0) f c.args.book.now.cluster.parts c.args.book.now.lists) follow
    ∙ total-read (λ t l. if bytes_eq t topic then 1 else 0) (λ t l. if bytes_eq t topic then 0 else 0) c.args.book.now.cluster c.args._case.now c.args.book.now.lists c.requires.belongs.same_loads
    ∙ ap (λ t. total (led_weights t) c.args._case.now.parts c.args.book.now.lists) named
