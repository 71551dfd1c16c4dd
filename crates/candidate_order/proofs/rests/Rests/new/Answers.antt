use Rattle.std.proofs.Common.{◌≡◌, ℕ, ◌∙◌, ap, List, length, replicate}
use Rattle.candidate_order.proofs.RestLemmas.{rests-new, all-times}
use Rattle.candidate_order.proofs.rests.Rests.new.Goals as goal

abbrev zeros : ℕ → List ℕ
zeros n = replicate n 0

pub returns : goal.returns
returns g c =
    rests-new c.args.case.now _ c.args.book.now.lists _
    (c.in_ok-vec.ensures.items_if_clones_equal (λ _ e. e) ∙ ap zeros (ap length c.brokers-brokers.ensures.value))
    (c.in_ok-vec-2.ensures.items_if_clones_equal (λ _ e. e) ∙ ap zeros (ap length c.parts-parts.ensures.value))
    (all-times _ _
    (c.in_ok-vec-3.ensures.items_if_clones_equal (λ _ e. e) ∙ ap zeros (ap length c.brokers-brokers.ensures.value))
    (c.in_ok-vec-4.ensures.items_if_clones_equal (λ _ e. e) ∙ ap zeros (ap length c.brokers-brokers.ensures.value))
    (c.in_ok-vec-5.ensures.items_if_clones_equal (λ _ e. e) ∙ ap zeros (ap length c.brokers-brokers.ensures.value)))
