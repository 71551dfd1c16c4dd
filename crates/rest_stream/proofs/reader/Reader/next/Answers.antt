use Rattle.std.proofs.Common.{◌≡◌, ◌+◌, ◌^◌, ℕ, suc, nat_le, arith, subst}
use Rattle.rest_stream.specs.Stream.{IsRequest}
use Rattle.rest_stream.proofs.reader.Reader.next.Goals as goal

pub returns-in-Ok-clause-unread : goal.returns-in-Ok-clause-unread
returns-in-Ok-clause-unread g c = rw (← c.self.view_is) (λ none raw rest is.
    let one : suc c.self.inside.given ≡ c.self.inside.given + 1 = omega arith in
    c.take_request.ensures.unread raw rest (subst (λ (n : ℕ). IsRequest (nat_le (2 ^ 48) n) c.self.inside.inbox.held.items raw rest) one is))

pub returns-in-Err-clause-unread : goal.returns-in-Err-clause-unread
returns-in-Err-clause-unread g c = rw (← c.self.view_is) (λ none raw rest is.
    let one : suc c.self.inside.given ≡ c.self.inside.given + 1 = omega arith in
    c.take_request.ensures.unread raw rest (subst (λ (n : ℕ). IsRequest (nat_le (2 ^ 48) n) c.self.inside.inbox.held.items raw rest) one is))
