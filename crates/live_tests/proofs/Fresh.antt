-- Links to which nothing was written.
use Rattle.std.proofs.Common.{◌≡◌, List, [], ◌∷◌, ◌++◌, ℕ}
use Rattle.std.specs.Prelude.{Option, Some}
use Rattle.std.proofs.lemmas.List.Elements.{All-push}
use Rattle.cc_base.specs.declared.link.Joined.{Joined}
use Rattle.net_links.specs.Links.{IsFresh}
use Rattle.test_fakes.specs.Handed.{AreFresh}
use Rattle.test_fakes.specs.declared.failing.Failing.{Failing}
use Rattle.test_fakes.specs.declared.memory.MemorySink.{MemorySink}
use Rattle.test_fakes.specs.declared.memory.MemorySource.{MemorySource}

abbrev pub TestLink : Type 0
TestLink = Joined (Failing MemorySource) (Failing MemorySink)

abbrev pub written : TestLink → Option (List ℕ)
written link = Some link.sink.inner.bytes.items

-- one link more
pub fresh_more : (xs : List TestLink) (x : TestLink) → AreFresh written xs → written x ≡ Some [] → AreFresh written (xs ++ x ∷ [])
fresh_more xs x h p = All-push (λ (y : TestLink). IsFresh (written y)) xs x h (let none : x.sink.inner.bytes.items ≡ [] = cc in none)
