use Rattle.matchit.proofs.OnLiterals.{matchit_on_literals}
use Rattle.rest_parse.proofs.routes.add_others.Goals as goal

pub returns : goal.returns
unfolding matchit_on_literals
returns c =
    let s1 = c.in_ok-insert.ensures.1 in
    let s2 = c.in_ok-insert-2.ensures.1 in
    let s3 = c.in_ok-insert-3.ensures.1 in
    let s4 = c.in_ok-insert-4.ensures.1 in
    let s5 = c.in_ok-insert-5.ensures.1 in
    rw (s5, s4, s3, s2, s1, c.requires) at c.in_ok-insert-6.ensures.1
