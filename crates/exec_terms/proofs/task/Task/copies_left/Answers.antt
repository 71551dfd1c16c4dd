use Rattle.std.proofs.Common.{rules, ◌≡◌, length, arith}
use Rattle.exec_terms.specs.Words.{copies_left}
use Rattle.plan_terms.specs.Change.{added}
use Rattle.exec_terms.proofs.Copies.{length-copies, few_copies}
use Rattle.exec_terms.proofs.task.Task.copies_left.Goals as goal

pub overflow_mul-result : goal.overflow_mul-result
overflow_mul-result c =
    let n : c.added_count.result ≡ length (added c.args.self.now.before c.args.self.now.after) = search rules in
    rw n (omega (arith, length-copies c.args.self.now, few_copies c.args.self.now c.requires.few c.requires.chunks))

pub overflow_sub-result : goal.overflow_sub-result
overflow_sub-result c =
    let n : c.added_count.result ≡ length (added c.args.self.now.before c.args.self.now.after) = search rules in
    rw n (omega (arith, length-copies c.args.self.now, c.requires.done))

pub returns : goal.returns
unfolding copies_left
returns c =
    let n : c.added_count.result ≡ length (added c.args.self.now.before c.args.self.now.after) = search rules in
    rw n (omega (arith, length-copies c.args.self.now))
