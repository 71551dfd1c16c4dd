use Rattle.std.proofs.Common.{◌≤◌, Some, ap, ◌∙◌}
use Rattle.serde_json.specs.Data.{depth}
use Rattle.serde_json.specs.View.{view}
use Rattle.serde_json.specs.Written.{has_float, compact_text}
use Rattle.proposal_set.specs.Text.{assignment_text}
use Rattle.proposal_set.proofs.Plain.{IsPlain-lists, no_float-reassignment, depth-reassignment}
use Rattle.proposal_set.proofs.text.assignment_text.Goals as goal

pub returns-clause-text : goal.returns-clause-text
unfolding assignment_text
returns-clause-text c =
    let is = rw (c.in_ok-entries.ensures, c.parts.ensures.value) at c.in_ok-value.ensures in
    let plain = IsPlain-lists c.args.case.now.parts c.args.lists.now in
    c.in_ok-to_vec.ensures.text (ap has_float is ∙ no_float-reassignment _ plain) ∙ ap compact_text is

pub returns-clause-reads : goal.returns-clause-reads
returns-clause-reads c =
    let is = rw (c.in_ok-entries.ensures, c.parts.ensures.value) at c.in_ok-value.ensures in
    let plain = IsPlain-lists c.args.case.now.parts c.args.lists.now in
    let shallow : depth (view c.in_ok-value.value) ≤ 127 = rw is (depth-reassignment _ plain) in
    c.in_ok-to_vec.ensures.reads_back shallow ∙ ap Some is
