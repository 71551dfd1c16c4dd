use Rattle.std.proofs.Common.{rules, ◌≡◌, true}
use Rattle.exec_terms.specs.Machine.{any_unfinished}
use Rattle.control_core.proofs.Working.{anyhow, new_call, new_list, working}
use Rattle.control_core.proofs.writes.finish.Goals as goal

pub proposal-proposal-requires : goal.proposal-proposal-requires
proposal-proposal-requires g c = (working c.args.exec.now c.args.lease c.args.kind c.in-Ok.task c.state_is_valid.ensures c.in-Ok.ensures).there

pub cancel-requires-clause-installed : goal.cancel-requires-clause-installed
cancel-requires-clause-installed g c = rw (c.proposal-proposal.ensures, c.requires.installed) (working c.args.exec.now c.args.lease c.args.kind c.in-Ok.task c.state_is_valid.ensures c.in-Ok.ensures).part

pub cancel-requires-clause-few : goal.cancel-requires-clause-few
cancel-requires-clause-few g c = rw (c.as_slice.ensures, c.proposal-proposal.ensures) (working c.args.exec.now c.args.lease c.args.kind c.in-Ok.task c.state_is_valid.ensures c.in-Ok.ensures).before

pub commit-requires-clause-installed : goal.commit-requires-clause-installed
commit-requires-clause-installed g c = rw (c.proposal-proposal.ensures, c.requires.installed) (working c.args.exec.now c.args.lease c.args.kind c.in-Ok.task c.state_is_valid.ensures c.in-Ok.ensures).part

pub commit-requires-clause-few : goal.commit-requires-clause-few
commit-requires-clause-few g c = rw (c.as_slice-in_default-kind.ensures, c.proposal-proposal.ensures) (working c.args.exec.now c.args.lease c.args.kind c.in-Ok.task c.state_is_valid.ensures c.in-Ok.ensures).after

pub returns-in-Cancel-clause-busy : goal.returns-in-Cancel-clause-busy
returns-in-Cancel-clause-busy g c = anyhow (any_unfinished c.args.exec.now.tasks ≡ true) c.cancel.result (working c.args.exec.now c.args.lease c.args.kind c.in-Ok.task c.state_is_valid.ensures c.in-Ok.ensures).busy

pub returns-in_default-kind-clause-told : goal.returns-in_default-kind-clause-told
returns-in_default-kind-clause-told g c = rw (new_list c.args.kind c.in_default-kind.not-Cancel) (search rules)

pub returns-in_default-kind-clause-called : goal.returns-in_default-kind-clause-called
returns-in_default-kind-clause-called g c = rw (new_list c.args.kind c.in_default-kind.not-Cancel, new_call c.args.kind c.in_default-kind.not-Cancel) (search rules)

pub returns-in_default-kind-clause-busy : goal.returns-in_default-kind-clause-busy
returns-in_default-kind-clause-busy g c = anyhow (any_unfinished c.args.exec.now.tasks ≡ true) c.commit.result (working c.args.exec.now c.args.lease c.args.kind c.in-Ok.task c.state_is_valid.ensures c.in-Ok.ensures).busy
