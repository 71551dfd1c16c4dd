use Rattle.review_board.proofs.Histories.{filed_once, given_as_filed, given_once, given_when_approved, never_given}
use Rattle.review_board.proofs.laws.every_board.Goals as goal

pub returns-clause-filed_once : goal.returns-clause-filed_once
returns-clause-filed_once c = filed_once

pub returns-clause-given_once : goal.returns-clause-given_once
returns-clause-given_once c = given_once

pub returns-clause-approved : goal.returns-clause-approved
returns-clause-approved c = given_when_approved

pub returns-clause-as_filed : goal.returns-clause-as_filed
returns-clause-as_filed c = given_as_filed

pub returns-clause-discarded : goal.returns-clause-discarded
returns-clause-discarded c = never_given
