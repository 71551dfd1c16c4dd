use Rattle.quiet_commands.proofs.Complete.{complete}
use Rattle.quiet_commands.proofs.Statuses.{alone, files, input, memory, output, refuses, silent, unasked, usage}
use Rattle.quiet_commands.proofs.laws.every_quiet_run.Goals as goal

pub returns-clause-usage : goal.returns-clause-usage
returns-clause-usage c = λ r. usage r.words r.edge r.end r.runs

pub returns-clause-unasked : goal.returns-clause-unasked
returns-clause-unasked c = λ r. unasked r.words r.edge r.end r.runs

pub returns-clause-files : goal.returns-clause-files
returns-clause-files c = λ r. files r.words r.edge r.end r.runs

pub returns-clause-input : goal.returns-clause-input
returns-clause-input c = λ r. input r.words r.edge r.end r.runs

pub returns-clause-output : goal.returns-clause-output
returns-clause-output c = λ r. output r.words r.edge r.end r.runs

pub returns-clause-silent : goal.returns-clause-silent
returns-clause-silent c = λ r. silent r.words r.edge r.end r.runs

pub returns-clause-memory : goal.returns-clause-memory
returns-clause-memory c = λ r. memory r.words r.edge r.end r.runs

pub returns-clause-refuses : goal.returns-clause-refuses
returns-clause-refuses c = λ r asked bytes fault means told refused. refuses r.words r.edge asked bytes fault means told refused r.end r.runs

pub returns-clause-alone : goal.returns-clause-alone
returns-clause-alone c = λ r asked bytes fault means told refused. alone r.words r.edge asked bytes fault means told refused r.old r.new r.end r.runs r.logs

pub returns-clause-complete : goal.returns-clause-complete
returns-clause-complete c = λ r asked given. complete r.words r.edge asked given r.end r.runs
