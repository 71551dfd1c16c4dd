use Rattle.cluster_json.specs.Views.{file_seen}
use Rattle.quiet_commands.specs.Commands.{asked}
use Rattle.quiet_commands.proofs.Ending.{first_loaded, logged, ran}
use Rattle.quiet_commands.proofs.quiet.run.Goals as goal

pub returns-in-Ok-load-clause-runs : goal.returns-in-Ok-load-clause-runs
returns-in-Ok-load-clause-runs g c =
    ran _ (asked c.in-Ok.request) c.in-Ok.ensures.ok _ (file_seen c.in-Ok-load.file) c.in-Ok-load.ensures.loads _ c.in-Ok-load.ensures.later
    c.perform.result (rw c.in-Ok-load.ensures.contents at c.perform.ensures.performs)

pub returns-in-Ok-load-clause-logs : goal.returns-in-Ok-load-clause-logs
returns-in-Ok-load-clause-logs g c =
    logged _ (asked c.in-Ok.request) c.in-Ok.ensures.ok (g.F.Files.contents c.args.files.now) (file_seen c.in-Ok-load.file) c.in-Ok-load.ensures.loads _ _ _ c.in-Ok-load.ensures.logs c.perform.result c.perform.ensures.logs

pub returns-in-Err-Failed-clause-logs : goal.returns-in-Err-Failed-clause-logs
returns-in-Err-Failed-clause-logs g c =
    first_loaded _ (asked c.in-Ok.request) c.in-Ok.ensures.ok _ _ _ (rw c.in-Err-Failed.field-0-is at c.in-Err-Failed.ensures.logs)

pub returns-clause-logs : goal.returns-clause-logs
returns-clause-logs g c =
    first_loaded _ (asked c.in-Ok.request) c.in-Ok.ensures.ok _ _ _ (rw c.in-Err-Memory-load.field-0-is at c.in-Err-Memory-load.ensures.logs)
