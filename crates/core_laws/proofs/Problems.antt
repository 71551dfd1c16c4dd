-- What a planner is given belongs together.
use Rattle.core_terms.specs.Plans.{problem_at}
use Rattle.core_terms.specs.Jobs.{user_task_at}
use Rattle.exec_terms.specs.Settled.{settled_lists}
use Rattle.core_laws.specs.Books.{ProblemsBelong}
use Rattle.core_laws.proofs.Clusters.{belongs_same, shape_back, shape_case}
use Rattle.core_laws.proofs.Settled.{settled_belongs}
use Rattle.core_terms.specs.Asked.{case_of}
use Rattle.core_terms.specs.State.{present}

pub problems_belong : ProblemsBelong
unfolding problem_at
problems_belong file s i sound =
    let ask = (user_task_at s.desk.tasks i).ask in
    belongs_same file.cluster (case_of ask (present file s.desk.exec.hosts s.samples)) (settled_lists s.desk.exec)
    (shape_back (case_of ask (present file s.desk.exec.hosts s.samples)) file.cluster (shape_case file s.desk.exec.hosts s.samples ask)) (settled_belongs file.cluster s.desk.exec sound.exec)
