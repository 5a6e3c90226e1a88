use Rattle.sx_machine.proofs.Tasks.{last_job-last}
use Rattle.sx_machine.proofs.session.job_in.Goals as goal

pub returns-in-Some : goal.returns-in-Some
returns-in-Some c = λ names rules. last_job-last names rules c.args.root c.args.frames.now c.in-Some.frame.now c.in-Some.ensures.item.3.0 c.in-Some.ensures.item.1
