use Rattle.std.proofs.Common.{List, map, refl, ap, sym, ◌∙◌}
use Rattle.std.proofs.lemmas.Result.{on_ok_weaker}
use Rattle.sx_machine.specs.declared.session.Frame.{Frame}
use Rattle.sx_machine.specs.declared.session.Job.TheVariants as job
use Rattle.sx_machine.specs.Plan.{last_job, task_of}
use Rattle.sx_machine.proofs.Moves.{start_skipped, start_deep, left_is}
use Rattle.sx_machine.proofs.session.Session.start_element.Goals as goal

pub returns-in-Skip-clause-ok : goal.returns-in-Skip-clause-ok
returns-in-Skip-clause-ok c = on_ok_weaker c.push.result (λ more sheet known invocations d e given keeps distinct there name attributes o s.
    let old = c.args.self.now in
    let j = ap (λ (fs : List Frame). last_job old.root (map (task_of known old.rules.list) fs)) (sym c.as_slice.ensures) ∙ sym (c.in-Skip.ensures known old.rules.list) in
    start_skipped sheet known invocations old d given s c.requires o _ refl refl refl e _ j refl more refl c.requires) c.push.ensures.ok

pub returns-then-left-eq0-clause-ok : goal.returns-then-left-eq0-clause-ok
returns-then-left-eq0-clause-ok c = λ sheet known invocations d e given keeps distinct there name attributes o s.
    let old = c.args.self.now in
    let j = ap (λ (fs : List Frame). last_job old.root (map (task_of known old.rules.list) fs)) (sym c.as_slice.ensures) ∙ sym (c.in-Apply.ensures known old.rules.list) in
    start_deep sheet known invocations old d given s c.requires o _ refl refl refl e c.in-Apply.left j c.if-left-eq0.true refl refl

pub returns-else-left-eq0-clause-ok : goal.returns-else-left-eq0-clause-ok
returns-else-left-eq0-clause-ok c = on_ok_weaker c.enter.result (λ entered sheet known invocations d e given keeps distinct there name attributes o s.
    let old = c.args.self.now in
    let j = ap (λ (fs : List Frame). last_job old.root (map (task_of known old.rules.list) fs)) (sym c.as_slice.ensures) ∙ sym (c.in-Apply.ensures known old.rules.list)
    ∙ ap job.Apply (left_is c.in-Apply.left c.if-left-eq0.false) in
    entered sheet known invocations d e given keeps distinct there name attributes o j s) c.enter.ensures.ok
