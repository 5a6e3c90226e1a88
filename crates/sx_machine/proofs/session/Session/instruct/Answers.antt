use Rattle.std.proofs.Common.{List, map, refl, ap, sym, ◌∙◌}
use Rattle.std.proofs.lemmas.Result.{on_ok_weaker}
use Rattle.sx_machine.specs.declared.session.Frame.{Frame}
use Rattle.sx_machine.specs.declared.session.Job.TheVariants as job
use Rattle.sx_machine.specs.Plan.{last_job, task_of}
use Rattle.sx_machine.proofs.Moves.{instruction_skipped, instruction_quiet, instruction_deep, instruction_comes, left_is}
use Rattle.sx_machine.proofs.session.Session.instruct.Goals as goal

pub returns-in-Skip-clause-ok : goal.returns-in-Skip-clause-ok
returns-in-Skip-clause-ok c = λ sheet known invocations d given o s.
    let old = c.args.self.now in
    let j = ap (λ (fs : List Frame). last_job old.root (map (task_of known old.rules.list) fs)) (sym c.as_slice.ensures) ∙ sym (c.in-Skip.ensures known old.rules.list) in
    instruction_skipped sheet known invocations old d given s c.requires o _ refl refl refl c.args.target c.args.content j refl refl c.requires

pub returns-then-left-eq0-clause-ok : goal.returns-then-left-eq0-clause-ok
returns-then-left-eq0-clause-ok c = λ sheet known invocations d given o s.
    let old = c.args.self.now in
    let j = ap (λ (fs : List Frame). last_job old.root (map (task_of known old.rules.list) fs)) (sym c.as_slice.ensures) ∙ sym (c.in-Apply.ensures known old.rules.list) in
    instruction_deep sheet known invocations old d given s c.requires o _ refl refl refl c.args.target c.args.content c.in-Apply.left j c.if-left-eq0.true refl refl

pub returns-then-not-self-clause-ok : goal.returns-then-not-self-clause-ok
returns-then-not-self-clause-ok c = λ sheet known invocations d given o s.
    let old = c.args.self.now in
    let j = ap (λ (fs : List Frame). last_job old.root (map (task_of known old.rules.list) fs)) (sym c.as_slice.ensures) ∙ sym (c.in-Apply.ensures known old.rules.list)
    ∙ ap job.Apply (left_is c.in-Apply.left c.if-left-eq0.false) in
    instruction_quiet sheet known invocations old d given s c.requires o _ refl refl refl c.args.target c.args.content _ j c.if-not-self.true refl refl c.requires

pub returns-else-not-self-clause-ok : goal.returns-else-not-self-clause-ok
returns-else-not-self-clause-ok c = on_ok_weaker c.write.result (λ wrote sheet known invocations d given o s.
    let old = c.args.self.now in
    let j = ap (λ (fs : List Frame). last_job old.root (map (task_of known old.rules.list) fs)) (sym c.as_slice.ensures) ∙ sym (c.in-Apply.ensures known old.rules.list)
    ∙ ap job.Apply (left_is c.in-Apply.left c.if-left-eq0.false) in
    instruction_comes sheet known invocations old d given s c.requires o _ c.args.target c.args.content _ j c.if-not-self.false wrote c.write.ensures.frames) c.write.ensures.ok
