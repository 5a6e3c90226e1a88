use Rattle.std.proofs.Common.{List, map, refl, ap, sym, ◌∙◌}
use Rattle.std.proofs.lemmas.Result.{on_ok_weaker}
use Rattle.sx_machine.specs.declared.session.Frame.{Frame}
use Rattle.sx_machine.specs.declared.session.Job.TheVariants as job
use Rattle.sx_machine.specs.Plan.{last_job, task_of}
use Rattle.sx_machine.proofs.Moves.{text_quiet, text_deep, text_comes, left_is}
use Rattle.sx_machine.proofs.session.Session.say.Goals as goal

pub returns-in-Skip-clause-ok : goal.returns-in-Skip-clause-ok
returns-in-Skip-clause-ok c = λ sheet known invocations d given o s.
    let old = c.args.self.now in
    let j = ap (λ (fs : List Frame). last_job old.root (map (task_of known old.rules.list) fs)) (sym c.as_slice.ensures) ∙ sym (c.in-Skip.ensures known old.rules.list) in
    text_quiet sheet known invocations old d given s c.requires o _ refl refl refl c.args.text j refl refl c.requires

pub returns-then-left-eq0-clause-ok : goal.returns-then-left-eq0-clause-ok
returns-then-left-eq0-clause-ok c = λ sheet known invocations d given o s.
    let old = c.args.self.now in
    let j = ap (λ (fs : List Frame). last_job old.root (map (task_of known old.rules.list) fs)) (sym c.as_slice.ensures) ∙ sym (c.in-Apply.ensures known old.rules.list) in
    text_deep sheet known invocations old d given s c.requires o _ refl refl refl c.args.text c.in-Apply.left j c.if-left-eq0.true refl refl

pub returns-else-left-eq0-clause-ok : goal.returns-else-left-eq0-clause-ok
returns-else-left-eq0-clause-ok c = on_ok_weaker c.write.result (λ wrote sheet known invocations d given o s.
    let old = c.args.self.now in
    let j = ap (λ (fs : List Frame). last_job old.root (map (task_of known old.rules.list) fs)) (sym c.as_slice.ensures) ∙ sym (c.in-Apply.ensures known old.rules.list)
    ∙ ap job.Apply (left_is c.in-Apply.left c.if-left-eq0.false) in
    text_comes sheet known invocations old d given s c.requires o _ c.args.text _ j wrote c.write.ensures.frames) c.write.ensures.ok
