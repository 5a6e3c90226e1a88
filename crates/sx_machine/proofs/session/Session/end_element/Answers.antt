use Rattle.std.proofs.Common.{◌++◌, ◌∷◌, [], List, refl, ap, sym, ◌∙◌}
use Rattle.std.proofs.lemmas.Result.{on_ok_weaker}
use Rattle.sx_machine.specs.declared.session.Frame.{Frame}
use Rattle.sx_machine.proofs.Moves.{end_nothing, end_comes, after_known}
use Rattle.sx_machine.proofs.session.Session.end_element.Goals as goal

pub returns-in-None-clause-ok : goal.returns-in-None-clause-ok
returns-in-None-clause-ok c = λ sheet known invocations d given keeps o s.
    end_nothing sheet known invocations c.args.self.now d given s c.requires o _ refl refl refl c.in-None.ensures.0 c.in-None.ensures.1 refl c.requires

pub returns-in-Some-clause-ok : goal.returns-in-Some-clause-ok
returns-in-Some-clause-ok c = on_ok_weaker c.leave.result (λ wrote sheet known invocations d given keeps o s.
    let old = c.args.self.now in
    let frame : Frame = c.in-Some.frame in
    end_comes sheet known invocations old d given s c.requires o c.leave.new.self c.args.names.now frame
    (c.in-Some.ensures ∙ ap (λ (fs : List Frame). fs ++ frame ∷ []) (sym c.leave.ensures.frames))
    (after_known sheet known invocations old d given s c.requires o c.args.names.now keeps frame.after)
    (record { same_rules = wrote.same_rules; same_copying = wrote.same_copying; same_root = wrote.same_root; wrote = wrote.wrote })) c.leave.ensures.ok
