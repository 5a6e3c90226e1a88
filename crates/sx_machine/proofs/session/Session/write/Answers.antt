use Rattle.std.proofs.Common.{Option, ap, refl, ◌∙◌}
use Rattle.sx_atoms.specs.declared.error_codes.Code.{Code}
use Rattle.sx_machine.specs.Run.{waits, ending_with}
use Rattle.sx_machine.specs.Session.{state_of}
use Rattle.sx_machine.proofs.session.Session.write.Goals as goal

pub returns-clause-ok : goal.returns-clause-ok
returns-clause-ok c = record {
  same_rules = refl;
  same_copying = refl;
  same_root = refl;
  wrote = λ asked given none stands.
      let now = c.in_ok-push.ensures asked given stands in
      (now, c.state_with-self.ensures.state waits refl ∙ ap (λ (found : Option Code). state_of (ending_with found waits)) (c.error.ensures ∙ now.error_is));
}
