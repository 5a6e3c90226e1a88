use Rattle.std.proofs.Common.{◌≡◌, ◌++◌, ◌∷◌, [], Option, Some, None, refl, ◌∙◌, ap}
use Rattle.std.specs.Result.{result_err}
use Rattle.sx_atoms.specs.declared.error_codes.Code.{Code}
use Rattle.sx_build.specs.Asked.{asked_at}
use Rattle.sx_build.specs.Build.{error_of}
use Rattle.sx_build.specs.Builder.{answer_of}
use Rattle.sx_machine.proofs.writer.Writer.push.Goals as goal

err_answered : (found : Option Code) → result_err (answer_of found) ≡ found
err_answered None = refl
err_answered (Some code) = refl

pub returns : goal.returns
returns c = λ asked given s. record {
  builds = c.in_ok-push.ensures.stands asked given s.builds;
  error_is = c.err-self.ensures.value ∙ ap result_err (c.in_ok-push.ensures.answer asked given s.builds)
      ∙ err_answered (error_of (asked ++ asked_at c.args.names.now c.args.raw ∷ []));
  none_turned = s.none_turned;
}
