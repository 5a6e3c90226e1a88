use Rattle.std.proofs.Common.{[], ◌∷◌, ◌++◌, ap, ◌∙◌}
use Rattle.sx_kinds.specs.Types.{typing}
use Rattle.sx_kinds.specs.declared.expressions.Expr.{Expr}
use Rattle.sx_kinds.specs.declared.expressions.Expr.TheViews.{out-Expr}
use Rattle.sx_types.specs.Places.{place_of}
use Rattle.sx_types.proofs.Rewriting.{finished_is}
use Rattle.sx_types.proofs.settling.finish.Goals as goal

pub returns : goal.returns
returns c = λ before outer known.
    let is = finished_is (out-Expr c.args.e.now) (place_of c.args.here.now) c.args.here.now.context outer c.args.parts c.args.known.now before known.0 known.1 known.2
    c.answered-answer.result c.answered-settled.result c.deep_after-deep.result c.in_ok-form.form
    c.answered-answer.ensures c.deep_after-deep.ensures c.in_ok-form.ensures c.answered-settled.ensures in (
      c.in_ok-push.ensures.ok ∙ ap (λ (made : Expr). c.args.done.now ++ made ∷ []) is.0,
      is.1 ∙ ap (λ (made : Expr). typing made outer) is.0,
    )
