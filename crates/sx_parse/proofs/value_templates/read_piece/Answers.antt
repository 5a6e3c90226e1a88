use Rattle.std.proofs.Common.{arith, ℕ, List, false, inl, subst, ap, length, length-take, length-drop, drop, ◌-◌, ◌+◌, ◌*◌, ◌≤◌}
use Rattle.sx_parse.specs.Answers.{IsRefused}
use Rattle.sx_parse.specs.Parsed.{IsSaid}
use Rattle.sx_parse.proofs.Turning.{turn_fixed, turn_inner, turn_refused}
use Rattle.sx_parse.proofs.Within.{refused_within}
use Rattle.sx_parse.proofs.value_templates.read_piece.Goals as goal

pub returns-in_ok-push-in-Fixed-clause-turns : goal.returns-in_ok-push-in-Fixed-clause-turns
returns-in_ok-push-in-Fixed-clause-turns c = λ first n h.
    let found = rw c.in-Fixed.is at c.in_ok-next_at.ensures in
    rw c.in_ok-push-in-Fixed.ensures.ok (found.begins, turn_fixed c.args.scope.now c.args.text.now c.args.at.now.line first n c.args.offset c.args.parts.now c.args.names.now c.args.at.now.next c.in-Fixed.fixed c.in-Fixed.end found h)

pub returns-in-Err-clause-turns : goal.returns-in-Err-clause-turns
returns-in-Err-clause-turns c = λ first n h.
    let found = rw c.in-Inner.is at c.in_ok-next_at.ensures in
    let kept = rw c.in-Err.is at c.in_ok-fault-in-Inner.ensures.refused in
    let says = rw c.in-Err.is at c.in_ok-fault-in-Inner.ensures.says in
    rw (c.shifted.ensures, kept.0, kept.1) (
      inl (turn_refused c.args.scope.now c.args.text.now c.args.at.now.line first n c.args.offset c.args.parts.now c.args.names.now c.args.at.now.next c.in-Inner.start c.in-Inner.end c.in-Err.fault found h
          (subst (λ (s : List ℕ). IsRefused false c.args.scope.now s c.in-Err.fault) c.range.ensures.value says)),
      h,
    )

pub shifted-requires-clause-inside : goal.shifted-requires-clause-inside
shifted-requires-clause-inside c =
    let says = rw c.in-Err.is at c.in_ok-fault-in-Inner.ensures.says in
    let w = refused_within false c.args.scope.now c.range.result.now c.in-Err.fault c.range.utf8 says in
    omega (arith, w, ap length c.range.ensures.value, length-take (c.in-Inner.end - c.in-Inner.start) (drop c.in-Inner.start c.args.text.now), length-drop c.in-Inner.start c.args.text.now, c.requires.short)

pub returns-in_ok-push-in-Ok-clause-turns : goal.returns-in_ok-push-in-Ok-clause-turns
returns-in_ok-push-in-Ok-clause-turns c = λ first n h.
    let found = rw c.in-Inner.is at c.in_ok-next_at.ensures in
    let says = rw c.in-Ok.is at c.in_ok-fault-in-Inner.ensures.says in
    let k = c.expression.new.at.next in
    rw c.in_ok-push-in-Ok.ensures.ok (
      omega (arith, found.begins, found.order),
      turn_inner c.args.scope.now c.args.text.now c.args.at.now.line first n c.args.offset c.args.parts.now c.args.names.now c.args.at.now.next c.in-Inner.start c.in-Inner.end c.expression.new.names k c.in-Ok.expr found h
          (subst (λ (s : List ℕ). IsSaid c.args.scope.now s c.args.at.now.line c.args.names.now c.args.at.now.next c.expression.new.names k c.in-Ok.expr) c.range.ensures.value says)
          (subst (λ (s : List ℕ). k ≤ c.args.at.now.next + 2 * length s) c.range.ensures.value c.in_ok-fault-in-Inner.ensures.grows),
    )
