use Rattle.std.proofs.Common.{◌/◌, ◌-◌, Ok, List, [], ◌∷◌, ◌++◌, length, drop, map, Err, refl, ap, sym, ◌∙◌, arith}
use Rattle.std.proofs.lemmas.Result.{err_from_is_err_and}
use Rattle.sx_atoms.specs.declared.error_codes.Code.{Code}
use Rattle.sx_kinds.specs.Types.{each, focus, known_by, typing}
use Rattle.sx_kinds.specs.declared.expressions.Expr.{Expr}
use Rattle.sx_kinds.specs.declared.expressions.Expr.TheViews.{out-Expr}
use Rattle.sx_kinds.specs.declared.types.Parts.{Parts}
use Rattle.sx_kinds.specs.declared.types.Ty.{Ty}
use Rattle.sx_kinds.specs.Ways.{front}
use Rattle.sx_kinds.specs.declared.walks.Way.TheVariants.{OneFocus}
use Rattle.sx_types.specs.Firsts.{known_front}
use Rattle.sx_types.proofs.Firsts.{begun, code_up, front_rest, known_at, levels_below, part_smaller}
use Rattle.sx_types.proofs.Known.{each_code, each_end, each_step, typing_code, typing_known}
use Rattle.sx_types.proofs.typing.+typing.Goals as goal

pub level-loop-part-init : goal.level-loop-part-init
level-loop-part-init t c =
    let e = c.args.e.now in
    let form = (out-Expr e).form in (
      known_front c.args.first c.as_slice.result.now,
      c.begun.ensures.known,
      λ h. ap (λ (items : List Expr). each form c.below-context.result (known_front c.args.first c.as_slice.result.now) (map typing items)) c.begun.ensures.behind ∙
          ap (λ (items : List Expr). each form c.below-context.result (known_front c.args.first items) (map typing (drop (length (known_front c.args.first items)) items))) c.as_slice.ensures ∙
          ap (λ (w : Ty). each form w (known_front c.args.first (out-Expr e).parts) (map typing (drop (length (known_front c.args.first (out-Expr e).parts)) (out-Expr e).parts))) c.below-context.ensures ∙
          begun e c.args.outer.now c.args.first h ∙
          ap (λ (w : Ty). each form w [] (map typing (out-Expr e).parts)) (sym c.below-context.ensures),
    )

pub level-typing_of-requires : goal.level-typing_of-requires
level-typing_of-requires t c =
    let k = length (known_front c.args.first c.as_slice.result.now) in
    let h = part_smaller c.args.e.now c.begun.result.1.now c.as_slice.result.now k c.loop-part.part-index c.part-item.result
    c.begun.ensures.behind c.as_slice.ensures c.loop-part-test.true c.part-item.is in
    (omega (arith, h), tt)

pub level-loop-part-preserved : goal.level-loop-part-preserved
level-loop-part-preserved t c =
    let form = (out-Expr c.args.e.now).form in
    let inv = c.loop-part.invariant in
    let here = c.focus-inner.ensures ∙ ap (λ (p : Parts). focus form c.below-context.result p.first) inv.1 in
    let k = ap (typing c.part-item.result) (sym here) ∙ sym c.typing_of.ensures ∙ c.in_ok-t.was in (
      inv.0 ++ c.in_ok-t.t ∷ [],
      c.and_one-parts.ensures inv.0 inv.1,
      λ h. sym (each_step form c.below-context.result inv.0 c.begun.result.1.now c.loop-part.part-index c.part-item.result
          c.in_ok-t.t c.loop-part-test.true c.part-item.is k) ∙ inv.2 h,
    )

pub level-returns-in_err-t : goal.level-returns-in_err-t
level-returns-in_err-t t c = λ h.
    let form = (out-Expr c.args.e.now).form in
    let inv = c.loop-part.invariant in
    let here = c.focus-inner.ensures ∙ ap (λ (p : Parts). focus form c.below-context.result p.first) inv.1 in
    let k = ap (typing c.part-item.result) (sym here) ∙ sym c.typing_of.ensures ∙ c.in_err-t.was in
    let p = err_from_is_err_and c.from_residual.result c.from_residual.ensures.1 in
    let code = c.in_err-t.field-0.0 in
    let stops = sym (inv.2 h) ∙
    each_code form c.below-context.result inv.0 c.begun.result.1.now c.loop-part.part-index c.part-item.result code
    c.loop-part-test.true c.part-item.is k in
    p.1 ∙ ap (λ (x : Code). Err x) p.2 ∙
    sym (typing_code c.args.e.now c.args.outer.now c.below-context.result (out-Expr c.args.e.now).parts c.below-context.ensures refl code stops)

pub level-returns : goal.level-returns
level-returns t c = λ h.
    let form = (out-Expr c.args.e.now).form in
    let inv = c.loop-part.invariant in
    let end = sym (inv.2 h) ∙ each_end form c.below-context.result inv.0 c.begun.result.1.now c.loop-part.part-index c.loop-part-test.false in
    c.known_by.ensures ∙
    ap (known_by form (out-Expr c.args.e.now).deep c.below-context.result) inv.1 ∙
    sym (typing_known c.args.e.now c.args.outer.now c.below-context.result (out-Expr c.args.e.now).parts c.below-context.ensures refl inv.0 end)

pub rise-level-requires : goal.rise-level-requires
rise-level-requires t c = (omega arith, tt)

pub rise-rise-requires : goal.rise-rise-requires
rise-rise-requires t c =
    let left = levels_below (c.args.n / 2) c.args.e.now c.below-middle.result.now (omega (arith, c.requires)) c.below-middle.ensures.is in
    (omega (arith, c.below-middle.ensures.smaller), omega (arith, left, c.requires))

pub rise-rise-requires-2 : goal.rise-rise-requires-2
rise-rise-requires-2 t c = (omega arith, omega (arith, c.requires))

pub rise-returns-in_err-known : goal.rise-returns-in_err-known
rise-returns-in_err-known t c = λ h.
    let half = c.args.n / 2 in
    let middle = c.below-middle.result.now in
    let outer = c.args.outer.now in
    let rest = front_rest half c.args.n c.args.e.now middle (omega arith) c.below-middle.ensures.is in
    let below = known_at (front OneFocus (c.args.n - half) middle) (front OneFocus c.args.n c.args.e.now) outer (Ok c.args.answer) (sym rest) h in
    let p = err_from_is_err_and c.from_residual.result c.from_residual.ensures.1 in
    let code = c.in_err-known.field-0.0 in
    p.1 ∙ ap (λ (x : Code). Err x) p.2 ∙
    sym (code_up half c.args.e.now middle outer code (omega (arith, c.requires)) c.below-middle.ensures.is (sym (c.rise.ensures below) ∙ c.in_err-known.was))

pub rise-returns : goal.rise-returns
rise-returns t c = λ h.
    let half = c.args.n / 2 in
    let middle = c.below-middle.result.now in
    let outer = c.args.outer.now in
    let rest = front_rest half c.args.n c.args.e.now middle (omega arith) c.below-middle.ensures.is in
    let below = known_at (front OneFocus (c.args.n - half) middle) (front OneFocus c.args.n c.args.e.now) outer (Ok c.args.answer) (sym rest) h in
    c.rise-2.ensures (known_at (front OneFocus half c.args.e.now) middle outer (Ok c.in_ok-known.known) c.below-middle.ensures.is
    (sym (c.rise.ensures below) ∙ c.in_ok-known.was))

pub typing_of-level-requires : goal.typing_of-level-requires
typing_of-level-requires t c = (omega (arith, c.below-bottom.ensures.smaller), tt)

pub typing_of-rise-requires : goal.typing_of-rise-requires
typing_of-rise-requires t c = (omega arith, omega (arith, c.levels-n.ensures))

pub typing_of-returns-in_err-answer : goal.typing_of-returns-in_err-answer
typing_of-returns-in_err-answer t c =
    let p = err_from_is_err_and c.from_residual.result c.from_residual.ensures.1 in
    let code = c.in_err-answer.field-0.0 in
    p.1 ∙ ap (λ (x : Code). Err x) p.2 ∙
    sym (code_up c.levels-n.result c.args.e.now c.below-bottom.result.now c.args.context.now code (omega (arith, c.levels-n.ensures)) c.below-bottom.ensures.is
    (sym (c.level.ensures tt) ∙ c.in_err-answer.was))

pub typing_of-returns : goal.typing_of-returns
typing_of-returns t c =
    c.rise.ensures (known_at (front OneFocus c.levels-n.result c.args.e.now) c.below-bottom.result.now c.args.context.now (Ok c.in_ok-answer.answer) c.below-bottom.ensures.is
    (sym (c.level.ensures tt) ∙ c.in_ok-answer.was))
